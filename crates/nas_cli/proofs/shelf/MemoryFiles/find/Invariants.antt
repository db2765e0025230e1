use Rattle.std.proofs.Common.{◌≡◌, map, drop}
use Rattle.std.specs.Prelude.{string_bytes}
use Rattle.nas_cli.specs.Shelf.{file_named}
use Rattle.nas_cli.specs.declared.shelf.NamedFile.{NamedFile}
use Rattle.nas_cli.proofs.shelf.MemoryFiles.find.Given as goal

-- the first file of this name is the first of those that are left
abbrev pub invariant-loop-file : goal.invariant-loop-file
invariant-loop-file l =
    file_named l.name (map (λ (f : NamedFile). (string_bytes f.name, f.octets.items)) (drop l.file-index l.file-items))
    ≡ file_named l.name (map (λ (f : NamedFile). (string_bytes f.name, f.octets.items)) l.file-items)
