use Rattle.std.proofs.Common.{◌≡◌, ◌++◌, drop}
use Rattle.nas_script.specs.Ends.{others_text}
use Rattle.nas_script.proofs.ends.append_others.Given as goal

-- the text so far and those that are left are those of all
abbrev pub invariant-loop-kept : goal.invariant-loop-kept
invariant-loop-kept l =
    l.text.items ++ others_text (drop l.kept-index l.gutis) ≡ l.initial.text.items ++ others_text l.gutis
