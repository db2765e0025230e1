-- Why a transcript ended before its end.
use Rattle.std.specs.Prelude.{Bool, true, false}
use Rattle.nas_script.specs.declared.telling.TranscriptFault.{TranscriptFault}
use Rattle.nas_script.specs.declared.telling.TranscriptFault.TheVariants.{Output, Memory}

-- a fault of the sink
abbrev pub is_output : TranscriptFault → Bool
is_output Output = true
is_output Memory = false
