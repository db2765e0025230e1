-- How long messages are (TS 24.501 clause 9.1.1).
use Rattle.std.specs.Prelude.{◌≤◌, List, [], ◌∷◌, length, Result, Ok, Err}
use Rattle.amf_core.specs.Step.{Stepped}
use Rattle.amf_core.specs.declared.inputs.AmfRefusal.{AmfRefusal}
use Rattle.amf_core.specs.declared.outs.AmfOut.{AmfOut}
use Rattle.amf_core.specs.declared.outs.AmfOut.TheVariants.{Send, Passed, Smf, Start, Stop}

-- a message that goes out has 4,096 octets at most
abbrev pub Fits : AmfOut → Type 0
Fits (Send message) = length message.octets ≤ 4096
Fits (Passed pass) = Unit {0}
Fits (Smf call) = Unit {0}
Fits (Start supi id at) = Unit {0}
Fits (Stop supi id) = Unit {0}

abbrev pub AllFit : List AmfOut → Type 0
AllFit [] = Unit {0}
AllFit (out ∷ outs) = Fits out × AllFit outs

-- and so each that a step sends
abbrev pub MessagesFit : Result Stepped AmfRefusal → Type 0
MessagesFit (Ok new) = AllFit new.outs
MessagesFit (Err refusal) = Unit {0}
