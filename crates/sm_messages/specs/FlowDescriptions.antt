-- QoS flow descriptions (TS 24.501 clause 9.11.4.12).
use Rattle.std.specs.Prelude.{ℕ, List, [], ◌∷◌, Option, Some}
use Rattle.nas_layout.specs.Coding.{Coding, value}
use Rattle.sm_messages.specs.declared.flow_descriptions.FlowDescriptions.{FlowDescriptions}

-- any octets, which are passed over
abbrev pub flow_descriptions_in : List ℕ → Option FlowDescriptions
flow_descriptions_in octets = Some (record {})

-- always one description: QFI 1, create, one parameter: its 5QI, of one octet, is 9
abbrev pub flow_descriptions_octets : FlowDescriptions → List ℕ
flow_descriptions_octets flows = 0x01 ∷ 0x20 ∷ 0x41 ∷ 0x01 ∷ 0x01 ∷ 0x09 ∷ []

abbrev pub flow_descriptions : Coding FlowDescriptions
flow_descriptions = value flow_descriptions_in flow_descriptions_octets
