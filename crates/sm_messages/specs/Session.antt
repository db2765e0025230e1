-- What a PDU session is (TS 24.501 clause 6.1.1).
use Rattle.std.specs.Prelude.{ℕ, List, Option}
use Rattle.nas_elements.specs.declared.address.Address.{Address}
use Rattle.nas_elements.specs.declared.ambr.Ambr.{Ambr}
use Rattle.nas_elements.specs.declared.slice.Slice.{Slice}
use Rattle.nas_qos.specs.Rules.{QosRule}

pub record SessionValues : Type 0 where
  pub kind : ℕ
  pub address : Option Address
  pub dnn : Option (List ℕ)
  pub slice : Option Slice
  pub ambr : Ambr
  pub rules : List QosRule
