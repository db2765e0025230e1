-- What a step leaves, while it goes on. What was kept before stays as it is until the step is done.
use Rattle.std.specs.Prelude.{List}
use Rattle.milenage.specs.Home.{HomeRecord}
use Rattle.amf_core.specs.Changes.{ChangeLists, CoreState, changed, home_now}
use Rattle.amf_core.specs.State.{AmfState}

-- the AMF and the home network as they are by now, and as they were
pub record DraftState : Type 0 where
  pub amf : AmfState
  pub home : List HomeRecord
  pub before : CoreState

-- what these changes make of what was kept
abbrev pub drafted : ChangeLists → CoreState → DraftState
drafted c b = record { amf = changed c b.amf; home = home_now c.home b.home; before = b }
