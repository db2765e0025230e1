-- What a row told of timers, and what goes out of it.
use Rattle.std.proofs.Common.{◌≡◌, refl, ℕ, List, [], ◌∷◌, ◌++◌}
use Rattle.amf_core.specs.declared.acts.Act.{Act}
use Rattle.amf_core.specs.declared.acts.Act.TheVariants.{Say, Tell}
use Rattle.amf_core.specs.declared.outs.AmfOut.{AmfOut}
use Rattle.amf_laws.specs.Timers.{Running, all_taken, taken_of}

-- what was said starts and stops timers of this SUPI, in order
abbrev pub acted_of : List ℕ → Act → Running → Running
acted_of supi (Tell out) r = taken_of supi out r
acted_of supi (Say number protection message) r = r

abbrev pub all_acted : List ℕ → List Act → Running → Running
all_acted supi [] r = r
all_acted supi (act ∷ acts) r = all_acted supi acts (acted_of supi act r)

-- what comes last is taken last
pub acts_onto : (supi : List ℕ) (acts : List Act) (act : Act) (r : Running)
    → all_acted supi (acts ++ act ∷ []) r ≡ acted_of supi act (all_acted supi acts r)
acts_onto supi [] act r = refl
acts_onto supi (first ∷ acts) act r = acts_onto supi acts act (acted_of supi first r)

pub outs_onto : (supi : List ℕ) (outs : List AmfOut) (out : AmfOut) (r : Running)
    → all_taken supi (outs ++ out ∷ []) r ≡ taken_of supi out (all_taken supi outs r)
outs_onto supi [] out r = refl
outs_onto supi (first ∷ outs) out r = outs_onto supi outs out (taken_of supi first r)
