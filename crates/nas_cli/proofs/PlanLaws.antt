-- What both files hold decides what is planned.
use Rattle.std.proofs.Common.{◌≡◌, ◌≤◌, ℕ, List, length, Option, Some, None, Result, Ok, subst, arith}
use Rattle.std.proofs.lemmas.Grind.{common_steps}
use Rattle.std.specs.Prelude.{IfSome}
use Rattle.nas_script.specs.Config.{config_in}
use Rattle.nas_script.specs.Script.{script_in}
use Rattle.nas_cli.specs.Files.{Content}
use Rattle.nas_cli.specs.Program.{Fetches, IsRefused, Plans, configured, planned, within}
use Rattle.nas_cli.specs.declared.plan.Run.{Run}
use Rattle.nas_cli.specs.declared.plan.Stop.{Stop}

-- both are there, and neither is too long
both_within : {A : Type 0} (config script : Option (List ℕ)) (c s : List ℕ) (f : List ℕ → List ℕ → Result A Stop) → config ≡ Some c → length c ≤ 1048576 →
    script ≡ Some s → length s ≤ 1048576 → within config (λ (x : List ℕ). within script (λ (y : List ℕ). f x y)) ≡ f c s
both_within config script c s f there short also fits = rw (there, also) (grind (arith, common_steps))

pub planned_by : (old new : Option Content) (config script c s x y : List ℕ) (r : Result Run Stop) → new ≡ old → x ≡ c → y ≡ s →
    IfSome old (λ (files : Content). Fetches (files config) (Ok c)) → IfSome new (λ (files : Content). Fetches (files script) (Ok s)) →
    Plans (configured (config_in x) (script_in y)) r → IfSome old (λ (files : Content). Plans (planned (files config) (files script)) r)
planned_by None new config script c s x y r same first_is second_is first second plans = tt
planned_by (Some files) new config script c s x y r same first_is second_is first second plans =
    let also = subst (λ (n : Option Content). IfSome n (λ (fs : Content). Fetches (fs script) (Ok s))) same second in
    let told = subst (λ (v : List ℕ). Plans (configured (config_in v) (script_in y)) r) first_is plans in
    let both = subst (λ (v : List ℕ). Plans (configured (config_in c) (script_in v)) r) second_is told in
    rw (both_within (files config) (files script) c s (λ (v w : List ℕ). configured (config_in v) (script_in w)) first.0 first.1 also.0 also.1) both

-- a file that was read is not refused
refusal_fails : (config : Option (List ℕ)) (c : List ℕ) (P : Type 0) → config ≡ Some c → length c ≤ 1048576 → IsRefused config → P
refusal_fails None c P there short refused = grind (arith, common_steps)
refusal_fails (Some octets) c P there short refused = grind (arith, common_steps)

pub read_unrefused : (old : Option Content) (config c : List ℕ) (P : Type 0) → IfSome old (λ (files : Content). Fetches (files config) (Ok c)) →
    IfSome old (λ (files : Content). IsRefused (files config) → P)
read_unrefused None config c P first = tt
read_unrefused (Some files) config c P first = refusal_fails (files config) c P first.0 first.1
