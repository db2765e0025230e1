-- One operation more of a list.
use Rattle.std.proofs.Common.{◌≡◌, ◌<◌, ◌≤◌, ◌+◌, ℕ, suc, List, [], ◌∷◌, length, drop, drop-cons, add-one, get_or, Ok, Err, sym, ◌∙◌, ap, arith}
use Rattle.std.proofs.lemmas.Grind.{common_steps}
use Rattle.nas_qos.specs.Applying.{all_applied, applied, next}
use Rattle.nas_qos.specs.Operations.{Operation}
use Rattle.nas_qos.specs.Reads.{Applies, Changes}
use Rattle.nas_qos.specs.Rules.{QosRule}
use Rattle.nas_qos.specs.declared.refusals.ApplyRefusal.{ApplyRefusal}
use Rattle.nas_qos.specs.declared.refusals.ApplyRefusal.TheVariants.{Memory, Qos}

pub next_applied : (ops : List Operation) (i : ℕ) (op : Operation) (rules new first : List QosRule) → i < length ops → op ≡ get_or ops i op → applied op rules ≡ Ok new
    → all_applied (drop i ops) rules ≡ all_applied ops first → all_applied (drop (i + 1) ops) new ≡ all_applied ops first
next_applied ops i op rules new first there is done told =
    let split : drop i ops ≡ get_or ops i op ∷ drop (suc i) ops = drop-cons ops i op there in
    let first_op : drop i ops ≡ op ∷ drop (suc i) ops = split ∙ ap (λ (o : Operation). o ∷ drop (suc i) ops) (sym is) in
    let further : drop (i + 1) ops ≡ drop (suc i) ops = rw add-one in
    ap (λ (os : List Operation). all_applied os new) further
    ∙ ap (λ x. next x (all_applied (drop (suc i) ops))) (sym done)
    ∙ ap (λ (os : List Operation). all_applied os rules) (sym first_op)
    ∙ told

-- an operation that is refused
pub refused : (ops all : List Operation) (i : ℕ) (op : Operation) (rules new first : List QosRule) (refusal : ApplyRefusal) → ops ≡ all → i < length ops → op ≡ get_or ops i op
    → Changes {T = Unit {0}} (Err refusal) rules new op
    → all_applied (drop i ops) rules ≡ all_applied ops first → Applies (Err refusal) (all_applied all first)
refused ops all i op rules new first (Qos fault) same there is done told =
    let first_op : drop i ops ≡ op ∷ drop (suc i) ops = drop-cons ops i op there ∙ ap (λ (o : Operation). o ∷ drop (suc i) ops) (sym is) in
    ap (λ (os : List Operation). all_applied os first) (sym same)
    ∙ sym told
    ∙ ap (λ (os : List Operation). all_applied os rules) first_op
    ∙ ap (λ x. next x (all_applied (drop (suc i) ops))) done
refused ops all i op rules new first Memory same there is done told = tt

-- no operation is left
pub all_done : (ops all : List Operation) (i : ℕ) (rules first : List QosRule) → ops ≡ all → length ops ≤ i
    → all_applied (drop i ops) rules ≡ all_applied ops first → all_applied all first ≡ Ok rules
all_done ops all i rules first same past told =
    let none : drop i ops ≡ [] = grind (arith, common_steps) in
    ap (λ (os : List Operation). all_applied os first) (sym same)
    ∙ sym told
    ∙ ap (λ (os : List Operation). all_applied os rules) none
