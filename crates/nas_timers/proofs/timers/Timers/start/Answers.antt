use Rattle.std.proofs.Common.{◌≡◌, ◌∙◌, true, false, List, length, arith, ap, sym, subst}
use Rattle.std.proofs.lemmas.List.Edits.{length-insert}
use Rattle.nas_timers.specs.Places.{is_at, place_of}
use Rattle.nas_timers.specs.Timers.{Running, are_timers, started}
use Rattle.nas_timers.proofs.PlaceLemmas.{added, place_within, replaced_whole}
use Rattle.nas_timers.proofs.TimersLemmas.{counted, timers_started}
use Rattle.nas_timers.proofs.timers.Timers.start.Goals as goal

pub returns-then-is_at : goal.returns-then-is_at
returns-then-is_at c =
    replaced_whole c.args.id c.args.at c.place_of-index.result c.args.self.now c.self.inside.entries.items c.deref_mut.result.now
    (cc) c.deref_mut.ensures.value c.place_of-index.ensures (sym c.is_at.ensures ∙ c.if-is_at.true) c.self.invariant

pub invariant_of-self : goal.invariant_of-self
invariant_of-self c =
    let named = c.session-session.ensures.named in
    let same : c.args.self.now ≡ c.self.inside.entries.items = cc in
    let whole = returns-then-is_at c in
    subst (λ (ts : List Running). are_timers ts ≡ true) (sym whole)
    (timers_started c.args.id c.args.at c.args.self.now named (subst (λ (ts : List Running). are_timers ts ≡ true) (sym same) c.self.invariant))

pub returns-else-is_at : goal.returns-else-is_at
returns-else-is_at c =
    let same : c.args.self.now ≡ c.self.inside.entries.items = cc in
    let old : are_timers c.args.self.now ≡ true = subst (λ (ts : List Running). are_timers ts ≡ true) (sym same) c.self.invariant in
    let apart : is_at (place_of c.args.id c.args.self.now) c.args.id c.args.self.now ≡ false =
    rw (← c.place_of-index.ensures) (sym c.is_at.ensures ∙ c.if-is_at.false) in
    let sum = added c.args.id c.args.at c.args.self.now old apart in cc

pub invariant_of-self-else-is_at : goal.invariant_of-self-else-is_at
invariant_of-self-else-is_at c =
    let named = c.session-session.ensures.named in
    let same : c.args.self.now ≡ c.self.inside.entries.items = cc in
    let whole = returns-else-is_at c in
    subst (λ (ts : List Running). are_timers ts ≡ true) (sym whole)
    (timers_started c.args.id c.args.at c.args.self.now named (subst (λ (ts : List Running). are_timers ts ≡ true) (sym same) c.self.invariant))

-- with the name that is added there are still no more than names
pub insert-requires : goal.insert-requires
insert-requires c =
    let same : c.args.self.now ≡ c.self.inside.entries.items = cc in
    let old : are_timers c.args.self.now ≡ true = subst (λ (ts : List Running). are_timers ts ≡ true) (sym same) c.self.invariant in
    let apart : is_at (place_of c.args.id c.args.self.now) c.args.id c.args.self.now ≡ false =
    rw (← c.place_of-index.ensures) (sym c.is_at.ensures ∙ c.if-is_at.false) in
    let sum = ap length (added c.args.id c.args.at c.args.self.now old apart) in
    let few = counted (started c.args.id c.args.at c.args.self.now) (timers_started c.args.id c.args.at c.args.self.now c.session-session.ensures.named old) in
    let within = place_within c.args.id c.args.self.now in
    let more = length-insert c.args.self.now (place_of c.args.id c.args.self.now) (record { id = c.args.id; at = c.args.at }) within in
    let size = ap length same in (omega arith, (omega arith, omega arith))
