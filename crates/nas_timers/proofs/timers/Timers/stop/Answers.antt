use Rattle.std.proofs.Common.{◌≡◌, ◌∙◌, true, false, List, length, arith, ap, sym, subst}
use Rattle.nas_timers.specs.Places.{is_at, place_of}
use Rattle.nas_timers.specs.Timers.{Running, are_timers}
use Rattle.nas_timers.proofs.PlaceLemmas.{absent, at_within, removed}
use Rattle.nas_timers.proofs.TimersLemmas.{timers_stopped}
use Rattle.nas_timers.proofs.timers.Timers.stop.Goals as goal

pub remove-requires : goal.remove-requires
remove-requires c =
    let same : c.args.self.now ≡ c.self.inside.entries.items = cc in
    let there : is_at c.place_of-index.result c.args.id c.args.self.now ≡ true = sym c.is_at.ensures ∙ c.if-is_at.true in
    let within = at_within c.place_of-index.result c.args.id c.args.self.now there in let size = ap length same in (omega arith, omega arith)

pub returns-then-is_at : goal.returns-then-is_at
returns-then-is_at c =
    let same : c.args.self.now ≡ c.self.inside.entries.items = cc in
    let old : are_timers c.args.self.now ≡ true = subst (λ (ts : List Running). are_timers ts ≡ true) (sym same) c.self.invariant in
    let there : is_at (place_of c.args.id c.args.self.now) c.args.id c.args.self.now ≡ true =
    rw (← c.place_of-index.ensures) (sym c.is_at.ensures ∙ c.if-is_at.true) in
    let rest = removed c.args.id c.args.self.now old there in cc

pub invariant_of-self : goal.invariant_of-self
invariant_of-self c =
    let same : c.args.self.now ≡ c.self.inside.entries.items = cc in
    subst (λ (ts : List Running). are_timers ts ≡ true) (sym (returns-then-is_at c))
    (timers_stopped c.args.id c.args.self.now (subst (λ (ts : List Running). are_timers ts ≡ true) (sym same) c.self.invariant))

pub returns-else-is_at : goal.returns-else-is_at
returns-else-is_at c =
    let same : c.args.self.now ≡ c.self.inside.entries.items = cc in
    let old : are_timers c.args.self.now ≡ true = subst (λ (ts : List Running). are_timers ts ≡ true) (sym same) c.self.invariant in
    let apart : is_at (place_of c.args.id c.args.self.now) c.args.id c.args.self.now ≡ false =
    rw (← c.place_of-index.ensures) (sym c.is_at.ensures ∙ c.if-is_at.false) in
    sym (absent c.args.id c.args.self.now old apart)
