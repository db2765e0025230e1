-- The number's bit becomes 1, and that of its word where the word is full then.
use Rattle.std.proofs.Common.{◌≡◌, ◌<◌, ◌/◌, true, false, sym, subst, ◌∙◌}
use Rattle.std.specs.Prelude.{slice_index}
use Rattle.nas_pools.specs.Bits.{is_full, marked}
use Rattle.nas_pools.specs.Numbers.{NumbersParts}
use Rattle.nas_pools.proofs.BitLemmas.{length-marked}
use Rattle.nas_pools.proofs.SummaryLemmas.{taken_full, taken_kept, word_there}
use Rattle.nas_pools.proofs.ViewLemmas.{shown_marked}
use Rattle.nas_pools.proofs.numbers.Numbers.take.Goals as goal

pub is_full-requires : goal.is_full-requires
is_full-requires c =
    let below : c.args.number < c.self.inside.size = subst (λ (n : NumbersParts). c.args.number < n.size) (sym c.self.view_is) c.requires in
    rw (c.as_slice.ensures.value, c.mark.ensures, length-marked c.args.number c.self.inside.words.items)
    (word_there c.self.inside.size c.args.number c.self.inside.words.items c.self.inside.full.items c.self.invariant below)

pub invariant_of-self : goal.invariant_of-self
invariant_of-self c =
    let below : c.args.number < c.self.inside.size = subst (λ (n : NumbersParts). c.args.number < n.size) (sym c.self.view_is) c.requires in
    let test : is_full (slice_index c.as_slice.result.now (c.args.number / 64)) ≡ true = sym c.is_full.ensures ∙ c.if-is_full.true in
    let full : is_full (slice_index (marked c.args.number c.self.inside.words.items) (c.args.number / 64)) ≡ true = rw (c.as_slice.ensures.value, c.mark.ensures) at test in
    rw (c.mark.ensures, c.mark-then-is_full.ensures)
    (taken_full c.self.inside.size c.args.number c.self.inside.words.items c.self.inside.full.items c.self.invariant below full)

pub invariant_of-self-else-is_full : goal.invariant_of-self-else-is_full
invariant_of-self-else-is_full c =
    let below : c.args.number < c.self.inside.size = subst (λ (n : NumbersParts). c.args.number < n.size) (sym c.self.view_is) c.requires in
    let test : is_full (slice_index c.as_slice.result.now (c.args.number / 64)) ≡ false = sym c.is_full.ensures ∙ c.if-is_full.false in
    let not_full : is_full (slice_index (marked c.args.number c.self.inside.words.items) (c.args.number / 64)) ≡ false = rw (c.as_slice.ensures.value, c.mark.ensures) at test in
    rw c.mark.ensures
    (taken_kept c.self.inside.size c.args.number c.self.inside.words.items c.self.inside.full.items c.self.invariant below not_full)

pub returns-then-is_full : goal.returns-then-is_full
returns-then-is_full c =
    let below : c.args.number < c.self.inside.size = subst (λ (n : NumbersParts). c.args.number < n.size) (sym c.self.view_is) c.requires in
    rw (← c.self.view_is, c.mark.ensures)
    (shown_marked c.self.inside.size c.args.number c.self.inside.words.items below
    (word_there c.self.inside.size c.args.number c.self.inside.words.items c.self.inside.full.items c.self.invariant below))

pub returns-else-is_full : goal.returns-else-is_full
returns-else-is_full c =
    let below : c.args.number < c.self.inside.size = subst (λ (n : NumbersParts). c.args.number < n.size) (sym c.self.view_is) c.requires in
    rw (← c.self.view_is, c.mark.ensures)
    (shown_marked c.self.inside.size c.args.number c.self.inside.words.items below
    (word_there c.self.inside.size c.args.number c.self.inside.words.items c.self.inside.full.items c.self.invariant below))
