-- The first word that isn't full has the first bit that is 0; where there is none, or none below the size, no number is free.
use Rattle.std.proofs.Common.{◌<◌, ◌≤◌, ◌+◌, ◌*◌, ◌^◌, sym, ◌∙◌, arith}
use Rattle.std.specs.Prelude.{slice_index}
use Rattle.std.specs.Int.{trailing_ones, w64}
use Rattle.nas_pools.proofs.SummaryLemmas.{first_below, first_past, no_word, past_words}
use Rattle.nas_pools.proofs.bits.first_free.Goals as goal

pub returns-in_err-place : goal.returns-in_err-place
returns-in_err-place c =
    c.from_residual.ensures ∙ sym (no_word c.args.size c.args.words.now c.args.full.now c.requires (sym c.first_clear.ensures ∙ c.in_err-place.was))

pub returns-then-place-words : goal.returns-then-place-words
returns-then-place-words c = sym (past_words c.args.size c.in_ok-place.place c.args.words.now c.args.full.now c.requires (sym c.in_ok-place.ensures) c.if-place-words.true)

pub returns-then-number-size : goal.returns-then-number-size
returns-then-number-size c =
    let range = c.type_inv.words c.in_ok-place.place in
    let fits : slice_index c.args.words.now c.in_ok-place.place < 2 ^ 64 = omega (arith, range) in
    let below : 64 * c.in_ok-place.place + trailing_ones w64 (slice_index c.args.words.now c.in_ok-place.place) < c.args.size = omega (arith, c.trailing_ones.ensures) in
    rw c.trailing_ones.ensures
    (sym
    (first_below c.args.size c.in_ok-place.place c.args.words.now c.args.full.now c.requires (sym c.in_ok-place.ensures) c.if-place-words.false fits below))

pub returns-else-number-size : goal.returns-else-number-size
returns-else-number-size c =
    let range = c.type_inv.words c.in_ok-place.place in
    let fits : slice_index c.args.words.now c.in_ok-place.place < 2 ^ 64 = omega (arith, range) in
    let past : c.args.size ≤ 64 * c.in_ok-place.place + trailing_ones w64 (slice_index c.args.words.now c.in_ok-place.place) = omega (arith, c.trailing_ones.ensures) in
    sym (first_past c.args.size c.in_ok-place.place c.args.words.now c.args.full.now c.requires (sym c.in_ok-place.ensures) c.if-place-words.false fits past)
