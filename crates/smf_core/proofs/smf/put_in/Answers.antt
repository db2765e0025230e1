use Rattle.std.proofs.Common.{◌≡◌, ◌<◌, ◌∙◌, false, length, arith}
use Rattle.std.specs.Str.{bytes_eq}
use Rattle.smf_core.proofs.Places.{none_more_there, put_there}
use Rattle.smf_core.proofs.smf.put_in.Goals as goal

pub loop-place-preserved : goal.loop-place-preserved
loop-place-preserved c =
    let x = c.index-subscribers-place.result in
    let within : c.loop-place.place < length c.loop-place.subscribers = omega arith in
    let is = c.index-subscribers-place.is in
    let told = c.is_of.ensures in
    let not_its = c.if-is_of.false in
    let other : bytes_eq x.supi c.args.supi.now ≡ false = grind (arith, is, told, not_its) in (
      put_there c.loop-place.subscribers c.loop-place.place x ∙ c.loop-place.invariant.0,
      none_more_there c.loop-place.place c.args.supi.now c.loop-place.subscribers x is within c.loop-place.invariant.1 other,
    )
