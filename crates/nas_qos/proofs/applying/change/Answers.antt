use Rattle.std.proofs.Common.{◌≡◌, ◌<◌, false, true, nat_eq, length, arith}
use Rattle.std.proofs.lemmas.Bool.Decides.{nat_tests}
use Rattle.nas_qos.specs.Places.{place}
use Rattle.nas_qos.proofs.Keeping.{may_at}
use Rattle.nas_qos.proofs.PlaceLaws.{changed_at, changed_nowhere, deleted_at, found_at}
use Rattle.nas_qos.proofs.RuleLists.{found_id}
use Rattle.nas_qos.proofs.applying.change.Goals as goal

pub returns-then-at-len : goal.returns-then-at-len
returns-then-at-len c =
    let other : nat_eq c.args.op.now.code 1 ≡ false = rw (← c.op.view_is) (grind (arith, nat_tests, c.if-op-eq-CREATE.false)) in
    let there : c.place-at.result ≡ place c.args.op.now.id c.args.rules.now.items = rw (← c.op.view_is) (rw c.as_slice.ensures.value at c.place-at.ensures.value) in
    let last : place c.args.op.now.id c.args.rules.now.items ≡ length c.args.rules.now.items = omega (arith, there, c.if-at-len.true, c.len.ensures) in
    changed_nowhere c.args.op.now c.args.rules.now.items other last

pub returns-then-op-eq-DELETE : goal.returns-then-op-eq-DELETE
returns-then-op-eq-DELETE c =
    let other : nat_eq c.args.op.now.code 1 ≡ false = rw (← c.op.view_is) (grind (arith, nat_tests, c.if-op-eq-CREATE.false)) in
    let deletes : nat_eq c.args.op.now.code 2 ≡ true = rw (← c.op.view_is) (grind (arith, nat_tests, c.if-op-eq-DELETE.true)) in
    let there : c.place-at.result ≡ place c.args.op.now.id c.args.rules.now.items = rw (← c.op.view_is) (rw c.as_slice.ensures.value at c.place-at.ensures.value) in
    let within : c.place-at.result < length c.args.rules.now.items = omega (arith, rw c.as_slice.ensures.value at c.place-at.ensures.limit, c.if-at-len.false, c.len.ensures) in
    rw c.remove.ensures.items (deleted_at c.args.op.now c.args.rules.now.items c.place-at.result c.remove.result other deletes there within)

pub changed_rule-requires-clause-joins : goal.changed_rule-requires-clause-joins
changed_rule-requires-clause-joins c =
    let other : nat_eq c.args.op.now.code 1 ≡ false = rw (← c.op.view_is) (grind (arith, nat_tests, c.if-op-eq-CREATE.false)) in
    let there : c.place-at.result ≡ place c.args.op.now.id c.args.rules.now.items = rw (← c.op.view_is) (rw c.as_slice.ensures.value at c.place-at.ensures.value) in
    let within : c.place-at.result < length c.args.rules.now.items = omega (arith, rw c.as_slice.ensures.value at c.place-at.ensures.limit, c.if-at-len.false, c.len.ensures) in
    let old = found_at c.args.op.now.id c.args.rules.now.items c.place-at.result c.index.result.now there within c.index.ensures in
    (may_at c.args.op.now c.args.rules.now.items c.index.result.now c.requires other old).joins

pub changed_rule-requires-clause-leaves : goal.changed_rule-requires-clause-leaves
changed_rule-requires-clause-leaves c =
    let other : nat_eq c.args.op.now.code 1 ≡ false = rw (← c.op.view_is) (grind (arith, nat_tests, c.if-op-eq-CREATE.false)) in
    let there : c.place-at.result ≡ place c.args.op.now.id c.args.rules.now.items = rw (← c.op.view_is) (rw c.as_slice.ensures.value at c.place-at.ensures.value) in
    let within : c.place-at.result < length c.args.rules.now.items = omega (arith, rw c.as_slice.ensures.value at c.place-at.ensures.limit, c.if-at-len.false, c.len.ensures) in
    let old = found_at c.args.op.now.id c.args.rules.now.items c.place-at.result c.index.result.now there within c.index.ensures in
    (may_at c.args.op.now c.args.rules.now.items c.index.result.now c.requires other old).leaves

pub returns : goal.returns
returns c =
    let other : nat_eq c.args.op.now.code 1 ≡ false = rw (← c.op.view_is) (grind (arith, nat_tests, c.if-op-eq-CREATE.false)) in
    let stays : nat_eq c.args.op.now.code 2 ≡ false = rw (← c.op.view_is) (grind (arith, nat_tests, c.if-op-eq-DELETE.false)) in
    let there : c.place-at.result ≡ place c.args.op.now.id c.args.rules.now.items = rw (← c.op.view_is) (rw c.as_slice.ensures.value at c.place-at.ensures.value) in
    let within : c.place-at.result < length c.args.rules.now.items = omega (arith, rw c.as_slice.ensures.value at c.place-at.ensures.limit, c.if-at-len.false, c.len.ensures) in
    let old = found_at c.args.op.now.id c.args.rules.now.items c.place-at.result c.index.result.now there within c.index.ensures in
    let same = found_id c.args.op.now.id c.args.rules.now.items c.index.result.now old in
    changed_at c.args.op.now c.args.rules.now.items c.place-at.result c.index.result.now c.in_ok-rule.rule other stays there same old c.in_ok-rule.ensures
