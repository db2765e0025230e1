-- No later message changes a verdict, and one more delivery that passed is judged by all that was sent before.
use Rattle.std.proofs.Common.{◌≡◌, ◌≤◌, Bool, true, false, ◌&&◌, List, [], ◌∷◌, ◌++◌, length, take, refl, sym, ap, ◌∙◌, arith, length-append}
use Rattle.std.specs.List.{list_all}
use Rattle.std.proofs.lemmas.Bool.{and_from, and_parts, le-leb, leb-true}
use Rattle.std.proofs.lemmas.List.{append-nil, take-append-le, take_all}
use Rattle.std.proofs.lemmas.List.Folds.{list_all-append}
use Rattle.nas_base.specs.Branches.{per}
use Rattle.nas_security.specs.declared.sends.Send.{Send}
use Rattle.nas_world.specs.Honest.{AreJudged, JudgedLog, all_honest, has_net_kamf, is_fair, is_honest, is_within, sent_to}
use Rattle.nas_world.specs.Logs.{was_sent}
use Rattle.nas_world.specs.declared.passes.End.{End}
use Rattle.nas_world.specs.declared.passes.End.TheVariants as ends
use Rattle.nas_world.specs.declared.passes.Passing.{Passing}

-- logs that grew
module _ (j k : JudgedLog) (us ds : List Send) (up : k.up ≡ j.up ++ us) (down : k.down ≡ j.down ++ ds) (plmn : k.plmn ≡ j.plmn)
    (cards : k.cards ≡ j.cards) where
  abbrev more : End → List Send
  more ends.Handset = ds
  more ends.Network = us

  sent_more : (e : End) → sent_to e k.up k.down ≡ sent_to e j.up j.down ++ more e
  sent_more ends.Handset = down
  sent_more ends.Network = up

  bound : (p : Passing) → is_within j p ≡ true → p.before ≤ length (sent_to p.end j.up j.down)
  bound p within = leb-true p.before (length (sent_to p.end j.up j.down)) within

  still_within : (p : Passing) → is_within j p ≡ true → is_within k p ≡ true
  still_within p within =
      let le : p.before ≤ length (sent_to p.end j.up j.down) = bound p within in
      let more_long : length (sent_to p.end k.up k.down) ≡ length (sent_to p.end j.up j.down ++ more p.end) = ap length (sent_more p.end) in
      le-leb p.before (length (sent_to p.end k.up k.down)) (omega (arith, more_long, length-append (sent_to p.end j.up j.down) (more p.end)))

  still_before : (p : Passing) → is_within j p ≡ true → take p.before (sent_to p.end k.up k.down) ≡ take p.before (sent_to p.end j.up j.down)
  still_before p within =
      let le : p.before ≤ length (sent_to p.end j.up j.down) = bound p within in
      ap (take p.before) (sent_more p.end) ∙ rw take-append-le refl

  judged_the_same : (p : Passing) → is_within j p ≡ true → is_honest k p ≡ is_honest j p
  judged_the_same p within =
      λ i. was_sent p.pass p.octets (still_before p within i) && per p.took true (has_net_kamf (plmn i) (cards i) p.pass)

  all_within : (ps : List Passing) → list_all (is_within j) ps ≡ true → list_all (is_within k) ps ≡ true
  all_within [] within = refl
  all_within (p ∷ ps) within =
      let parts = and_parts (is_within j p) (list_all (is_within j) ps) within in
      and_from (is_within k p) (list_all (is_within k) ps) (still_within p parts.0) (all_within ps parts.1)

  all_the_same : (ps : List Passing) → list_all (is_within j) ps ≡ true → list_all (is_honest k) ps ≡ list_all (is_honest j) ps
  all_the_same [] within = refl
  all_the_same (p ∷ ps) within =
      let parts = and_parts (is_within j p) (list_all (is_within j) ps) within in
      λ i. judged_the_same p parts.0 i && all_the_same ps parts.1 i

pub up_kept : (j : JudgedLog) (v : Bool) (sends : List Send) → AreJudged j v → AreJudged (record j { up = j.up ++ sends }) v
unfolding all_honest
up_kept j v sends judged = record {
  within = all_within j (record j { up = j.up ++ sends }) sends [] refl (sym (append-nil j.down)) refl refl j.passes judged.within;
  judged =
      judged.judged
      ∙ sym (all_the_same j (record j { up = j.up ++ sends }) sends [] refl (sym (append-nil j.down)) refl refl j.passes judged.within);
}

pub down_kept : (j : JudgedLog) (v : Bool) (sends : List Send) → AreJudged j v → AreJudged (record j { down = j.down ++ sends }) v
unfolding all_honest
down_kept j v sends judged = record {
  within = all_within j (record j { down = j.down ++ sends }) [] sends (sym (append-nil j.up)) refl refl refl j.passes judged.within;
  judged =
      judged.judged
      ∙ sym (all_the_same j (record j { down = j.down ++ sends }) [] sends (sym (append-nil j.up)) refl refl refl j.passes judged.within);
}

-- one delivery more
passed_more : (j : JudgedLog) (p : Passing) (v w : Bool) → AreJudged j v → p.before ≤ length (sent_to p.end j.up j.down) →
    w ≡ (all_honest j && is_honest j p) → AreJudged (record j { passes = j.passes ++ p ∷ [] }) w
unfolding all_honest
passed_more j p v w judged le verdict = record {
  within =
      list_all-append (is_within j) j.passes (p ∷ [])
      ∙ and_from (list_all (is_within j) j.passes) (is_within j p && true) judged.within
      (and_from (is_within j p) true (le-leb p.before (length (sent_to p.end j.up j.down)) le) refl);
  judged =
      verdict ∙ (λ i. list_all (is_honest j) j.passes && and_true (is_honest j p) i)
      ∙ sym (list_all-append (is_honest j) j.passes (p ∷ []));
}
  where
    and_true : (b : Bool) → b ≡ (b && true)
    and_true true = refl
    and_true false = refl

-- it was judged by all
by_all : (p : Passing) (log : List Send) (j : JudgedLog) → p.before ≡ length log → is_fair p log j ≡ is_fair p (take p.before log) j
by_all p log j all =
    let whole : take p.before log ≡ log = take_all p.before log (omega arith) in
    λ i. was_sent p.pass p.octets (sym whole i) && per p.took true (has_net_kamf j.plmn j.cards p.pass)

pub passed_up : (j : JudgedLog) (p : Passing) (v w : Bool) (sends : List Send) → AreJudged j v → p.end ≡ ends.Handset →
    p.before ≡ length j.down → w ≡ (all_honest j && is_fair p j.down j) →
    AreJudged (record j { up = j.up ++ sends; passes = j.passes ++ p ∷ [] }) w
passed_up j p v w sends judged at all verdict =
    let other : sent_to p.end j.up j.down ≡ j.down = ap (λ (e : End). sent_to e j.up j.down) at in
    let fair : is_fair p j.down j ≡ is_honest j p =
    by_all p j.down j all ∙ (λ i. is_fair p (take p.before (sym other i)) j) in
    up_kept (record j { passes = j.passes ++ p ∷ [] }) w sends
    (passed_more j p v w judged (rw other (omega arith)) (verdict ∙ (λ i. all_honest j && fair i)))

pub passed_down : (j : JudgedLog) (p : Passing) (v w : Bool) (sends : List Send) → AreJudged j v → p.end ≡ ends.Network →
    p.before ≡ length j.up → w ≡ (all_honest j && is_fair p j.up j) →
    AreJudged (record j { down = j.down ++ sends; passes = j.passes ++ p ∷ [] }) w
passed_down j p v w sends judged at all verdict =
    let other : sent_to p.end j.up j.down ≡ j.up = ap (λ (e : End). sent_to e j.up j.down) at in
    let fair : is_fair p j.up j ≡ is_honest j p =
    by_all p j.up j all ∙ (λ i. is_fair p (take p.before (sym other i)) j) in
    down_kept (record j { passes = j.passes ++ p ∷ [] }) w sends
    (passed_more j p v w judged (rw other (omega arith)) (verdict ∙ (λ i. all_honest j && fair i)))
