-- A writer takes a text piece by piece.
use Rattle.std.proofs.Common.{◌≡◌, ◌∙◌, ℕ, ◌+◌, ◌-◌, ◌≤◌, List, [], ◌++◌, Option, Result, Ok, Err, take, drop, length, append-nil, ap, sym, subst, take-append-drop}
use Rattle.std.specs.Prelude.{MatchBool}
use Rattle.std.proofs.Math.Seq.{take-add}
use Rattle.std.proofs.lemmas.List.{take_rest}
use Rattle.std.proofs.KnownBytes.{Appends-trans, Appends-kept}
use Rattle.std.specs.Io.KnownBytes.{Appends, Keeps, WriteAppends}
use Rattle.nas_base.specs.Outside.{AppendsFront, Rose, is_failed}
use Rattle.nas_base.specs.declared.outside.WriteRefusal.{WriteRefusal}
use Rattle.nas_base.specs.declared.outside.WriteRefusal.TheVariants.{Failed}

-- what is written of a text behind its first n octets
abbrev behind : ℕ → List ℕ → List ℕ
behind n text = take (length text - n) (drop n text)

-- a piece behind the octets that were taken
pub appends_more : (a b c : Option (List ℕ)) (n m : ℕ) (text : List ℕ) → Appends a b (take n text) → Appends b c (take m (behind n text)) → Appends a c (take (n + m) text)
appends_more a b c n m text first second =
    let parts : take n text ++ take m (behind n text) ≡ take (n + m) text = ap (λ xs. take n text ++ take m xs) (take_rest text n) ∙ sym (take-add n m text) in
    subst (Appends a c) parts (Appends-trans a b c (take n text) (take m (behind n text)) first second)

-- the octets that were taken are a front
pub front_at : (a b : Option (List ℕ)) (n : ℕ) (text : List ℕ) → Appends a b (take n text) → AppendsFront a b text
front_at a b n text h = record { front = take n text; rest = drop n text; parts = sym (take-append-drop n text); appended = h }

-- and stay one where a write failed, or took nothing
pub front_stopped : (a b c : Option (List ℕ)) (n : ℕ) (text : List ℕ) → Appends a b (take n text) → Keeps b c → AppendsFront a c text
front_stopped a b c n text h kept = front_at a c n text (Appends-kept a b c (take n text) h kept)

-- a write that took nothing
pub appends_none : {E : Type 0} (a b : Option (List ℕ)) (r : Result ℕ E) (count : ℕ) (text : List ℕ) → r ≡ Ok count → count ≡ 0 → WriteAppends a b r text → Appends a b []
appends_none a b (Ok n) count text is none h =
    let zero : n ≡ 0 = cc in
    subst (λ k. Appends a b (take k text)) zero h
appends_none a b (Err e) count text is none h = cc

-- so what was taken before is a front
pub front_ended : {E : Type 0} (a b c : Option (List ℕ)) (n : ℕ) (text : List ℕ) (r : Result ℕ E) (count : ℕ) → r ≡ Ok count → count ≡ 0 → Appends a b (take n text) →
    WriteAppends b c r (behind n text) → AppendsFront a c text
front_ended a b c n text r count is none before h =
    front_at a c n text (subst (Appends a c) (append-nil (take n text)) (Appends-trans a b c (take n text) [] before (appends_none b c r count (behind n text) is none h)))

-- a failure that was counted
pub rose_failed : (e : WriteRefusal) (old before now : ℕ) → e ≡ Failed → before ≡ old → Rose before now → MatchBool (is_failed e) (Rose old now) (old ≤ now)
rose_failed e old before now failed same rose =
    subst (λ (x : WriteRefusal). MatchBool (is_failed x) (Rose old now) (old ≤ now)) (sym failed) (subst (λ (n : ℕ). Rose n now) same rose)
