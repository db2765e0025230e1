-- Octets spell a message exactly where they are read as it.
use Rattle.std.proofs.Common.{◌≡◌, ℕ, ◌%◌, Bool, true, false, not, nat_lt, ◌==◌, ◌&&◌, List, [], ◌∷◌, length, slice_index, drop, Option, Some, None, Result, Ok, Err, if◌then◌else◌, arith, refl, ap, sym, ◌∙◌}
use Rattle.std.proofs.lemmas.Bool.Decides.{nat_tests}
use Rattle.std.proofs.lemmas.List.Elements.{All-drop}
use Rattle.std.specs.Prelude.{◌<◌, ◌≤◌}
use Rattle.nas_base.proofs.KindLaws.{kinds_have_types}
use Rattle.nas_base.specs.Kinds.{mm_kind, mm_type}
use Rattle.nas_base.specs.declared.mm_kind.MmKind.{MmKind}
use Rattle.nas_layout.proofs.SpellsLaws.{laid_spelled, spelled_laid}
use Rattle.nas_layout.specs.Laws.{AreOctets}
use Rattle.nas_layout.specs.Table.{laid}
use Rattle.nas_layout.specs.declared.body.BodyRefusal.{BodyRefusal}
use Rattle.nas_layout.specs.declared.body.BodyRefusal.TheVariants as body
use Rattle.mm_messages.proofs.Back.{body_of}
use Rattle.mm_messages.specs.Messages.{SpellsMessage, body_at, mm_in, tabled, told}
use Rattle.mm_messages.specs.declared.message.Mm.{Mm}
use Rattle.mm_messages.specs.declared.message.MmRefusal.{MmRefusal}
use Rattle.mm_messages.specs.declared.message.MmRefusal.TheVariants.{Ignored}

pub spelled_found : (octets : List ℕ) (message : Mm) → SpellsMessage octets message → mm_in octets ≡ Ok message
spelled_found octets message s =
    ap mm_in s.whole ∙ body_of s.kind s.second s.rest s.plain
    ∙ ap (told (tabled s.kind).made) (spelled_laid (tabled s.kind).table 1 (record { at = 3; left = s.rest }) s.fields s.body)
    ∙ ap (λ (m : Mm). Ok m) (sym s.made)

-- no test refused the octets
record Passed (a b c : Bool) (w : Result Mm MmRefusal) (message : Mm) : Type 0 where
  first : a ≡ false
  second : b ≡ false
  third : c ≡ false
  last : w ≡ Ok message

passed : (a b c : Bool) (x y z : MmRefusal) (w : Result Mm MmRefusal) (message : Mm)
    → (if a then Err x else (if b then Err y else (if c then Err z else w))) ≡ Ok message → Passed a b c w message
passed true b c x y z w message h = cc
passed false true c x y z w message h = cc
passed false false true x y z w message h = cc
passed false false false x y z w message h = record { first = refl; second = refl; third = refl; last = h }

-- what a message was made of
record MadeOf {A : Type 0} (made : A → Mm) (r : Result A BodyRefusal) (message : Mm) : Type 0 where
  fields : A
  is : r ≡ Ok fields
  same : message ≡ made fields

made_of : {A : Type 0} (made : A → Mm) (r : Result A BodyRefusal) (message : Mm) → told made r ≡ Ok message → MadeOf made r message
made_of made (Ok x) message h = let same : made x ≡ message = cc in record { fields = x; is = refl; same = sym same }
made_of made (Err (body.Mandatory n at)) message h = cc
made_of made (Err body.Memory) message h = cc

spelled_by : (a b c : ℕ) (rest : List ℕ) (message : Mm) (k : Option MmKind) → AreOctets rest → a ≡ 0x7e → b % 16 ≡ 0 → mm_kind c ≡ k
    → body_at k c (record { at = 3; left = rest }) ≡ Ok message → SpellsMessage (a ∷ b ∷ c ∷ rest) message
spelled_by a b c rest message None octets is plain none h = cc
spelled_by a b c rest message (Some kind) octets is plain some h =
    let typed : mm_type kind ≡ c = kinds_have_types.0.only c kind some in
    let of = made_of (tabled kind).made (laid (tabled kind).table 1 (record { at = 3; left = rest })) message h in
    record {
      second = b;
      kind = kind;
      rest = rest;
      fields = of.fields;
      whole = cc;
      plain = plain;
      body = laid_spelled (tabled kind).table 1 (record { at = 3; left = rest }) of.fields octets of.is;
      made = of.same;
    }

first_is : (a n : ℕ) → 3 ≤ n → (nat_lt 0 n && not (a == 0x7e)) ≡ false → a ≡ 0x7e
first_is a n long h = grind (arith, nat_tests)

second_is : (b n : ℕ) → 3 ≤ n → (nat_lt 1 n && not (b % 16 == 0)) ≡ false → b % 16 ≡ 0
second_is b n long h = grind (arith, nat_tests)

all_passed : (octets : List ℕ) (message : Mm) → mm_in octets ≡ Ok message →
    Passed (nat_lt 0 (length octets) && not (slice_index octets 0 == 0x7e)) (nat_lt 1 (length octets) && not (slice_index octets 1 % 16 == 0))
    (nat_lt (length octets) 3) (body_at (mm_kind (slice_index octets 2)) (slice_index octets 2) (record { at = 3; left = drop 3 octets })) message
unfolding mm_in
all_passed octets message h =
    passed (nat_lt 0 (length octets) && not (slice_index octets 0 == 0x7e)) (nat_lt 1 (length octets) && not (slice_index octets 1 % 16 == 0))
    (nat_lt (length octets) 3) (Ignored 0) (Ignored 1) (Ignored (length octets))
    (body_at (mm_kind (slice_index octets 2)) (slice_index octets 2) (record { at = 3; left = drop 3 octets })) message h

pub read_spelled : (octets : List ℕ) → AreOctets octets → (message : Mm) → mm_in octets ≡ Ok message → SpellsMessage octets message
read_spelled [] all message h = let p = all_passed [] message h in let short = p.third in cc
read_spelled (a ∷ []) all message h = let p = all_passed (a ∷ []) message h in let short = p.third in cc
read_spelled (a ∷ b ∷ []) all message h = let p = all_passed (a ∷ b ∷ []) message h in let short = p.third in cc
read_spelled (a ∷ b ∷ c ∷ rest) all message h =
    let p = all_passed (a ∷ b ∷ c ∷ rest) message h in
    let long : 3 ≤ length (a ∷ b ∷ c ∷ rest) = omega arith in
    spelled_by a b c rest message (mm_kind c) (All-drop (λ (octet : ℕ). octet < 256) 3 (a ∷ b ∷ c ∷ rest) all)
    (first_is a (length (a ∷ b ∷ c ∷ rest)) long p.first) (second_is b (length (a ∷ b ∷ c ∷ rest)) long p.second) refl p.last
