-- Octets spell a message exactly where they are read as it.
use Rattle.std.proofs.Common.{◌≡◌, ℕ, Bool, true, false, not, nat_lt, ◌==◌, ◌&&◌, List, [], ◌∷◌, length, slice_index, drop, Option, Some, None, Result, Ok, Err, if◌then◌else◌, arith, refl, ap, sym, ◌∙◌}
use Rattle.std.proofs.lemmas.Bool.Decides.{nat_tests}
use Rattle.std.proofs.lemmas.List.Elements.{All-drop}
use Rattle.std.specs.Prelude.{◌<◌, ◌≤◌}
use Rattle.nas_base.proofs.KindLaws.{kinds_have_types}
use Rattle.nas_base.specs.Kinds.{sm_kind, sm_type}
use Rattle.nas_base.specs.declared.sm_kind.SmKind.{SmKind}
use Rattle.nas_layout.proofs.SpellsLaws.{laid_spelled, spelled_laid}
use Rattle.nas_layout.specs.Laws.{AreOctets}
use Rattle.nas_layout.specs.Table.{laid}
use Rattle.nas_layout.specs.declared.body.BodyRefusal.{BodyRefusal}
use Rattle.nas_layout.specs.declared.body.BodyRefusal.TheVariants as body
use Rattle.sm_messages.proofs.Back.{body_of}
use Rattle.sm_messages.specs.Messages.{SpellsFrame, as_message, body_at, body_in, sm_in, tabled, told}
use Rattle.sm_messages.specs.declared.message.Sm.{Sm}
use Rattle.sm_messages.specs.declared.message.SmFrame.{SmFrame}
use Rattle.sm_messages.specs.declared.message.SmRefusal.{SmRefusal}
use Rattle.sm_messages.specs.declared.message.SmRefusal.TheVariants.{Ignored}

pub spelled_found : (octets : List ℕ) (frame : SmFrame) → SpellsFrame octets frame → sm_in octets ≡ Ok frame
spelled_found octets frame s =
    ap sm_in s.whole ∙ body_of frame.psi frame.pti s.kind s.rest
    ∙ ap (λ r. told frame.psi frame.pti (as_message (tabled s.kind).made r)) (spelled_laid (tabled s.kind).table 1 (record { at = 4; left = s.rest }) s.fields s.body)
    ∙ ap (λ (m : Sm). Ok (record frame { body = m })) (sym s.made)

-- no test refused the octets
record Passed (a b : Bool) (w : Result SmFrame SmRefusal) (frame : SmFrame) : Type 0 where
  first : a ≡ false
  second : b ≡ false
  last : w ≡ Ok frame

passed : (a b : Bool) (x y : SmRefusal) (w : Result SmFrame SmRefusal) (frame : SmFrame)
    → (if a then Err x else (if b then Err y else w)) ≡ Ok frame → Passed a b w frame
passed true b x y w frame h = cc
passed false true x y w frame h = cc
passed false false x y w frame h = record { first = refl; second = refl; last = h }

-- what was read behind the head, and under which identities
record Told (psi pti : ℕ) (r : Result Sm BodyRefusal) (frame : SmFrame) : Type 0 where
  is : r ≡ Ok frame.body
  session : psi ≡ frame.psi
  transaction : pti ≡ frame.pti

same_frame : (psi pti : ℕ) (m : Sm) (frame : SmFrame) → told psi pti (Ok m) ≡ Ok frame → Told psi pti (Ok m) frame
same_frame psi pti m frame h =
    let made : SmFrame = record { psi = psi; pti = pti; body = m } in
    let same : made ≡ frame = cc in
    record {
      is = ap (λ (f : SmFrame). Ok f.body) same;
      session = ap (λ (f : SmFrame). f.psi) same;
      transaction = ap (λ (f : SmFrame). f.pti) same;
    }

was_told : (psi pti : ℕ) (r : Result Sm BodyRefusal) (frame : SmFrame) → told psi pti r ≡ Ok frame → Told psi pti r frame
was_told psi pti (Ok m) frame h = same_frame psi pti m frame h
was_told psi pti (Err (body.Mandatory n at)) frame h = cc
was_told psi pti (Err body.Memory) frame h = cc

-- what a message was made of
record MadeOf {A : Type 0} (made : A → Sm) (r : Result A BodyRefusal) (message : Sm) : Type 0 where
  fields : A
  is : r ≡ Ok fields
  same : message ≡ made fields

made_of : {A : Type 0} (made : A → Sm) (r : Result A BodyRefusal) (message : Sm) → as_message made r ≡ Ok message → MadeOf made r message
made_of made (Ok x) message h = let same : made x ≡ message = cc in record { fields = x; is = refl; same = sym same }
made_of made (Err e) message h = cc

spelled_by : (a b c d : ℕ) (rest : List ℕ) (frame : SmFrame) (k : Option SmKind) → AreOctets rest → a ≡ 0x2e → sm_kind d ≡ k
    → body_at b c k d (record { at = 4; left = rest }) ≡ Ok frame → SpellsFrame (a ∷ b ∷ c ∷ d ∷ rest) frame
spelled_by a b c d rest frame None octets is none h = cc
spelled_by a b c d rest frame (Some kind) octets is some h =
    let typed : sm_type kind ≡ d = kinds_have_types.1.only d kind some in
    let was = was_told b c (body_in kind (record { at = 4; left = rest })) frame h in
    let session = was.session in
    let transaction = was.transaction in
    let of = made_of (tabled kind).made (laid (tabled kind).table 1 (record { at = 4; left = rest })) frame.body was.is in
    record {
      kind = kind;
      rest = rest;
      fields = of.fields;
      whole = cc;
      body = laid_spelled (tabled kind).table 1 (record { at = 4; left = rest }) of.fields octets of.is;
      made = of.same;
    }

first_is : (a n : ℕ) → 4 ≤ n → (nat_lt 0 n && not (a == 0x2e)) ≡ false → a ≡ 0x2e
first_is a n long h = grind (arith, nat_tests)

all_passed : (octets : List ℕ) (frame : SmFrame) → sm_in octets ≡ Ok frame →
    Passed (nat_lt 0 (length octets) && not (slice_index octets 0 == 0x2e)) (nat_lt (length octets) 4)
    (body_at (slice_index octets 1) (slice_index octets 2) (sm_kind (slice_index octets 3)) (slice_index octets 3) (record { at = 4; left = drop 4 octets })) frame
unfolding sm_in
all_passed octets frame h =
    passed (nat_lt 0 (length octets) && not (slice_index octets 0 == 0x2e)) (nat_lt (length octets) 4) (Ignored 0) (Ignored (length octets))
    (body_at (slice_index octets 1) (slice_index octets 2) (sm_kind (slice_index octets 3)) (slice_index octets 3) (record { at = 4; left = drop 4 octets })) frame h

pub read_spelled : (octets : List ℕ) → AreOctets octets → (frame : SmFrame) → sm_in octets ≡ Ok frame → SpellsFrame octets frame
read_spelled [] all frame h = let p = all_passed [] frame h in let short = p.second in cc
read_spelled (a ∷ []) all frame h = let p = all_passed (a ∷ []) frame h in let short = p.second in cc
read_spelled (a ∷ b ∷ []) all frame h = let p = all_passed (a ∷ b ∷ []) frame h in let short = p.second in cc
read_spelled (a ∷ b ∷ c ∷ []) all frame h = let p = all_passed (a ∷ b ∷ c ∷ []) frame h in let short = p.second in cc
read_spelled (a ∷ b ∷ c ∷ d ∷ rest) all frame h =
    let p = all_passed (a ∷ b ∷ c ∷ d ∷ rest) frame h in
    let long : 4 ≤ length (a ∷ b ∷ c ∷ d ∷ rest) = omega arith in
    spelled_by a b c d rest frame (sm_kind d) (All-drop (λ (octet : ℕ). octet < 256) 4 (a ∷ b ∷ c ∷ d ∷ rest) all)
    (first_is a (length (a ∷ b ∷ c ∷ d ∷ rest)) long p.first) refl p.last
