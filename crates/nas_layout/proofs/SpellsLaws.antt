-- Octets spell a message of a table exactly where that message stands in them.
use Rattle.std.proofs.Common.{◌≡◌, ◌∙◌, ℕ, suc, ◌+◌, ◌*◌, ◌^◌, ◌<◌, ◌≤◌, ◌/◌, ◌%◌, nat_lt, Bool, true, false, cond, List, [], ◌∷◌, ◌++◌, length, take, drop, Option, Some, None, Result, Ok, Err, append_assoc, arith, refl, ap, subst, sym}
use Rattle.std.proofs.lemmas.Bool.Decides.{nat_tests}
use Rattle.std.proofs.lemmas.Grind.{common_steps}
use Rattle.std.proofs.lemmas.List.{drop-drop, take-append-drop, length-append}
use Rattle.std.proofs.lemmas.List.Elements.{All-drop}
use Rattle.std.specs.Prelude.{slice_index}
use Rattle.byteorder.specs.Endian.{big_bytes, big_number}
use Rattle.nas_base.specs.Reading.{Place, Reads, behind_length, lv_at, lve_at, needing, octets_at, past}
use Rattle.nas_base.specs.Walking.{elements_in, firsts}
use Rattle.nas_layout.specs.Laws.{AreOctets, SpelledIsLaid}
use Rattle.nas_layout.specs.Coding.{Coding}
use Rattle.nas_layout.specs.Pieces.{framed}
use Rattle.nas_layout.specs.Spelling.{Fits, Spells}
use Rattle.nas_layout.specs.Table.{◌>>=◌, Table, cut_at, elements, gathered, laid, part, rows, uncut, valued}
use Rattle.nas_layout.specs.declared.body.BodyRefusal.{BodyRefusal}
use Rattle.nas_layout.specs.declared.frame.Frame.{Frame}
use Rattle.nas_layout.specs.declared.frame.Frame.TheVariants.{V, Lv, Lve}

-- a part is cut off: its octets, and the place behind it with what stands there
pub record CutOff (frame : Frame) (p : Place) (piece rest : List ℕ) : Type 0 where
  pub place : Place
  pub is : cut_at frame p ≡ Ok (piece, place)
  pub left : place.left ≡ rest

needed : {A : Type 0} (n : ℕ) (p : Place) (read : Reads A) → n ≤ length p.left → needing n p read ≡ read
needed n p read h = let enough : nat_lt (length p.left) n ≡ false = grind (arith, nat_tests) in rw enough refl

-- octets behind the octets of their length
cut_counted : (width n : ℕ) (p : Place) (size piece rest : List ℕ) → length size ≡ width → length piece ≡ n → p.left ≡ size ++ (piece ++ rest) →
    behind_length width n p ≡ Ok (piece, past (width + n) p)
cut_counted width n p size piece rest wide long is =
    let enough : width + n ≤ length p.left = rw is (simp length-append (omega arith)) in
    let found : take n (drop width p.left) ≡ piece = rw is (grind (arith, common_steps)) in
    needed (width + n) p (Ok (take n (drop width p.left), past (width + n) p)) enough
    ∙ ap (λ (octets : List ℕ). Ok (octets, past (width + n) p)) found

drop_front : (n : ℕ) (xs ys : List ℕ) → length xs ≡ n → drop n (xs ++ ys) ≡ ys
drop_front n xs ys long = grind (arith, common_steps)

left_counted : (width n : ℕ) (p : Place) (size piece rest : List ℕ) → length size ≡ width → length piece ≡ n → p.left ≡ size ++ (piece ++ rest) →
    drop (width + n) p.left ≡ rest
left_counted width n p size piece rest wide long is =
    let all : length (size ++ piece) ≡ width + n = simp length-append (omega arith) in
    ap (drop (width + n)) (is ∙ sym (append_assoc size piece rest)) ∙ drop_front (width + n) (size ++ piece) rest all

-- a length of two octets
lve_size : (n : ℕ) → n ≤ 65535 → (n / 256 % 256) * 256 ^ 1 + (n % 256 * 256 ^ 0 + 0) ≡ n
lve_size n h = omega arith

-- octets in a frame are cut off
pub cut_framed : (frame : Frame) (p : Place) (piece rest : List ℕ) → Fits frame piece → p.left ≡ framed frame piece ++ rest → CutOff frame p piece rest
cut_framed (V n) p piece rest fits is =
    let enough : n ≤ length p.left = rw is (simp length-append (omega arith)) in
    let found : take n p.left ≡ piece = rw is (grind (arith, common_steps)) in
    record {
      place = past n p;
      is = needed n p (Ok (take n p.left, past n p)) enough ∙ ap (λ (octets : List ℕ). Ok (octets, past n p)) found;
      left = ap (drop n) is ∙ drop_front n piece rest fits;
    }
cut_framed Lv p piece rest fits is =
    let enough : 1 ≤ length p.left = rw is (omega arith) in
    let size : slice_index p.left 0 ≡ length piece = ap (λ (octets : List ℕ). slice_index octets 0) is in
    record {
      place = past (1 + length piece) p;
      is = needed 1 p (behind_length 1 (slice_index p.left 0) p) enough
          ∙ ap (λ (n : ℕ). behind_length 1 n p) size
          ∙ cut_counted 1 (length piece) p (length piece ∷ []) piece rest refl refl is;
      left = left_counted 1 (length piece) p (length piece ∷ []) piece rest refl refl is;
    }
cut_framed Lve p piece rest fits is =
    let enough : 2 ≤ length p.left = rw is (omega arith) in
    let size : big_number 2 p.left ≡ length piece = ap (big_number 2) is ∙ lve_size (length piece) fits in
    record {
      place = past (2 + length piece) p;
      is = needed 2 p (behind_length 2 (big_number 2 p.left) p) enough
          ∙ ap (λ (n : ℕ). behind_length 2 n p) size
          ∙ cut_counted 2 (length piece) p (big_bytes 2 (length piece)) piece rest refl refl is;
      left = left_counted 2 (length piece) p (big_bytes 2 (length piece)) piece rest refl refl is;
    }

spells_part : {A P : Type 0} (frame : Frame) (coding : Coding P) (from : A → P) (next : P → Table A) (n : ℕ) (p : Place) (m : A)
    → ((x : P) (q : Place) → Spells (next x) q.left m → laid (next x) (suc n) q ≡ Ok m)
    → Spells (part frame coding from next) p.left m → laid (part frame coding from next) n p ≡ Ok m
spells_part frame coding from next n p m later s =
    let c = cut_framed frame p s.piece s.rest s.fits s.whole in
    let behind : Spells (next s.value) c.place.left m = rw c.left s.behind in
    rw (c.is, s.means) (later s.value c.place behind)

-- What octets spell stands in them.
pub spelled_laid : {A : Type 0} (t : Table A) (n : ℕ) (p : Place) (m : A) → Spells t p.left m → laid t n p ≡ Ok m
spelled_laid (part frame coding from next) n p m s = spells_part frame coding from next n p m (λ x q. spelled_laid (next x) (suc n) q m) s
spelled_laid (elements es) n p m s = ap (λ x. Ok x) (sym s)

-- what was cut off stood in its frame
unneeded : {A : Type 0} (n : ℕ) (p : Place) (read : Reads A) (c : A × Place) → needing n p read ≡ Ok c → (n ≤ length p.left) × (read ≡ Ok c)
unneeded n p read c h = go (nat_lt (length p.left) n) refl h where
  go : (short : Bool) → nat_lt (length p.left) n ≡ short → cond short (Err (record { at = p.at; need = n })) read ≡ Ok c → (n ≤ length p.left) × (read ≡ Ok c)
  go true is h = cc
  go false is h = (grind (arith, nat_tests), h)

pub record Framed (frame : Frame) (octets piece rest : List ℕ) : Type 0 where
  pub fits : Fits frame piece
  pub whole : octets ≡ framed frame piece ++ rest

front_long : (n : ℕ) (octets : List ℕ) → n ≤ length octets → length (take n octets) ≡ n
front_long n octets enough = grind (arith, common_steps)

framed_octets : (n : ℕ) (p : Place) (piece : List ℕ) (place : Place) → octets_at n p ≡ Ok (piece, place) → Framed (V n) p.left piece place.left
framed_octets n p piece place h =
    let read : (n ≤ length p.left) × (Ok (take n p.left, past n p) ≡ Ok (piece, place)) = unneeded n p (Ok (take n p.left, past n p)) (piece, place) h in
    let same : (take n p.left, past n p) ≡ (piece, place) = cc (read.1) in
    let front : take n p.left ≡ piece = ap (λ (c : List ℕ × Place). c.0) same in
    let behind : drop n p.left ≡ place.left = ap (λ (c : List ℕ × Place). c.1.left) same in
    record {
      fits = rw (← front) (front_long n p.left read.0);
      whole = rw (← front, ← behind) (sym (take-append-drop n p.left));
    }

-- what stands behind a length of so many octets
record Counted (width n : ℕ) (octets piece rest : List ℕ) : Type 0 where
  there : width + n ≤ length octets
  front : take n (drop width octets) ≡ piece
  behind : drop n (drop width octets) ≡ rest

counted : (width n : ℕ) (p : Place) (piece : List ℕ) (place : Place) → behind_length width n p ≡ Ok (piece, place) → Counted width n p.left piece place.left
counted width n p piece place h =
    let read = unneeded (width + n) p (Ok (take n (drop width p.left), past (width + n) p)) (piece, place) h in
    let same : (take n (drop width p.left), past (width + n) p) ≡ (piece, place) = cc (read.1) in
    record {
      there = read.0;
      front = ap (λ (c : List ℕ × Place). c.0) same;
      behind = drop-drop n width p.left ∙ ap (λ (c : List ℕ × Place). c.1.left) same;
    }

framed_lv : (at : ℕ) (left : List ℕ) (piece : List ℕ) (place : Place) → AreOctets left → lv_at (record { at = at; left = left }) ≡ Ok (piece, place) →
    Framed Lv left piece place.left
framed_lv at [] piece place octets h =
    let read = unneeded 1 (record { at = at; left = [] }) (behind_length 1 0 (record { at = at; left = [] })) (piece, place) h in
    absurd (omega (arith, read.0))
framed_lv at (o ∷ os) piece place octets h =
    let p : Place = record { at = at; left = o ∷ os } in
    let read = unneeded 1 p (behind_length 1 o p) (piece, place) h in
    let c = counted 1 o p piece place read.1 in
    let small : o < 256 = octets 0 0 (omega arith) in
    let long : length piece ≡ o = rw (← c.front) (grind (arith, common_steps, c.there)) in
    record {
      fits = omega arith;
      whole = rw (long, ← c.front, ← c.behind) (ap (λ (l : List ℕ). o ∷ l) (sym (take-append-drop o os)));
    }

size_high : (a b n : ℕ) → a < 256 → b < 256 → n ≡ a * 256 ^ 1 + (b * 256 ^ 0 + 0) → n / 256 % 256 ≡ a
size_high a b n h k e = omega arith

size_low : (a b n : ℕ) → a < 256 → b < 256 → n ≡ a * 256 ^ 1 + (b * 256 ^ 0 + 0) → n % 256 ≡ b
size_low a b n h k e = omega arith

framed_lve : (at : ℕ) (left : List ℕ) (piece : List ℕ) (place : Place) → AreOctets left → lve_at (record { at = at; left = left }) ≡ Ok (piece, place) →
    Framed Lve left piece place.left
framed_lve at [] piece place octets h =
    let p : Place = record { at = at; left = [] } in
    let read = unneeded 2 p (behind_length 2 (big_number 2 []) p) (piece, place) h in
    absurd (omega (arith, read.0))
framed_lve at (a ∷ []) piece place octets h =
    let p : Place = record { at = at; left = a ∷ [] } in
    let read = unneeded 2 p (behind_length 2 (big_number 2 (a ∷ [])) p) (piece, place) h in
    absurd (omega (arith, read.0))
framed_lve at (a ∷ b ∷ os) piece place octets h =
    let p : Place = record { at = at; left = a ∷ b ∷ os } in
    let n : ℕ = big_number 2 (a ∷ b ∷ os) in
    let read = unneeded 2 p (behind_length 2 n p) (piece, place) h in
    let c = counted 2 n p piece place read.1 in
    let high : a < 256 = octets 0 0 (omega arith) in
    let low : b < 256 = octets 1 0 (omega arith) in
    let long : length piece ≡ n = rw (← c.front) (grind (arith, common_steps, c.there)) in
    record {
      fits = omega arith;
      whole = rw (size_high a b (length piece) high low long, size_low a b (length piece) high low long, ← c.front, ← c.behind)
          (ap (λ (l : List ℕ). a ∷ b ∷ l) (sym (take-append-drop n os)));
    }

framed_cut : (frame : Frame) (p : Place) (piece : List ℕ) (place : Place) → AreOctets p.left → cut_at frame p ≡ Ok (piece, place) → Framed frame p.left piece place.left
framed_cut (V n) p piece place octets h = framed_octets n p piece place h
framed_cut Lv p piece place octets h = framed_lv p.at p.left piece place octets h
framed_cut Lve p piece place octets h = framed_lve p.at p.left piece place octets h

behind_octets : (octets front rest : List ℕ) → octets ≡ front ++ rest → AreOctets octets → AreOctets rest
behind_octets octets front rest is h =
    let same : drop (length front) octets ≡ rest = ap (drop (length front)) is ∙ drop_front (length front) front rest refl in
    subst AreOctets same (All-drop (λ (octet : ℕ). octet < 256) (length front) octets h)

laid_part : {A P : Type 0} (frame : Frame) (coding : Coding P) (from : A → P) (next : P → Table A) (n : ℕ) (p : Place) (m : A) → AreOctets p.left
    → ((x : P) (q : Place) → AreOctets q.left → laid (next x) (suc n) q ≡ Ok m → Spells (next x) q.left m)
    → laid (part frame coding from next) n p ≡ Ok m → Spells (part frame coding from next) p.left m
laid_part {A} {P} frame coding from next n p m octets later h = of_cut (cut_at frame p) refl h where
  then_laid : P × Place → Result A BodyRefusal
  then_laid x = laid (next x.0) (suc n) x.1

  of_value : (piece : List ℕ) (place : Place) → cut_at frame p ≡ Ok (piece, place) → (x : Option P) → coding.reading piece ≡ x
      → ((valued n p.at x >>= (λ v. Ok (v, place))) >>= then_laid) ≡ Ok m → Spells (part frame coding from next) p.left m
  of_value piece place is None none h = cc
  of_value piece place is (Some x) some h =
      let f = framed_cut frame p piece place octets is in
      record {
        piece = piece;
        rest = place.left;
        value = x;
        whole = f.whole;
        fits = f.fits;
        means = some;
        behind = later x place (behind_octets p.left (framed frame piece) place.left f.whole octets) h;
      }

  of_cut : (c : Reads (List ℕ)) → cut_at frame p ≡ c
      → ((uncut n p.at c >>= (λ o. valued n p.at (coding.reading o.0) >>= (λ v. Ok (v, o.1)))) >>= then_laid) ≡ Ok m
      → Spells (part frame coding from next) p.left m
  of_cut (Err short) is h = cc
  of_cut (Ok c) is h = of_value c.0 c.1 is (coding.reading c.0) refl h

-- What stands in octets is spelled by them.
pub laid_spelled : {A : Type 0} (t : Table A) (n : ℕ) (p : Place) (m : A) → AreOctets p.left → laid t n p ≡ Ok m → Spells t p.left m
laid_spelled (part frame coding from next) n p m octets h =
    laid_part frame coding from next n p m octets (λ x q o. laid_spelled (next x) (suc n) q m o) h
laid_spelled (elements es) n p m octets h =
    let same : gathered (firsts (rows es) (elements_in (rows es) p.left)) es ≡ m = cc in
    sym same

pub spelled_is_laid : {A : Type 0} (t : Table A) → SpelledIsLaid t
spelled_is_laid t = record { is_laid = spelled_laid t; is_spelled = laid_spelled t }
