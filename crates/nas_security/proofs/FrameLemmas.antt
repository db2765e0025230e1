-- The parts of a frame.
use Rattle.std.proofs.Common.{◌≡◌, refl, sym, ap, ◌∙◌, ℕ, ◌+◌, ◌≤◌, List, ◌∷◌, ◌++◌, length, take, drop, get_or, Bool, true, false, if◌then◌else◌, arith, lit≤}
use Rattle.std.proofs.Math.Path.{ap₂}
use Rattle.std.proofs.lemmas.List.{length-append, take_at, drop_at, drop-drop, get_or-append_right, take-append-drop, drop_more}
use Rattle.nas_base.specs.declared.count.Dir.{Dir}
use Rattle.aes_cmac.specs.Nas.{nea2, nia2}
use Rattle.aes_cmac.proofs.AlgorithmLaws.{length-nea2, length-nia2, nea2-nea2}
use Rattle.nas_security.specs.Contexts.{SecurityContext}
use Rattle.nas_security.specs.Counts.{low_octet}
use Rattle.nas_security.specs.Frame.{as_sent, covered, frame, is_ciphered}
use Rattle.nas_security.specs.Laws.{HaveSameKeys}
use Rattle.nas_security.specs.Passing.{without_spare}

-- to cipher twice leads back
twice : (b : Bool) (key : List ℕ) (count : ℕ) (dir : Dir) (plain : List ℕ)
    → (if b then nea2 key count dir (if b then nea2 key count dir plain else plain) else (if b then nea2 key count dir plain else plain)) ≡ plain
twice true key count dir plain = nea2-nea2 key count dir plain
twice false key count dir plain = refl

pub as_sent-as_sent : (context : SecurityContext) (dir : Dir) (count header : ℕ) (plain : List ℕ)
    → as_sent context dir count header (as_sent context dir count header plain) ≡ plain
unfolding as_sent
as_sent-as_sent context dir count header plain = twice (is_ciphered context header) context.keys.enc count dir plain

same_length : (b : Bool) (key : List ℕ) (count : ℕ) (dir : Dir) (plain : List ℕ)
    → length (if b then nea2 key count dir plain else plain) ≡ length plain
same_length true key count dir plain = length-nea2 key count dir plain
same_length false key count dir plain = refl

pub length-as_sent : (context : SecurityContext) (dir : Dir) (count header : ℕ) (plain : List ℕ)
    → length (as_sent context dir count header plain) ≡ length plain
unfolding as_sent
length-as_sent context dir count header plain = same_length (is_ciphered context header) context.keys.enc count dir plain

pub length-frame : (context : SecurityContext) (dir : Dir) (count header : ℕ) (plain : List ℕ)
    → length (frame context dir count header plain) ≡ 7 + length plain
unfolding frame
length-frame context dir count header plain =
    let octets : List ℕ = covered context dir count header plain in
    omega (arith, length-append (nia2 context.keys.int count dir octets) octets, length-nia2 context.keys.int count dir octets, length-as_sent context dir count header plain)

-- nothing of a frame comes from a context but the keys and the algorithms
pub same_frame : (one other : SecurityContext) (dir : Dir) (count header : ℕ) (plain : List ℕ)
    → HaveSameKeys one other → frame one dir count header plain ≡ frame other dir count header plain
unfolding frame as_sent
same_frame one other dir count header plain same = rw (same.0, same.1) refl

pub same_as_sent : (one other : SecurityContext) (dir : Dir) (count header : ℕ) (plain : List ℕ)
    → HaveSameKeys one other → as_sent one dir count header plain ≡ as_sent other dir count header plain
unfolding as_sent
same_as_sent one other dir count header plain same = rw (same.0, same.1) refl

-- the MAC and what it covers, where they stand in octets behind two others
pub record HasParts (mac : List ℕ) (number : ℕ) (sent : List ℕ) (octets : List ℕ) : Type 0 where
  pub mac_there : take 4 octets ≡ mac
  pub covered_there : drop 4 octets ≡ number ∷ sent
  pub number_there : get_or octets 4 0 ≡ number
  pub sent_there : drop 5 octets ≡ sent

pub parts : (mac : List ℕ) (number : ℕ) (sent octets : List ℕ) → length mac ≡ 4 → octets ≡ mac ++ number ∷ sent → HasParts mac number sent octets
parts mac number sent octets four e =
    let behind : drop 4 octets ≡ number ∷ sent = ap (drop 4) e ∙ drop_at mac (number ∷ sent) 4 four in
    record {
      mac_there = ap (take 4) e ∙ take_at mac (number ∷ sent) 4 four;
      covered_there = behind;
      number_there = ap (λ (xs : List ℕ). get_or xs 4 0) e ∙ get_or-append_right mac (number ∷ sent) 4 4 0 four (lit≤ tt);
      sent_there = sym (drop-drop 1 4 octets) ∙ ap (drop 1) behind;
    }

-- what a frame is behind its header
pub frame_behind : (context : SecurityContext) (dir : Dir) (count header : ℕ) (plain octets : List ℕ) (first second : ℕ)
    → first ∷ second ∷ octets ≡ frame context dir count header plain
    → (first ≡ 0x7e) × (second ≡ header)
    × HasParts (nia2 context.keys.int count dir (covered context dir count header plain)) (low_octet count) (as_sent context dir count header plain) octets
unfolding frame
frame_behind context dir count header plain octets first second e =
    let mac : List ℕ = nia2 context.keys.int count dir (covered context dir count header plain) in
    let sent : List ℕ = as_sent context dir count header plain in
    (cc, cc, parts mac (low_octet count) sent octets (length-nia2 context.keys.int count dir (covered context dir count header plain)) (cc))

-- octets of a frame's form with the right MAC are a frame
pub framed : (context : SecurityContext) (dir : Dir) (count header : ℕ) (plain octets : List ℕ)
    → 6 ≤ length octets → get_or octets 4 0 ≡ low_octet count → take 4 octets ≡ nia2 context.keys.int count dir (drop 4 octets)
    → plain ≡ as_sent context dir count header (drop 5 octets)
    → 0x7e ∷ header ∷ octets ≡ frame context dir count header plain
unfolding frame
framed context dir count header plain octets long number mac e =
    ap (λ (xs : List ℕ). 0x7e ∷ header ∷ xs)
    (sym (take-append-drop 4 octets)
    ∙ ap (λ (xs : List ℕ). xs ++ drop 4 octets) mac
    ∙ ap (λ (xs : List ℕ). nia2 context.keys.int count dir xs ++ xs) behind)
  where
    sent : drop 5 octets ≡ as_sent context dir count header plain
    sent = sym (as_sent-as_sent context dir count header (drop 5 octets)) ∙ ap (as_sent context dir count header) (sym e)

    behind : drop 4 octets ≡ covered context dir count header plain
    behind = drop_more octets 4 0 (omega arith) ∙ ap₂ (λ (n : ℕ) (xs : List ℕ). n ∷ xs) number sent

-- the spare half of octet 2 is zero in a frame
pub without_spare-frame : (context : SecurityContext) (dir : Dir) (count header : ℕ) (plain : List ℕ)
    → header ≤ 4 → without_spare (frame context dir count header plain) ≡ frame context dir count header plain
unfolding frame
without_spare-frame context dir count header plain small =
    let octets : List ℕ = covered context dir count header plain in
    ap (λ (h : ℕ). 0x7e ∷ h ∷ nia2 context.keys.int count dir octets ++ octets) (omega arith)

-- a frame at a count is the frame of one message
pub frame_of_one : (context : SecurityContext) (dir : Dir) (count header header' : ℕ) (plain plain' : List ℕ)
    → frame context dir count header plain ≡ frame context dir count header' plain' → (header ≡ header') × (plain ≡ plain')
unfolding frame
frame_of_one context dir count header header' plain plain' e = (same, opened)
  where
    same : header ≡ header'
    same = cc

    behind : (n : ℕ) (xs : List ℕ) → List ℕ
    behind n xs = nia2 context.keys.int count dir (covered context dir count n xs) ++ covered context dir count n xs

    tails : behind header plain ≡ behind header' plain'
    tails = cc

    sent_in : (n : ℕ) (xs : List ℕ) → drop 5 (behind n xs) ≡ as_sent context dir count n xs
    sent_in n xs =
        (parts (nia2 context.keys.int count dir (covered context dir count n xs)) (low_octet count) (as_sent context dir count n xs) (behind n xs)
        (length-nia2 context.keys.int count dir (covered context dir count n xs)) refl).sent_there

    sent : as_sent context dir count header plain ≡ as_sent context dir count header' plain'
    sent = sym (sent_in header plain) ∙ ap (drop 5) tails ∙ sent_in header' plain'

    opened : plain ≡ plain'
    opened =
        sym (as_sent-as_sent context dir count header plain)
        ∙ ap₂ (λ (n : ℕ) (xs : List ℕ). as_sent context dir count n xs) same sent
        ∙ as_sent-as_sent context dir count header' plain'
