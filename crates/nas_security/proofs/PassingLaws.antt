-- What passes.
use Rattle.std.proofs.Common.{◌≡◌, refl, sym, ap, subst, ◌∙◌, ℕ, ◌+◌, ◌^◌, ◌%◌, ◌<◌, ◌≤◌, List, [], ◌∷◌, length, drop, get_or, Bool, true, false, not, nat_le, nat_lt, ◌==◌, if◌then◌else◌, arith}
use Rattle.std.proofs.Math.Path.{ap₂}
use Rattle.std.proofs.lemmas.Grind.{common_steps}
use Rattle.std.proofs.lemmas.Slice.Eq.{bytes_eq-Decides}
use Rattle.std.specs.Str.{bytes_eq}
use Rattle.nas_base.specs.declared.count.Dir.{Dir}
use Rattle.nas_base.specs.declared.count.Dir.TheVariants.{Up, Down}
use Rattle.aes_cmac.specs.Nas.{nia2}
use Rattle.nas_security.specs.Contexts.{SecurityContext}
use Rattle.nas_security.specs.Counts.{estimate, low_octet, next_count, with_next}
use Rattle.nas_security.specs.Frame.{as_sent, covered, frame}
use Rattle.nas_security.specs.Laws.{HaveOneMessage, IsAcceptedOnce, IsFormed, IsPassedWherePassing, ProtectedPasses}
use Rattle.nas_security.specs.Passing.{Passes, estimated, header_in, judged, mac_in, sequence_number_in, without_spare}
use Rattle.nas_security.specs.declared.verdicts.Verdict.{Verdict}
use Rattle.nas_security.specs.declared.verdicts.Verdict.TheVariants.{Plain, Malformed, Spent, Failed, Passed}
use Rattle.nas_security.proofs.CountLaws.{estimate_near}
use Rattle.nas_security.proofs.FrameLemmas.{HasParts, as_sent-as_sent, frame_behind, frame_of_one, framed, length-frame, same_frame, without_spare-frame}

bytes_eq-self : (xs : List ℕ) → bytes_eq xs xs ≡ true
bytes_eq-self xs = (bytes_eq-Decides xs xs).1 refl

-- octets of a frame's form are judged by their count
judged_is_estimated : (context : SecurityContext) (dir : Dir) (first second : ℕ) (octets : List ℕ)
    → first ≡ 0x7e → 1 ≤ second % 16 → second % 16 ≤ 4 → 6 ≤ length octets → length octets ≤ 4094
    → judged context dir (first ∷ second ∷ octets) ≡ estimated context dir (first ∷ second ∷ octets)
unfolding judged
judged_is_estimated context dir first second octets protocol low high long short = grind (arith, common_steps)

-- and by their MAC
estimated_passes : (context : SecurityContext) (dir : Dir) (octets : List ℕ) (count : ℕ) (plain : List ℕ)
    → count ≡ estimate (next_count context dir) (sequence_number_in octets) → count < 2 ^ 24
    → nia2 context.keys.int count dir (drop 6 octets) ≡ mac_in octets
    → as_sent context dir count (header_in octets) (drop 7 octets) ≡ plain
    → estimated context dir octets ≡ (Passed count (header_in octets), plain)
unfolding estimated
estimated_passes context dir octets count plain e within mac sent = grind (arith, common_steps, bytes_eq-self)

passing_is_passed : (context : SecurityContext) (dir : Dir) (octets : List ℕ) (count header : ℕ) (plain : List ℕ)
    → Passes context dir octets count header plain → judged context dir octets ≡ (Passed count header, plain)
passing_is_passed context dir [] count header plain p = absurd (omega (arith, p.size.0))
passing_is_passed context dir (first ∷ []) count header plain p = absurd (omega (arith, p.size.0))
passing_is_passed context dir (first ∷ second ∷ octets) count header plain p =
    judged_is_estimated context dir first second octets are.0 (omega (arith, are.1, p.protected.0)) (omega (arith, are.1, p.protected.1))
    (omega (arith, p.size.0)) (omega (arith, p.size.1))
    ∙ estimated_passes context dir (first ∷ second ∷ octets) count plain
    (p.estimated ∙ ap (estimate (next_count context dir)) (sym behind.number_there)) p.within
    (ap (nia2 context.keys.int count dir) behind.covered_there ∙ sym behind.mac_there) opened
    ∙ ap (λ n. (Passed count n, plain)) are.1
  where
    are : (first ≡ 0x7e) × (second % 16 ≡ header)
        × HasParts (nia2 context.keys.int count dir (covered context dir count header plain)) (low_octet count) (as_sent context dir count header plain) octets
    are = frame_behind context dir count header plain octets first (second % 16) p.framed

    behind : HasParts (nia2 context.keys.int count dir (covered context dir count header plain)) (low_octet count) (as_sent context dir count header plain) octets
    behind = are.2

    opened : as_sent context dir count (second % 16) (drop 5 octets) ≡ plain
    opened =
        ap₂ (λ (n : ℕ) (xs : List ℕ). as_sent context dir count n xs) are.1 behind.sent_there
        ∙ as_sent-as_sent context dir count header plain

abbrev verdict_in : Verdict × List ℕ → Verdict
verdict_in judgement = judgement.0

abbrev text_in : Verdict × List ℕ → List ℕ
text_in judgement = judgement.1

-- Of the verdicts on the form none is `Passed`.
form_is_right : (b1 b2 b3 b4 b5 b6 b7 : Bool) (n count header : ℕ) (plain : List ℕ) (v : Verdict × List ℕ)
    → (if b1 then (Malformed 0, []) else (if not b2 then (Malformed 0, []) else (if b3 then (Malformed 1, []) else (if b4 then (Plain, [])
    else (if b5 then (Malformed 1, []) else (if b6 then (Malformed n, []) else (if b7 then (Malformed 4096, []) else v)))))))
    ≡ (Passed count header, plain)
    → (b2 ≡ true) × (b4 ≡ false) × (b5 ≡ false) × (b6 ≡ false) × (b7 ≡ false) × (v ≡ (Passed count header, plain))
form_is_right true b2 b3 b4 b5 b6 b7 n count header plain v e =
    let other : Malformed 0 ≡ Passed count header = ap verdict_in e in (cc, cc, cc, cc, cc, cc)
form_is_right false false b3 b4 b5 b6 b7 n count header plain v e =
    let other : Malformed 0 ≡ Passed count header = ap verdict_in e in (cc, cc, cc, cc, cc, cc)
form_is_right false true true b4 b5 b6 b7 n count header plain v e =
    let other : Malformed 1 ≡ Passed count header = ap verdict_in e in (cc, cc, cc, cc, cc, cc)
form_is_right false true false true b5 b6 b7 n count header plain v e =
    let other : Plain ≡ Passed count header = ap verdict_in e in (cc, cc, cc, cc, cc, cc)
form_is_right false true false false true b6 b7 n count header plain v e =
    let other : Malformed 1 ≡ Passed count header = ap verdict_in e in (cc, cc, cc, cc, cc, cc)
form_is_right false true false false false true b7 n count header plain v e =
    let other : Malformed n ≡ Passed count header = ap verdict_in e in (cc, cc, cc, cc, cc, cc)
form_is_right false true false false false false true n count header plain v e =
    let other : Malformed 4096 ≡ Passed count header = ap verdict_in e in (cc, cc, cc, cc, cc, cc)
form_is_right false true false false false false false n count header plain v e = (refl, refl, refl, refl, refl, e)

-- Of the verdicts behind it only the last one is.
mac_is_right : (b1 b2 : Bool) (next count header : ℕ) (want got plain : List ℕ) (v : Verdict × List ℕ)
    → (if b1 then (Spent next, []) else (if not b2 then (Failed want got, []) else v)) ≡ (Passed count header, plain)
    → (b1 ≡ false) × (b2 ≡ true) × (v ≡ (Passed count header, plain))
mac_is_right true b2 next count header want got plain v e =
    let other : Spent next ≡ Passed count header = ap verdict_in e in (cc, cc, cc)
mac_is_right false false next count header want got plain v e =
    let other : Failed want got ≡ Passed count header = ap verdict_in e in (cc, cc, cc)
mac_is_right false true next count header want got plain v e = (refl, refl, e)

-- what passed has a frame's form
passed_is_formed : (context : SecurityContext) (dir : Dir) (octets : List ℕ) (count header : ℕ) (plain : List ℕ)
    → judged context dir octets ≡ (Passed count header, plain) → IsFormed octets × (estimated context dir octets ≡ (Passed count header, plain))
unfolding judged
passed_is_formed context dir octets count header plain e =
    let are = form_is_right (length octets == 0) (get_or octets 0 0 == 0x7e) (length octets == 1) (header_in octets == 0)
    (nat_lt 4 (header_in octets)) (nat_lt (length octets) 8) (nat_lt 4096 (length octets)) (length octets) count header plain
    (estimated context dir octets) e in (
      record {
        protocol = grind (arith, common_steps, are.0);
        protected = (grind (arith, common_steps, are.1), grind (arith, common_steps, are.2));
        size = (grind (arith, common_steps, are.3), grind (arith, common_steps, are.4));
      },
      are.5,
    )

pub record IsChecked (context : SecurityContext) (dir : Dir) (octets : List ℕ) (count header : ℕ) (plain : List ℕ) : Type 0 where
  pub taken : estimate (next_count context dir) (sequence_number_in octets) ≡ count
  pub within : count < 2 ^ 24
  pub type : header_in octets ≡ header
  pub mac : nia2 context.keys.int count dir (drop 6 octets) ≡ mac_in octets
  pub sent : as_sent context dir count header (drop 7 octets) ≡ plain

-- and its own count and MAC
passed_is_checked : (context : SecurityContext) (dir : Dir) (octets : List ℕ) (count header : ℕ) (plain : List ℕ)
    → estimated context dir octets ≡ (Passed count header, plain) → IsChecked context dir octets count header plain
unfolding estimated
passed_is_checked context dir octets count header plain e =
    let n : ℕ = estimate (next_count context dir) (sequence_number_in octets) in
    let want : List ℕ = nia2 context.keys.int n dir (drop 6 octets) in
    let last : Verdict × List ℕ = (Passed n (header_in octets), as_sent context dir n (header_in octets) (drop 7 octets)) in
    let are = mac_is_right (nat_le (2 ^ 24) n) (bytes_eq want (mac_in octets)) (next_count context dir) count header want (mac_in octets) plain
    last e in
    let passed : Passed n (header_in octets) ≡ Passed count header = ap verdict_in are.2 in
    let same_count : n ≡ count = cc in
    let same_type : header_in octets ≡ header = cc in
    let same_text : as_sent context dir n (header_in octets) (drop 7 octets) ≡ plain = ap text_in are.2 in
    record {
      taken = same_count;
      within = grind (arith, common_steps, are.0, same_count);
      type = same_type;
      mac = subst (λ m. nia2 context.keys.int m dir (drop 6 octets) ≡ mac_in octets) same_count ((bytes_eq-Decides want (mac_in octets)).0 are.1);
      sent = ap₂ (λ (m h : ℕ). as_sent context dir m h (drop 7 octets)) (sym same_count) (sym same_type) ∙ same_text;
    }

passed_is_passing : (context : SecurityContext) (dir : Dir) (octets : List ℕ) (count header : ℕ) (plain : List ℕ)
    → get_or octets 6 0 < 256
    → IsFormed octets → IsChecked context dir octets count header plain → Passes context dir octets count header plain
passed_is_passing context dir [] count header plain small form are = absurd (omega (arith, form.size.0))
passed_is_passing context dir (first ∷ []) count header plain small form are = absurd (omega (arith, form.size.0))
passed_is_passing context dir (first ∷ second ∷ octets) count header plain small form are = record {
  framed =
      ap₂ (λ (n h : ℕ). n ∷ h ∷ octets) form.protocol are.type
      ∙ framed context dir count header plain octets (omega (arith, form.size.0)) low (sym are.mac) (sym are.sent);
  protected = subst (λ h. (1 ≤ h) × (h ≤ 4)) are.type form.protected;
  size = form.size;
  estimated = sym are.taken ∙ ap (estimate (next_count context dir)) low;
  within = are.within;
}
  where
    low : get_or octets 4 0 ≡ low_octet count
    low = omega (arith, are.taken, small)

pub passed_where_passing : (context : SecurityContext) (dir : Dir) (octets : List ℕ) → get_or octets 6 0 < 256
    → IsPassedWherePassing context dir octets
passed_where_passing context dir octets small count header plain = (
  passing_is_passed context dir octets count header plain,
  λ e.
      let are = passed_is_formed context dir octets count header plain e in
      passed_is_passing context dir octets count header plain small are.0 (passed_is_checked context dir octets count header plain are.1),
)

pub protected_passes : (sender receiver : SecurityContext) (dir : Dir) (count header : ℕ) (plain : List ℕ)
    → ProtectedPasses sender receiver dir count header plain
protected_passes sender receiver dir count header plain same within protected size from near =
    passing_is_passed receiver dir (frame sender dir count header plain) count header plain (record {
      framed = there;
      protected = protected;
      size = (omega (arith, long, size.0), omega (arith, long, size.1));
      estimated = estimate_near (next_count receiver dir) count from near;
      within = within;
    })
  where
    long : length (frame sender dir count header plain) ≡ 7 + length plain
    long = length-frame sender dir count header plain

    there : without_spare (frame sender dir count header plain) ≡ frame receiver dir count header plain
    there = without_spare-frame sender dir count header plain protected.1 ∙ same_frame sender receiver dir count header plain same

-- behind a count that was taken
next_is_behind : (context : SecurityContext) (dir : Dir) (n : ℕ) → next_count (with_next context dir n) dir ≡ n
next_is_behind context Up n = refl
next_is_behind context Down n = refl

pub accepted_once : (context : SecurityContext) (dir : Dir) (count : ℕ) → IsAcceptedOnce context dir count
accepted_once context dir count = (
  above,
  λ octets plain n header e.
      let are = passed_is_checked accepted dir octets n header plain (passed_is_formed accepted dir octets n header plain e).1 in
      subst (λ m. count < m) are.taken (above (sequence_number_in octets)),
)
  where
    accepted : SecurityContext
    accepted = with_next context dir (count + 1)

    above : (low : ℕ) → count < estimate (next_count accepted dir) low
    above low = omega (arith, next_is_behind context dir (count + 1))

pub one_message : (one other : SecurityContext) (dir : Dir) (octets : List ℕ) (count : ℕ) → HaveOneMessage one other dir octets count
one_message one other dir octets count same header header' plain plain' p p' =
    frame_of_one one dir count header header' plain plain'
    (sym p.framed ∙ p'.framed ∙ sym (same_frame one other dir count header' plain' same))
