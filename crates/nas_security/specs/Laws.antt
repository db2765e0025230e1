-- What the definitions of this crate say together.
use Rattle.std.specs.Prelude.{◌≡◌, ◌≤◌, ◌<◌, ◌+◌, ◌^◌, ◌↔◌, ℕ, List, [], length, drop, slice_index}
use Rattle.aes_cmac.specs.Nas.{nia2}
use Rattle.nas_base.specs.declared.count.Dir.{Dir}
use Rattle.nas_security.specs.Contexts.{SecurityContext}
use Rattle.nas_security.specs.Counts.{estimate, next_count, with_next}
use Rattle.nas_security.specs.Frame.{frame}
use Rattle.nas_security.specs.Passing.{Passes, header_in, judged, mac_in, sequence_number_in}
use Rattle.nas_security.specs.declared.verdicts.Verdict.TheVariants.{Plain, Malformed, Spent, Failed, Passed}

-- The verdict is `Passed` exactly where the octets pass as the frame of some plain message, and then it has that count and header
-- type, and that plain message is written.
abbrev pub IsPassedWherePassing : SecurityContext → Dir → List ℕ → Type 0
IsPassedWherePassing context dir octets =
    (count header : ℕ) (plain : List ℕ)
    → Passes context dir octets count header plain ↔ (judged context dir octets ≡ (Passed count header, plain))

-- Two contexts have the same keys and algorithms. Their next counts may differ.
abbrev pub HaveSameKeys : SecurityContext → SecurityContext → Type 0
HaveSameKeys one other = (one.keys ≡ other.keys) × (one.algs ≡ other.algs)

-- What was protected at a count passes under a context of the same keys whose next count is at most that one and less than 256
-- below it. A message of no octets has a frame that is too short to pass.
abbrev pub ProtectedPasses : SecurityContext → SecurityContext → Dir → ℕ → ℕ → List ℕ → Type 0
ProtectedPasses sender receiver dir count header plain =
    HaveSameKeys sender receiver → count < 2 ^ 24 → (1 ≤ header) × (header ≤ 4) → (1 ≤ length plain) × (length plain ≤ 4089)
    → next_count receiver dir ≤ count → count < next_count receiver dir + 256
    → judged receiver dir (frame sender dir count header plain) ≡ (Passed count header, plain)

-- Once a count was accepted, no sequence number is taken for it again, and whatever passes then has a greater count.
abbrev pub IsAcceptedOnce : SecurityContext → Dir → ℕ → Type 0
IsAcceptedOnce context dir count =
    let accepted : SecurityContext = with_next context dir (count + 1) in
    ((low : ℕ) → count < estimate (next_count accepted dir) low)
    × ((octets plain : List ℕ) (n header : ℕ) → judged accepted dir octets ≡ (Passed n header, plain) → count < n)

-- Octets that pass at one count under the same keys are the frame of one message.
abbrev pub HaveOneMessage : SecurityContext → SecurityContext → Dir → List ℕ → ℕ → Type 0
HaveOneMessage one other dir octets count =
    HaveSameKeys one other
    → (header header' : ℕ) (plain plain' : List ℕ)
    → Passes one dir octets count header plain → Passes other dir octets count header' plain' → (header ≡ header') × (plain ≡ plain')

-- octets have the form of a frame
pub record IsFormed (octets : List ℕ) : Type 0 where
  pub protocol : slice_index octets 0 ≡ 0x7e
  pub protected : (1 ≤ header_in octets) × (header_in octets ≤ 4)
  pub size : (8 ≤ length octets) × (length octets ≤ 4096)

-- the count that a frame's sequence number is taken for
abbrev pub count_of : SecurityContext → Dir → List ℕ → ℕ
count_of context dir octets = estimate (next_count context dir) (sequence_number_in octets)

-- the MAC that a frame would have at that count
abbrev pub wanted : SecurityContext → Dir → List ℕ → List ℕ
wanted context dir octets = nia2 context.keys.int (count_of context dir octets) dir (drop 6 octets)

-- Where each verdict comes that isn't `Passed`. What stands before the arrows of two lines never holds of the same octets, and of
-- octets that don't pass that of one line holds; so each comes exactly where its line says.
pub record AreJudged (context : SecurityContext) (dir : Dir) (octets : List ℕ) : Type 0 where
  pub plain : 2 ≤ length octets → slice_index octets 0 ≡ 0x7e → header_in octets ≡ 0 → judged context dir octets ≡ (Plain, [])
  pub other_first : 1 ≤ length octets → ¬ (slice_index octets 0 ≡ 0x7e) → judged context dir octets ≡ (Malformed 0, [])
  pub other_type :
      2 ≤ length octets → slice_index octets 0 ≡ 0x7e → 4 < header_in octets → judged context dir octets ≡ (Malformed 1, [])
  pub short :
      length octets < 8 → (1 ≤ length octets → slice_index octets 0 ≡ 0x7e)
      → (2 ≤ length octets → (1 ≤ header_in octets) × (header_in octets ≤ 4)) → judged context dir octets ≡ (Malformed (length octets), [])
  pub long :
      4096 < length octets → slice_index octets 0 ≡ 0x7e → (1 ≤ header_in octets) × (header_in octets ≤ 4)
      → judged context dir octets ≡ (Malformed 4096, [])
  pub spent :
      IsFormed octets → 2 ^ 24 ≤ count_of context dir octets → judged context dir octets ≡ (Spent (next_count context dir), [])
  pub failed :
      IsFormed octets → count_of context dir octets < 2 ^ 24 → ¬ (wanted context dir octets ≡ mac_in octets)
      → judged context dir octets ≡ (Failed (wanted context dir octets) (mac_in octets), [])
