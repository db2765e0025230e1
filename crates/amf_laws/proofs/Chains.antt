-- The rows that octets come to, one behind the other, each with the subscriber that it has.
use Rattle.std.proofs.Common.{◌≡◌, sym, subst, ◌⊎◌, ℕ, List, Option, Some, None}
use Rattle.nas_elements.specs.declared.guti.Guti.{Guti}
use Rattle.mm_messages.specs.declared.message.Mm.{Mm}
use Rattle.amf_core.specs.Checks.{Passage, checked_in_use, checked_pending, noted}
use Rattle.amf_core.specs.Naming.{keeper, keeps_guti, keeps_stmsi, short_keeper}
use Rattle.nas_elements.specs.declared.guti.Stmsi.{Stmsi}
use Rattle.amf_core.specs.State.{has_supi, subscriber_in}
use Rattle.amf_core.specs.Work.{Work, link_of, put_link, say, subscriber, subscriber_of_link}
use Rattle.amf_core.specs.declared.acts.Protection.{Protection}
use Rattle.amf_core.specs.declared.requests.Request.{Request}
use Rattle.amf_core.specs.declared.subscriber.Record.{Record}
use Rattle.nas_base.proofs.Branching.{per_holds}
use Rattle.amf_laws.proofs.Moves.{MayProtect, Settled, begins}
use Rattle.amf_laws.proofs.Records.{found_among, found_by_supi, found_has}
use Rattle.amf_laws.specs.Passing.{IsAmong}
use Rattle.amf_laws.specs.Timers.{AreDistinct}

-- the records as they are by now
abbrev pub kept_now : Work → List Record
kept_now w = w.amf.subscribers

-- a record is kept, and where no SUPI is kept twice it is that of its SUPI
pub record IsCurrent (s : Record) (w : Work) : Type 0 where
  pub is : AreDistinct (kept_now w) → subscriber_in s.supi (kept_now w) ≡ Some s
  pub among : IsAmong s (kept_now w)

-- octets passed a check of a subscriber
abbrev pub IsChecked : ℕ → List ℕ → Record → Passage → Type 0
IsChecked number octets s p = (checked_in_use number octets s ≡ Some p) ⊎ (checked_pending number octets s ≡ Some p)

-- octets that come up a link, and the step so far
pub record Received : Type 0 where
  pub number : ℕ
  pub octets : List ℕ
  pub first : Work

-- What was reached by rows of subscribers that may have one. Octets pass one check at most, before any row.
pub data Chain (May : List ℕ → Type 0) (u : Received) : Work → Type 0 where
  nothing : Chain May u u.first
  speaks : {w : Work} (number : ℕ) (protection : Protection) (message : Mm) → MayProtect May protection → Chain May u w
      → Chain May u (say number protection message w)
  waits : {w : Work} (number : ℕ) (supi : Option (List ℕ)) (waiting : Option Request) → Chain May u w
      → Chain May u (put_link (record (link_of number w) { supi = supi; waiting = waiting }) w)
  passes : (s : Record) (p : Passage) → IsCurrent s u.first → May s.supi → IsChecked u.number u.octets s p
      → Chain May u (noted u.number p.check u.first)
  does : {w new : Work} (s : Record) → IsCurrent s w → May s.supi → Settled May (begins s w) new → Chain May u w → Chain May u new

-- what is found is current
pub found_before : (supi : List ℕ) (w : Work) (s : Record) → subscriber supi w ≡ Some s → subscriber_in s.supi (kept_now w) ≡ Some s
found_before supi w s e = subst (λ (x : List ℕ). subscriber_in x (kept_now w) ≡ Some s) (sym (found_has supi (kept_now w) s e)) e

pub found_is_current : (supi : List ℕ) (w : Work) (s : Record) → subscriber supi w ≡ Some s → IsCurrent s w
found_is_current supi w s e = record { is = λ _. found_before supi w s e; among = found_among (has_supi supi) (kept_now w) s e }

pub link_is_current : (number : ℕ) (w : Work) (s : Record) → subscriber_of_link number w ≡ Some s → IsCurrent s w
link_is_current number w =
    per_holds (λ (x : Option Record). (s : Record) → x ≡ Some s → IsCurrent s w) (link_of number w).supi None _
    (λ _ s e. absurd (cc)) (λ supi _ s e. found_is_current supi w s e)

pub keeper_is_current : (g : Guti) (w : Work) (s : Record) → keeper g w ≡ Some s → IsCurrent s w
keeper_is_current g w s e = record {
  is = λ distinct. found_by_supi (keeps_guti g) (kept_now w) s distinct e;
  among = found_among (keeps_guti g) (kept_now w) s e;
}

pub short_keeper_is_current : (t : Stmsi) (w : Work) (s : Record) → short_keeper t w ≡ Some s → IsCurrent s w
short_keeper_is_current t w s e = record {
  is = λ distinct. found_by_supi (keeps_stmsi t) (kept_now w) s distinct e;
  among = found_among (keeps_stmsi t) (kept_now w) s e;
}
