-- Octets that pass the check of a context, and what an AMF notes of it (TS 24.501 clause 4.4.3.3).
use Rattle.std.specs.Prelude.{ℕ, true, false, List, Option, Some, None}
use Rattle.nas_base.specs.Branches.{per}
use Rattle.nas_base.specs.declared.count.Dir.TheVariants.{Up}
use Rattle.nas_security.specs.Contexts.{SecurityContext}
use Rattle.mm_entity.specs.Opening.{Opened, opened, with_count}
use Rattle.amf_core.specs.SecurityMode.{commanding_on}
use Rattle.amf_core.specs.Work.{Work, link_of, put, put_link, tell}
use Rattle.amf_core.specs.declared.checks.Check.{Check}
use Rattle.amf_core.specs.declared.outs.AmfOut.TheVariants.{Passed}
use Rattle.amf_core.specs.declared.procedures.Challenging.{Challenging}
use Rattle.amf_core.specs.declared.procedures.Phase.TheVariants.{Mode}
use Rattle.amf_core.specs.declared.procedures.Procedure.TheVariants as procedures
use Rattle.amf_core.specs.declared.security_mode.Commanding.{Commanding}
use Rattle.amf_core.specs.declared.subscriber.Record.{Record}

-- what passed, and its plain message
pub record Passage : Type 0 where
  pub check : Check
  pub message : List ℕ

-- The link of a message that passed becomes the subscriber's.
abbrev pub passed_in_use : ℕ → SecurityContext → ℕ → Record → Check
passed_in_use link context count s = record {
  subscriber = record s { in_use = Some (with_count context Up count); link = Some link };
  challenge = context.challenge;
  is_pending = false;
  count = count;
}

unfoldable pub checked_in_use : ℕ → List ℕ → Record → Option Passage
checked_in_use link octets s =
    per s.in_use None (λ (context : SecurityContext).
    per (opened context Up octets) None (λ (o : Opened). Some (record { check = passed_in_use link context o.count s; message = o.message })))

abbrev pub counted_mode : Commanding → ℕ → Challenging
counted_mode m count = record m.challenging { phase = Mode (with_count m.context Up count) }

abbrev pub passed_pending : ℕ → Commanding → ℕ → Record → Check
passed_pending link m count s = record {
  subscriber = record s { procedure = procedures.Challenging (counted_mode m count); link = Some link };
  challenge = m.context.challenge;
  is_pending = true;
  count = count;
}

unfoldable pub checked_pending : ℕ → List ℕ → Record → Option Passage
checked_pending link octets s =
    per (commanding_on link s.procedure) None (λ (m : Commanding).
    per (opened m.context Up octets) None (λ (o : Opened). Some (record { check = passed_pending link m o.count s; message = o.message })))

-- A message that passed takes its count, and makes its link secure and its subscriber that of the link.
abbrev pub link_passed : ℕ → List ℕ → Work → Work
link_passed link supi w = put_link (record (link_of link w) { secure = true; supi = Some supi }) w

abbrev pub noted : ℕ → Check → Work → Work
noted link c w =
    tell (Passed (record { supi = c.subscriber.supi; challenge = c.challenge; count = c.count }))
    (link_passed link c.subscriber.supi (put c.subscriber w))
