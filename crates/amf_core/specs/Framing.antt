-- How what is said becomes octets: spelled, and protected under the contexts of the subscribers (TS 24.501 clause 4.4, TS 33.501 clause 6.4).
use Rattle.std.specs.Prelude.{ℕ, false, List, [], ◌∷◌, ◌++◌, Option, Some, None}
use Rattle.nas_base.specs.Branches.{per, when◌then◌else◌}
use Rattle.nas_base.specs.declared.count.Dir.TheVariants.{Down}
use Rattle.mm_messages.specs.Messages.{spelling}
use Rattle.mm_entity.specs.Framing.{counted, is_too_long, is_unsent, next_frame, pass_under}
use Rattle.nas_security.specs.Contexts.{SecurityContext}
use Rattle.milenage.specs.Home.{HomeRecord}
use Rattle.nas_security.specs.declared.sends.Pass.{Pass}
use Rattle.amf_core.specs.Changes.{CoreState}
use Rattle.amf_core.specs.SecurityMode.{commanding_of}
use Rattle.amf_core.specs.State.{AmfState, subscriber_in, with_subscriber}
use Rattle.amf_core.specs.declared.acts.Act.{Act}
use Rattle.amf_core.specs.declared.acts.Act.TheVariants.{Say, Tell}
use Rattle.amf_core.specs.declared.acts.Protection.TheVariants.{Plain, Ciphered, IntegrityProtectedWithNewContext}
use Rattle.amf_core.specs.declared.outs.AmfOut.{AmfOut}
use Rattle.amf_core.specs.declared.outs.AmfOut.TheVariants.{Send}
use Rattle.amf_core.specs.declared.procedures.Challenging.{Challenging}
use Rattle.amf_core.specs.declared.procedures.Phase.TheVariants.{Mode}
use Rattle.amf_core.specs.declared.procedures.Procedure.TheVariants as procedures
use Rattle.amf_core.specs.declared.security_mode.Commanding.{Commanding}
use Rattle.amf_core.specs.declared.subscriber.Record.{Record}

-- the AMF, whose contexts' counts the messages take, and what goes out
pub record Framed : Type 0 where
  pub amf : AmfState
  pub outs : List AmfOut

-- that, beside the home network and what was kept before, which framing leaves
pub record Framing : Type 0 where
  pub framed : Framed
  pub home : List HomeRecord
  pub before : CoreState

abbrev pub by : (Framed → Framed) → Framing → Framing
by step f = record f { framed = step f.framed }

-- one more goes out; a message of the network is never fresh
abbrev pub framed_out : AmfOut → Framed → Framed
framed_out out f = record f { outs = f.outs ++ out ∷ [] }

abbrev pub sent : ℕ → List ℕ → Option Pass → Framed → Framed
sent link octets pass f = framed_out (Send (record { link = link; fresh = false; octets = octets; pass = pass })) f

abbrev pub with_record : Record → Framed → Framed
with_record s f = record f { amf = with_subscriber s f.amf }

abbrev pub framed_plain : ℕ → List ℕ → Framed → Framed
framed_plain link message f = when is_too_long message then f else sent link message None f

-- header type 2, under the context in use; plain where the subscriber has none
abbrev pub under_in_use : ℕ → List ℕ → SecurityContext → Record → Framed → Framed
under_in_use link message context s f =
    when is_unsent message context Down then f
    else sent link (next_frame context Down 2 message) (Some (pass_under s.supi context Down))
    (with_record (record s { in_use = Some (counted context Down) }) f)

abbrev pub ciphered_for : ℕ → List ℕ → Record → Framed → Framed
ciphered_for link message s f =
    per s.in_use (framed_plain link message f) (λ (context : SecurityContext). under_in_use link message context s f)

unfoldable pub framed_ciphered : ℕ → List ℕ → List ℕ → Framed → Framed
framed_ciphered link supi message f =
    per (subscriber_in supi f.amf.subscribers) (framed_plain link message f) (λ (s : Record). ciphered_for link message s f)

-- header type 3, under the context that is commanded
abbrev pub counted_command : Commanding → Challenging
counted_command o = record o.challenging { phase = Mode (counted o.context Down) }

abbrev pub under_new : ℕ → List ℕ → Commanding → Record → Framed → Framed
under_new link message o s f =
    when is_unsent message o.context Down then f
    else sent link (next_frame o.context Down 3 message) (Some (pass_under s.supi o.context Down))
    (with_record (record s { procedure = procedures.Challenging (counted_command o) }) f)

abbrev pub commanded_for : ℕ → List ℕ → Record → Framed → Framed
commanded_for link message s f =
    per (commanding_of s.procedure) f (λ (o : Commanding). under_new link message o s f)

unfoldable pub framed_with_new_context : ℕ → List ℕ → List ℕ → Framed → Framed
framed_with_new_context link supi message f =
    per (subscriber_in supi f.amf.subscribers) f (λ (s : Record). commanded_for link message s f)

unfoldable pub framed : Act → Framed → Framed
framed (Tell out) f = framed_out out f
framed (Say link Plain message) f = framed_plain link (spelling message) f
framed (Say link (Ciphered supi) message) f = framed_ciphered link supi (spelling message) f
framed (Say link (IntegrityProtectedWithNewContext supi) message) f = framed_with_new_context link supi (spelling message) f

-- one after the other
abbrev pub framed_all : List Act → Framed → Framed
framed_all [] f = f
framed_all (act ∷ acts) f = framed_all acts (framed act f)
