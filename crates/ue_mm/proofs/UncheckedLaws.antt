-- Octets that pass a check, and those that pass none.
use Rattle.std.proofs.Common.{◌≡◌, refl, sym, ap, subst, ◌∙◌, inl, inr, ℕ, ◌<◌, Bool, not, ◌==◌, ◌||◌, List, [], ◌∷◌, ◌++◌, append_assoc, flat_map, get_or, length, nat_lt, Option, Some, None, Ok, arith}
use Rattle.std.proofs.lemmas.Grind.{common_steps}
use Rattle.std.proofs.lemmas.List.{append-nil, flat_map_more}
use Rattle.nas_base.specs.Branches.{per, when◌then◌else◌}
use Rattle.nas_base.specs.declared.count.Dir.TheVariants.{Down, Up}
use Rattle.mm_messages.specs.Messages.{mm_in, spelling}
use Rattle.mm_messages.specs.declared.security_mode.SecurityModeCommand.{SecurityModeCommand}
use Rattle.nas_security.specs.Contexts.{SecurityContext}
use Rattle.nas_security.specs.declared.sends.Pass.{Pass}
use Rattle.mm_entity.proofs.OpeningLaws.{something_passes}
use Rattle.mm_entity.specs.Framing.{is_too_long, is_unsent}
use Rattle.mm_entity.specs.Heads.{header_of}
use Rattle.mm_entity.specs.Opening.{Opened, opened, with_count}
use Rattle.ue_mm.specs.Checks.{counted, noted}
use Rattle.ue_mm.specs.Delivery.{delivered, new_context, passed, plain, protected}
use Rattle.ue_mm.specs.Framing.{framed, framed_all, framed_plain, framed_protected}
use Rattle.ue_mm.specs.Laws.{AreReadPlain, DoesNothing, IsContextOf, OpensWherePassing, UncheckedDoNothing, WasChecked, WereChecked, passed_in, told}
use Rattle.ue_mm.specs.SecurityMode.{are_supported, command_passed, command_picked, command_repeated, command_under_current, command_under_pending, made, picked_current, picked_pending, security_mode_commanded}
use Rattle.ue_mm.specs.State.{MmState, is_deregistering}
use Rattle.ue_mm.specs.Step.{ended, started, step_of, worked}
use Rattle.ue_mm.specs.declared.acts.Act.{Act}
use Rattle.ue_mm.specs.declared.acts.Act.TheVariants.{Say, Tell}
use Rattle.ue_mm.specs.declared.acts.Protection.TheVariants.{Plain, IntegrityProtected, Ciphered, CipheredWithNewContext}
use Rattle.ue_mm.specs.declared.common.Pending.{Pending}
use Rattle.ue_mm.specs.declared.framing.Framed.{Framed}
use Rattle.ue_mm.specs.declared.inputs.UeInput.TheVariants.{Delivered}
use Rattle.ue_mm.specs.declared.outs.UeOut.{UeOut}
use Rattle.ue_mm.specs.declared.outs.UeOut.TheVariants.{Send}
use Rattle.ue_mm.specs.declared.work.Work.{Work}
use Rattle.nas_base.proofs.Branching.{per_holds, when_holds}
use Rattle.ue_mm.proofs.ToldRows.{HasTold, command_tells, onto_told, passed_tells, plain_tells, repeated_tells, told_in}

-- What octets come to: each pass that is told was checked, and where none is told and they aren't read as plain ones, nothing is done.
record ComesTo (octets : List ℕ) (w new : Work) : Type 0 where
  passes : List Pass
  tells : HasTold passes new
  checked : WereChecked w.common octets passes
  still : passes ≡ [] → ¬ (AreReadPlain w.common octets) → new ≡ w

nothing_done : (octets : List ℕ) (w : Work) → HasTold [] w → ComesTo octets w w
nothing_done octets w h = record { passes = []; tells = h; checked = tt; still = λ _ _. refl }

-- octets that pass under a context are told before anything is done with them
abbrev pass_of : SecurityContext → ℕ → Work → Pass
pass_of context count w = record { supi = w.common.config.supi; challenge = context.challenge; count = count }

noted_tells : (context : SecurityContext) (count : ℕ) (w : Work) → HasTold [] w → HasTold (pass_of context count w ∷ []) (noted context count w)
noted_tells context count w h = record { told = simp (onto_told, h.told) }

counted_tells : (context : SecurityContext) (count : ℕ) (w : Work) → HasTold [] w
    → HasTold (pass_of context count w ∷ []) (counted context count w)
counted_tells context count w h = record { told = simp (onto_told, h.told) }

opening : (context : SecurityContext) (octets : List ℕ) (w : Work) (with : Opened → Work) → get_or octets 6 0 < 256 → HasTold [] w
    → IsContextOf w.common context → ((o : Opened) → HasTold (pass_of context o.count w ∷ []) (with o))
    → ComesTo octets w (per (opened context Down octets) w with)
opening context octets w with small h is tells =
    per_holds (λ (x : Work). ComesTo octets w x) (opened context Down octets) w with
    (λ _. nothing_done octets w h)
    (λ o e. record { passes = pass_of context o.count w ∷ []; tells = tells o; checked = (was o e, tt); still = λ none _. absurd (cc) })
  where
    was : (o : Opened) → opened context Down octets ≡ Some o → WasChecked w.common octets (pass_of context o.count w)
    was o e =
        let passing = something_passes context Down octets o small e in
        record {
          context = context;
          header = passing.0;
          message = o.message;
          is_its = refl;
          is_context = is;
          is_challenge = refl;
          passes = passing.1;
        }

-- what is picked is the pending key, or the current context
is_pending : (ksi : ℕ) (w : Work) → (p : Pending) → picked_pending ksi w ≡ Some p → w.common.pending ≡ Some p
is_pending ksi w =
    when_holds (λ (x : Option Pending). (p : Pending) → x ≡ Some p → w.common.pending ≡ Some p)
    (is_deregistering w.phase) None
    (per w.common.pending None (λ (p : Pending). when p.ksi == ksi then Some p else None))
    (λ _ p e. absurd (cc))
    (λ _. per_holds (λ (x : Option Pending). (p : Pending) → x ≡ Some p → w.common.pending ≡ Some p) w.common.pending None
    (λ (p : Pending). when p.ksi == ksi then Some p else None)
    (λ _ p e. absurd (cc))
    (λ q is. when_holds (λ (x : Option Pending). (p : Pending) → x ≡ Some p → w.common.pending ≡ Some p) (q.ksi == ksi) (Some q) None
    (λ _ p e. is ∙ e) (λ _ p e. absurd (cc))))

is_current : (ksi : ℕ) (w : Work) → (context : SecurityContext) → picked_current ksi w ≡ Some context → w.common.current ≡ Some context
is_current ksi w =
    per_holds (λ (x : Option SecurityContext). (context : SecurityContext) → x ≡ Some context → w.common.current ≡ Some context)
    w.common.current None (λ (context : SecurityContext). when context.ksi == ksi then Some context else None)
    (λ _ context e. absurd (cc))
    (λ q is. when_holds
    (λ (x : Option SecurityContext). (context : SecurityContext) → x ≡ Some context → w.common.current ≡ Some context)
    (q.ksi == ksi) (Some q) None (λ _ context e. is ∙ e) (λ _ context e. absurd (cc)))

command_comes : (command : SecurityModeCommand) (octets : List ℕ) (w : Work) → get_or octets 6 0 < 256 → HasTold [] w
    → ComesTo octets w (security_mode_commanded command octets w)
unfolding security_mode_commanded
command_comes command octets w small h =
    when_holds (λ (x : Work). ComesTo octets w x) (are_supported command.algs) (command_picked command octets w) w
    (λ supported. per_holds (λ (x : Work). ComesTo octets w x) (picked_pending command.ksi w)
    (per (picked_current command.ksi w) w (λ (context : SecurityContext). command_under_current command context octets w))
    (λ (p : Pending). command_under_pending command (made p command.algs) octets w)
    (λ _. per_holds (λ (x : Work). ComesTo octets w x) (picked_current command.ksi w) w
    (λ (context : SecurityContext). command_under_current command context octets w)
    (λ _. nothing_done octets w h)
    (λ context e. opening context octets w (λ (o : Opened). command_repeated command (counted context o.count w)) small h
    (inl (is_current command.ksi w context e))
    (λ o. repeated_tells (pass_of context o.count w ∷ []) command (counted context o.count w) (counted_tells context o.count w h))))
    (λ p e. let context : SecurityContext = made p command.algs in
    opening context octets w (λ (o : Opened). command_passed command (with_count context Down o.count) (noted context o.count w)) small h
    (inr (p, command.algs, is_pending command.ksi w p e, supported, refl))
    (λ o. command_tells (pass_of context o.count w ∷ []) command (with_count context Down o.count) (noted context o.count w)
    (noted_tells context o.count w h))))
    (λ _. nothing_done octets w h)

comes : (octets : List ℕ) (w : Work) → get_or octets 6 0 < 256 → HasTold [] w → ComesTo octets w (delivered octets w)
unfolding delivered plain new_context protected
comes octets w small h =
    when_holds (λ (x : Work). ComesTo octets w x) (not w.common.connected || nat_lt 4096 (length octets)) w
    (when header_of octets == 0 then plain octets w
    else (when header_of octets == 3 then new_context octets w else protected octets w))
    (λ _. nothing_done octets w h)
    (λ connected. when_holds (λ (x : Work). ComesTo octets w x) (header_of octets == 0) (plain octets w)
    (when header_of octets == 3 then new_context octets w else protected octets w)
    (λ header. when_holds (λ (x : Work). ComesTo octets w x) w.common.secure w _ (λ _. nothing_done octets w h)
    (λ unsecured. record {
      passes = [];
      tells = plain_tells [] (mm_in octets) octets w h;
      checked = tt;
      still = λ _ unread. absurd (unread (grind (arith, common_steps), unsecured, grind (arith, common_steps), grind (arith, common_steps)));
    }))
    (λ _. when_holds (λ (x : Work). ComesTo octets w x) (header_of octets == 3) (new_context octets w) (protected octets w)
    (λ _. per_holds (λ (x : Work). ComesTo octets w x) _ w _ (λ _. nothing_done octets w h)
    (λ command e. command_comes command octets w small h))
    (λ _. per_holds (λ (x : Work). ComesTo octets w x) w.common.current w _ (λ _. nothing_done octets w h)
    (λ context e. opening context octets w (λ (o : Opened). passed o.message (counted context o.count w)) small h (inl e)
    (λ o. passed_tells (pass_of context o.count w ∷ []) o.message (counted context o.count w) (counted_tells context o.count w h))))))

-- What is told goes out.
out_told : (out : UeOut) (f : Framed) → told (f.outs ++ out ∷ []) ≡ told f.outs ++ passed_in out
out_told out f = sym (flat_map_more passed_in [] f.outs out)

plain_told : (fresh : Bool) (message : List ℕ) (f : Framed) → told (framed_plain fresh message f).outs ≡ told f.outs
plain_told fresh message f =
    when_holds (λ (g : Framed). told g.outs ≡ told f.outs) (is_too_long message) f _ (λ _. refl)
    (λ _. out_told (Send fresh message None) f ∙ append-nil (told f.outs))

protected_told : (supi : List ℕ) (header : ℕ) (fresh : Bool) (message : List ℕ) (f : Framed)
    → told (framed_protected supi header fresh message f).outs ≡ told f.outs
protected_told supi header fresh message f =
    per_holds (λ (g : Framed). told g.outs ≡ told f.outs) f.current f _ (λ _. refl)
    (λ context _. when_holds (λ (g : Framed). told g.outs ≡ told f.outs) (is_unsent message context Up) f _ (λ _. refl)
    (λ _. out_told (Send fresh _ _) f ∙ append-nil (told f.outs)))

act_told : (supi : List ℕ) (act : Act) (f : Framed) → told (framed supi act f).outs ≡ told f.outs ++ told_in act
unfolding framed
act_told supi (Tell out) f = out_told out f
act_told supi (Say fresh Plain message) f = plain_told fresh (spelling message) f ∙ sym (append-nil (told f.outs))
act_told supi (Say fresh IntegrityProtected message) f = protected_told supi 1 fresh (spelling message) f ∙ sym (append-nil (told f.outs))
act_told supi (Say fresh Ciphered message) f = protected_told supi 2 fresh (spelling message) f ∙ sym (append-nil (told f.outs))
act_told supi (Say fresh CipheredWithNewContext message) f = protected_told supi 4 fresh (spelling message) f ∙ sym (append-nil (told f.outs))

all_told : (supi : List ℕ) (acts : List Act) (f : Framed) → told (framed_all supi acts f).outs ≡ told f.outs ++ flat_map told_in acts
all_told supi [] f = sym (append-nil (told f.outs))
all_told supi (act ∷ acts) f =
    all_told supi acts (framed supi act f) ∙ ap (λ (ps : List Pass). ps ++ flat_map told_in acts) (act_told supi act f)
    ∙ append_assoc (told f.outs) (told_in act) (flat_map told_in acts)

-- and so at the end of the step
end_told : (w : Work) → told (ended w).outs ≡ flat_map told_in w.acts
unfolding ended
end_told w = all_told w.common.config.supi w.acts (record { current = w.common.current; outs = [] })

at_start : (s : MmState) (now : ℕ) (held : List Bool) → HasTold [] (started s now held)
at_start s now held = record { told = refl }

pub opened_where_passing : (s : MmState) (now : ℕ) (held : List Bool) (octets : List ℕ) → get_or octets 6 0 < 256
    → OpensWherePassing s octets (step_of s now held (Delivered octets))
unfolding worked
opened_where_passing s now held octets small =
    let come = comes octets (started s now held) small (at_start s now held) in
    subst (λ (ps : List Pass). WereChecked s.common octets ps)
    (sym (end_told (delivered octets (started s now held)) ∙ come.tells.told)) come.checked

-- a row that leaves the work as it began
done_nothing : (s : MmState) (now : ℕ) (held : List Bool) (octets : List ℕ) → delivered octets (started s now held) ≡ started s now held
    → DoesNothing s now held (Delivered octets)
unfolding worked ended
done_nothing s now held octets e = ap (λ (w : Work). Ok (ended w)) e

pub unchecked_do_nothing : (s : MmState) (now : ℕ) (held : List Bool) (octets : List ℕ) → get_or octets 6 0 < 256
    → UncheckedDoNothing s now held octets
unfolding worked
unchecked_do_nothing s now held octets small silent unread =
    let come = comes octets (started s now held) small (at_start s now held) in
    done_nothing s now held octets
    (come.still (sym come.tells.told ∙ sym (end_told (delivered octets (started s now held))) ∙ silent) unread)
