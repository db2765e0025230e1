-- How what is said becomes octets: spelled, and protected under the current context (TS 24.501 clause 4.4, TS 33.501 clause 6.4).
use Rattle.std.specs.Prelude.{ℕ, Bool, List, [], ◌∷◌, ◌++◌, Some, None}
use Rattle.nas_base.specs.Branches.{per, when◌then◌else◌}
use Rattle.nas_base.specs.declared.count.Dir.TheVariants.{Up}
use Rattle.mm_messages.specs.Messages.{spelling}
use Rattle.mm_entity.specs.Framing.{counted, is_too_long, is_unsent, next_frame, pass_under}
use Rattle.nas_security.specs.Contexts.{SecurityContext}
use Rattle.ue_mm.specs.declared.acts.Act.{Act}
use Rattle.ue_mm.specs.declared.acts.Act.TheVariants.{Say, Tell}
use Rattle.ue_mm.specs.declared.acts.Protection.TheVariants.{Plain, IntegrityProtected, Ciphered, CipheredWithNewContext}
use Rattle.ue_mm.specs.declared.framing.Framed.{Framed}
use Rattle.ue_mm.specs.declared.outs.UeOut.{UeOut}
use Rattle.ue_mm.specs.declared.outs.UeOut.TheVariants.{Send}

-- one more goes out
abbrev pub framed_out : UeOut → Framed → Framed
framed_out out f = record f { outs = f.outs ++ out ∷ [] }

abbrev pub framed_plain : Bool → List ℕ → Framed → Framed
framed_plain fresh message f = when is_too_long message then f else framed_out (Send fresh message None) f

abbrev pub framed_under : List ℕ → ℕ → Bool → List ℕ → SecurityContext → Framed → Framed
framed_under supi header fresh message context f =
    when is_unsent message context Up then f
    else framed_out (Send fresh (next_frame context Up header message) (Some (pass_under supi context Up)))
    (record f { current = Some (counted context Up) })

abbrev pub framed_protected : List ℕ → ℕ → Bool → List ℕ → Framed → Framed
framed_protected supi header fresh message f =
    per f.current f (λ (context : SecurityContext). framed_under supi header fresh message context f)

-- by what it is sent under, with the security header type (TS 24.501 clause 9.3)
unfoldable pub framed : List ℕ → Act → Framed → Framed
framed supi (Tell out) f = framed_out out f
framed supi (Say fresh Plain message) f = framed_plain fresh (spelling message) f
framed supi (Say fresh IntegrityProtected message) f = framed_protected supi 1 fresh (spelling message) f
framed supi (Say fresh Ciphered message) f = framed_protected supi 2 fresh (spelling message) f
framed supi (Say fresh CipheredWithNewContext message) f = framed_protected supi 4 fresh (spelling message) f

-- one after the other
abbrev pub framed_all : List ℕ → List Act → Framed → Framed
framed_all supi [] f = f
framed_all supi (act ∷ acts) f = framed_all supi acts (framed supi act f)
