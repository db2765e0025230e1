-- REGISTRATION REQUESTs that are kept, and when two of them are equal (TS 24.501 clause 5.5.1.2.8, cases c and d).
use Rattle.std.specs.Prelude.{Bool, true, false, ◌==◌, ◌&&◌, List, Option, Some, None}
use Rattle.std.specs.Str.{bytes_eq}
use Rattle.nas_elements.specs.Suci.{SuciParts}
use Rattle.std.specs.Cmp.Lexicographic.{pointwise}
use Rattle.std.proofs.Math.Bool.{beq}
use Rattle.mm_messages.specs.Parts.{registration_type_code}
use Rattle.amf_core.specs.Naming.{is_guti, is_plmn_of}
use Rattle.amf_core.specs.declared.requests.KeptIdentity.{KeptIdentity}
use Rattle.amf_core.specs.declared.requests.KeptIdentity.TheVariants.{Suci, Guti}
use Rattle.amf_core.specs.declared.requests.Request.{Request}

abbrev pub is_suci : SuciParts → SuciParts → Bool
is_suci one other = is_plmn_of one.plmn other.plmn && bytes_eq one.routing other.routing && bytes_eq one.msin other.msin

abbrev pub is_identity : KeptIdentity → KeptIdentity → Bool
is_identity (Suci one) (Suci other) = is_suci one other
is_identity (Suci one) (Guti other) = false
is_identity (Guti one) (Suci other) = false
is_identity (Guti one) (Guti other) = is_guti one other

-- an element that isn't there equals one that isn't
abbrev pub is_option : {A : Type 0} → (A → A → Bool) → Option A → Option A → Bool
is_option same None None = true
is_option same None (Some other) = false
is_option same (Some one) None = false
is_option same (Some one) (Some other) = same one other

-- two sets hold the same sessions
abbrev pub are_same_sessions : List Bool → List Bool → Bool
are_same_sessions one other = pointwise beq one other

-- as values, in all their parts
abbrev pub is_same : Request → Request → Bool
is_same one other =
    registration_type_code one.registration == registration_type_code other.registration && one.ksi == other.ksi && is_identity one.identity other.identity
    && is_option bytes_eq one.capability other.capability && is_option are_same_sessions one.status other.status
