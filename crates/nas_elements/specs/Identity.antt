-- The 5GS mobile identity (TS 24.501 clause 9.11.3.4).
use Rattle.std.specs.Prelude.{◌≡◌, true, ℕ, List, slice_index, ◌==◌, Option, Some, None, option_map, Result, Ok, Err, if◌then◌else◌}
use Rattle.nas_elements.specs.Guti.{guti_in, guti_octets, stmsi_in, stmsi_octets, type_of_identity}
use Rattle.nas_elements.specs.Reads.{IsWrongAt}
use Rattle.nas_elements.specs.Other.{is_other}
use Rattle.nas_elements.specs.Suci.{suci_in, suci_octets}
use Rattle.nas_elements.specs.declared.identity.Identity.{Identity}
use Rattle.nas_elements.specs.declared.identity.Identity.TheVariants.{Suci, Guti, Stmsi, Other}
use Rattle.nas_elements.specs.declared.identity.IdentityRefusal.{IdentityRefusal}
use Rattle.nas_elements.specs.declared.identity.IdentityRefusal.TheVariants.{Wrong, Memory}

-- an identity as it is written
abbrev pub identity_octets : Identity → List ℕ
identity_octets (Suci s) = suci_octets s
identity_octets (Guti g) = guti_octets g
identity_octets (Stmsi s) = stmsi_octets s
identity_octets (Other octets) = octets

-- the identity in the octets, if there is one
unfoldable pub identity_in : List ℕ → Option Identity
identity_in octets =
    if is_other octets then Some (Other octets)
    else (if slice_index octets 0 == 0x01 then option_map (λ s. Suci s) (suci_in octets)
    else (if type_of_identity octets == 2 then option_map (λ g. Guti g) (guti_in octets)
    else option_map (λ s. Stmsi s) (stmsi_in octets)))

-- what a reader of an identity answered; only an identity that is kept as its octets wants memory
abbrev pub ReadsIdentity : List ℕ → Result Identity IdentityRefusal → Type 0
ReadsIdentity octets (Ok identity) = identity_in octets ≡ Some identity
ReadsIdentity octets (Err (Wrong at)) = (identity_in octets ≡ None) × IsWrongAt identity_in octets at
ReadsIdentity octets (Err Memory) = is_other octets ≡ true
