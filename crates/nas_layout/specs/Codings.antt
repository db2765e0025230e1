-- The values of parts and elements by the names of TS 24.501 clauses 9.11.2 to 9.11.4: what their octets read as, and what they are
-- written as.
use Rattle.std.specs.Prelude.{ℕ, Bool, true, false, List}
use Rattle.nas_elements.specs.Address.{address_in, address_octets}
use Rattle.nas_elements.specs.Algs.{Algorithms, algs_in, algs_octets}
use Rattle.nas_elements.specs.Ambr.{ambr_in, ambr_octets}
use Rattle.nas_elements.specs.Asi.{asi_in, asi_octets}
use Rattle.nas_elements.specs.Capability.{capability_in}
use Rattle.nas_elements.specs.Dnn.{dnn_in}
use Rattle.nas_elements.specs.Guti.{guti_in, guti_octets}
use Rattle.nas_elements.specs.Identity.{identity_in, identity_octets}
use Rattle.nas_elements.specs.Nssai.{nssai_in, nssai_octets}
use Rattle.nas_elements.specs.Slice.{slice_in, slice_octets}
use Rattle.nas_elements.specs.Status.{status_in, status_octets}
use Rattle.nas_elements.specs.TaiList.{tai_list_in}
use Rattle.nas_elements.specs.Timer3.{GprsTimer, timer3_in, timer3_octets}
use Rattle.nas_elements.specs.declared.address.Address.{Address}
use Rattle.nas_elements.specs.declared.ambr.Ambr.{Ambr}
use Rattle.nas_elements.specs.declared.asi.Asi.{Asi}
use Rattle.nas_elements.specs.declared.guti.Guti.{Guti}
use Rattle.nas_elements.specs.declared.identity.Identity.{Identity}
use Rattle.nas_elements.specs.declared.identity.Identity.TheVariants as identities
use Rattle.nas_elements.specs.declared.slice.Slice.{Slice}
use Rattle.nas_layout.specs.Abba.{abba_in}
use Rattle.nas_layout.specs.Coding.{Coding, octets_held, octets_kept, value}
use Rattle.nas_layout.specs.Half.{half_in, half_octets}
use Rattle.nas_layout.specs.Parts.{container_in, exactly, ksi_in, octet_in, one_octet}

-- one octet, such as a cause; half an octet
abbrev pub octet : Coding ℕ
octet = value octet_in one_octet

abbrev pub half : Coding ℕ
half = value half_in half_octets

-- ngKSI in the low half: bits 1 to 3; bit 4 is written 0, and passed over (TS 24.501 clause 9.11.3.32)
abbrev pub ksi : Coding ℕ
ksi = value ksi_in one_octet

-- so many octets; any octets
abbrev pub octets : ℕ → Coding (List ℕ)
octets n = octets_held (exactly n)

abbrev pub container : Coding (List ℕ)
container = octets_kept container_in

-- an identity other than SUCI, 5G-GUTI and 5G-S-TMSI is kept as its octets
abbrev pub is_identity_kept : Identity → Bool
is_identity_kept (identities.Suci s) = false
is_identity_kept (identities.Guti g) = false
is_identity_kept (identities.Stmsi s) = false
is_identity_kept (identities.Other octets) = true

abbrev pub identity : Coding Identity
identity = record { reading = identity_in; octets = identity_octets; is_kept = is_identity_kept }

abbrev pub guti : Coding Guti
guti = value guti_in guti_octets

abbrev pub capability : Coding (List ℕ)
capability = octets_held capability_in

abbrev pub algs : Coding Algorithms
algs = value algs_in algs_octets

abbrev pub asi : Coding Asi
asi = value asi_in asi_octets

abbrev pub abba : Coding (List ℕ)
abba = octets_held abba_in

abbrev pub status : Coding (List Bool)
status = value status_in status_octets

abbrev pub tai_list : Coding (List ℕ)
tai_list = octets_held tai_list_in

abbrev pub nssai : Coding (List Slice)
nssai = value nssai_in nssai_octets

abbrev pub slice : Coding Slice
slice = value slice_in slice_octets

abbrev pub dnn : Coding (List ℕ)
dnn = octets_held dnn_in

abbrev pub timer3 : Coding GprsTimer
timer3 = value timer3_in timer3_octets

abbrev pub ambr : Coding Ambr
ambr = value ambr_in ambr_octets

abbrev pub address : Coding Address
address = value address_in address_octets
