use Rattle.std.proofs.Common.{◌≡◌, Some, subst, sym}
use Rattle.nas_elements.specs.Guti.{guti_octets, stmsi_octets}
use Rattle.nas_elements.specs.Identity.{identity_in, identity_octets}
use Rattle.nas_elements.specs.Suci.{suci_octets}
use Rattle.nas_elements.proofs.IdentityFronts.{guti_identity, stmsi_identity, suci_identity}
use Rattle.nas_elements.proofs.laws.identity_is_read_back.Goals as goal

pub returns-in-Suci : goal.returns-in-Suci
returns-in-Suci c = subst (λ i. identity_in (identity_octets i) ≡ Some i) (sym c.in-Suci.is)
    (suci_identity (suci_octets c.in-Suci.suci) c.in-Suci.suci c.suci_is_read_back.ensures)

pub returns-in-Guti : goal.returns-in-Guti
returns-in-Guti c = subst (λ i. identity_in (identity_octets i) ≡ Some i) (sym c.in-Guti.is)
    (guti_identity (guti_octets c.in-Guti.guti) c.in-Guti.guti c.guti_is_read_back.ensures)

pub returns-in-Stmsi : goal.returns-in-Stmsi
returns-in-Stmsi c = subst (λ i. identity_in (identity_octets i) ≡ Some i) (sym c.in-Stmsi.is)
    (stmsi_identity (stmsi_octets c.in-Stmsi.stmsi) c.in-Stmsi.stmsi c.stmsi_is_read_back.ensures)
