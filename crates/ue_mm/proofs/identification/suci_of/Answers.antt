use Rattle.ue_mm.proofs.Fits.{suci_fits}
use Rattle.ue_mm.proofs.identification.suci_of.Goals as goal

pub returns-clause-limit : goal.returns-clause-limit
returns-clause-limit c = suci_fits (record { plmn = c.copy.result; routing = c.unwrap.result; msin = c.msin.result }) c.msin.ensures.digits
