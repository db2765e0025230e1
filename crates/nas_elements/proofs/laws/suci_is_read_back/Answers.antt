use Rattle.std.proofs.Common.{◌≡◌, true}
use Rattle.nas_base.specs.Plmn.{is_plmn}
use Rattle.nas_elements.proofs.ReadBack.{suci_back}
use Rattle.nas_elements.proofs.laws.suci_is_read_back.Goals as goal

pub returns : goal.returns
returns c =
    let network : is_plmn c.suci.inside.plmn.mcc c.suci.inside.plmn.mnc ≡ true = rw (← c.suci-inside.view_is) c.suci-inside.invariant in
    rw (← c.suci.view_is) (suci_back c.suci.inside.plmn c.suci.inside.routing c.suci.inside.msin network c.suci.invariant)
