-- Whether both ends agree on what they share.
use Rattle.std.specs.Prelude.{Bool, true, false, not, nat_le, ◌==◌, ◌&&◌, List, length, Option}
use Rattle.nas_base.specs.Branches.{per, when◌then◌else◌}
use Rattle.nas_elements.specs.declared.guti.Guti.{Guti}
use Rattle.amf_core.specs.Naming.{is_any, is_guti, is_kept_for_another}
use Rattle.amf_core.specs.State.{view_in}
use Rattle.amf_core.specs.declared.view.NetView.{NetView}
use Rattle.nas_network.specs.Owners.{all_keep_few}
use Rattle.nas_security.specs.Contexts.{SecurityContext}
use Rattle.ue_mm.specs.State.{view_of}
use Rattle.ue_mm.specs.declared.view.UeView.{UeView}
use Rattle.nas_world.specs.State.{WorldState}
use Rattle.nas_world.specs.Taken.{is_same, was_taken}

-- what can be seen of the handset, and of its subscriber at the network
abbrev pub at_handset : WorldState → UeView
at_handset w = view_of w.handset.mm

abbrev pub at_network : WorldState → Option NetView
at_network w = view_in w.supi w.network.amf

-- Keys: the network's context is one that the handset took into use; and where the handset's has the same ngKSI, it is the same one,
-- and no end expects a count above the one that the other will use next.
abbrev pub counts_fit : SecurityContext → SecurityContext → Bool
counts_fit own net = nat_le net.up own.up && nat_le own.down net.down

abbrev pub fits : SecurityContext → SecurityContext → Bool
fits net own = when own.ksi == net.ksi then is_same own net && counts_fit own net else true

abbrev pub key_agrees : List SecurityContext → Option SecurityContext → SecurityContext → Bool
key_agrees taken current net = was_taken net taken && per current true (fits net)

unfoldable pub keys_agree : UeView → NetView → WorldState → Bool
keys_agree ue net w = per net.in_use true (key_agrees w.taken ue.current)

-- 5G-GUTI: a registered handset has one; it is kept for its subscriber, and for no other.
abbrev pub is_kept : NetView → WorldState → Guti → Bool
is_kept net w g = is_any (is_guti g) net.kept && not (is_kept_for_another w.supi g w.network.amf.subscribers)

unfoldable pub guti_agrees : UeView → NetView → WorldState → Bool
guti_agrees ue net w = when ue.registered then per ue.guti false (is_kept net w) else true

-- one alone is kept once it is confirmed
abbrev pub is_alone : NetView → Bool
is_alone net = when net.completed then length net.kept == 1 else true

abbrev pub both_agree : UeView → NetView → WorldState → Bool
both_agree ue net w = keys_agree ue net w && (guti_agrees ue net w && is_alone net)

-- A handset that is no subscriber isn't registered.
unfoldable pub ends_agree : WorldState → Bool
ends_agree w = per (at_network w) (not (at_handset w).registered) (λ (net : NetView). both_agree (at_handset w) net w)

-- Both ends agree, and two 5G-GUTIs at most are kept for each subscriber.
unfoldable pub agree : WorldState → Bool
agree w = all_keep_few w.network.amf.subscribers && ends_agree w
