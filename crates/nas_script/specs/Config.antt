-- The configuration: its tables and keys, in the order in which they are checked.
use Rattle.std.specs.Prelude.{ℕ, List, [], codes, Option, Result, Ok, slice_get}
use Rattle.std.specs.Option.{option_and_then}
use Rattle.toml.specs.Data.{Data}
use Rattle.nas_base.specs.Plmn.{PlmnIdentity}
use Rattle.nas_timers.specs.Durations.{DurationParts}
use Rattle.ue_mm.specs.Config.{HandsetValues}
use Rattle.nas_world.specs.Config.{WorldValues}
use Rattle.nas_script.specs.Document.{document_in, table_at, tables_at}
use Rattle.nas_script.specs.Fields.{capability_at, octets_at, sqn_at, supi_at}
use Rattle.nas_script.specs.NetworkTable.{net_of, network_in}
use Rattle.nas_script.specs.Reads.{◌>>=◌, named}
use Rattle.nas_script.specs.Subscribers.{subscribers_in}
use Rattle.nas_script.specs.TimersTable.{durations_in}
use Rattle.nas_script.specs.declared.key.Key.{Key}
use Rattle.nas_script.specs.declared.key.Key.TheVariants as keys

-- the one handset
abbrev pub handset_at : Data → Option Data
handset_at document = option_and_then (λ ds. slice_get ds 0) (tables_at 1 (codes "handset") document)

-- its keys: supi, k, opc, sqn, capability
abbrev pub handset_of : PlmnIdentity → DurationParts → List ℕ → List ℕ → List ℕ → ℕ → List ℕ → HandsetValues
handset_of plmn durations supi k opc sqn capability =
    record { supi = supi; plmn = plmn; k = k; opc = opc; sqn = sqn; capability = capability; durations = durations }

unfoldable pub handset_in : PlmnIdentity → DurationParts → Data → Result HandsetValues Key
handset_in plmn durations d = do
  supi ← named keys.Supi (supi_at plmn d)
  k ← named keys.K (octets_at 16 (codes "k") d)
  opc ← named keys.Opc (octets_at 16 (codes "opc") d)
  sqn ← named keys.Sqn (sqn_at d)
  capability ← named keys.Capability (capability_at d)
  Ok (handset_of plmn durations supi k opc sqn capability)

-- [network]; [timers]; [[subscriber]], 1 to 64 times; [[handset]], once
unfoldable pub configured : Data → Result WorldValues Key
configured document = do
  table ← named keys.Network (table_at (codes "network") document)
  network ← network_in table
  durations ← durations_in document
  tables ← named keys.Subscriber (tables_at 64 (codes "subscriber") document)
  subscribers ← subscribers_in network.plmn [] tables
  one ← named keys.Handset (handset_at document)
  handset ← handset_in network.plmn durations one
  Ok (record { net = net_of network durations subscribers; handset = handset })

-- the configuration in the octets, or the first key that is wrong
unfoldable pub config_in : List ℕ → Result WorldValues Key
config_in octets = do
  document ← named keys.Toml (document_in octets)
  configured document
