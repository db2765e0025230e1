-- The tables of the subscribers, and their keys, in the order in which they are checked.
use Rattle.std.specs.Prelude.{ℕ, List, [], ◌∷◌, ◌++◌, codes, Option, Some, None, Result, Ok, if◌then◌else◌}
use Rattle.std.specs.Option.{option_and_then}
use Rattle.toml.specs.Data.{Data}
use Rattle.nas_base.specs.Plmn.{PlmnIdentity}
use Rattle.nas_elements.specs.declared.slice.Slice.{Slice}
use Rattle.nas_network.specs.Config.{SubscriberValues, is_subscriber}
use Rattle.nas_script.specs.Fields.{field_at, octets_at, sqn_at, supi_at}
use Rattle.nas_script.specs.Names.{names_at}
use Rattle.nas_script.specs.Reads.{◌>>=◌, named}
use Rattle.nas_script.specs.Slices.{slices_at}
use Rattle.nas_script.specs.declared.key.Key.{Key}
use Rattle.nas_script.specs.declared.key.Key.TheVariants as keys

-- a SUPI that none of the subscribers before has
abbrev pub new_supi : List SubscriberValues → List ℕ → Option (List ℕ)
new_supi before supi = if is_subscriber supi before then None else Some supi

unfoldable pub new_supi_at : PlmnIdentity → List SubscriberValues → Data → Option (List ℕ)
new_supi_at plmn before d = option_and_then (new_supi before) (supi_at plmn d)

abbrev pub subscriber_of : List ℕ → List ℕ → List ℕ → List ℕ → ℕ → List (List ℕ) → List Slice → SubscriberValues
subscriber_of supi k opc field sqn dnns slices =
    record { supi = supi; k = k; opc = opc; field = field; sqn = sqn; dnns = dnns; slices = slices }

-- supi, k, opc, field, sqn, dnns, slices
unfoldable pub subscriber_in : PlmnIdentity → List SubscriberValues → Data → Result SubscriberValues Key
subscriber_in plmn before d = do
  supi ← named keys.Supi (new_supi_at plmn before d)
  k ← named keys.K (octets_at 16 (codes "k") d)
  opc ← named keys.Opc (octets_at 16 (codes "opc") d)
  field ← named keys.Field (field_at d)
  sqn ← named keys.Sqn (sqn_at d)
  dnns ← named keys.Dnns (names_at (codes "dnns") d)
  slices ← named keys.Slices (slices_at (codes "slices") d)
  Ok (subscriber_of supi k opc field sqn dnns slices)

-- the subscribers of these tables, behind those before
abbrev pub subscribers_in : PlmnIdentity → List SubscriberValues → List Data → Result (List SubscriberValues) Key
subscribers_in plmn before [] = Ok before
subscribers_in plmn before (d ∷ ds) = do
  subscriber ← subscriber_in plmn before d
  subscribers_in plmn (before ++ subscriber ∷ []) ds
