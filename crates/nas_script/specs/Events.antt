-- The lines of a script that are events.
use Rattle.std.specs.Prelude.{ℕ, Bool, true, false, List, length, drop, codes, nat_eq, Option, Some, None, option_map, if◌then◌else◌}
use Rattle.std.specs.Cmp.Lexicographic.{pointwise}
use Rattle.std.specs.List.{starts_with}
use Rattle.std.specs.Option.{option_and_then, option_or}
use Rattle.nas_base.specs.declared.kind.Kind.TheVariants as kinds
use Rattle.nas_handset.specs.declared.command.UeCommand.{UeCommand}
use Rattle.nas_handset.specs.declared.command.UeCommand.TheVariants as commands
use Rattle.nas_world.specs.declared.event.Event.{Event}
use Rattle.nas_world.specs.declared.event.Event.TheVariants as events
use Rattle.nas_world.specs.declared.event.NetOrder.TheVariants as orders
use Rattle.nas_script.specs.Numbers.{count_in, moment_in}
use Rattle.nas_script.specs.Octets.{message_in, octets_in}

-- the line is these words
abbrev pub is_words : List ℕ → List ℕ → Bool
is_words words line = pointwise nat_eq line words

-- what stands behind words and a space
abbrev pub behind : List ℕ → List ℕ → Option (List ℕ)
behind words line = if starts_with nat_eq line words then Some (drop (length words) line) else None

-- register, register mobility, register periodic; service; deregister, switch-off
unfoldable pub command_in : List ℕ → Option UeCommand
command_in line =
    if is_words (codes "register") line then Some (commands.Register kinds.Initial)
    else if is_words (codes "register mobility") line then Some (commands.Register kinds.Mobility)
    else if is_words (codes "register periodic") line then Some (commands.Register kinds.Periodic)
    else if is_words (codes "service") line then Some commands.Service
    else if is_words (codes "deregister") line then Some (commands.Deregister false)
    else if is_words (codes "switch-off") line then Some (commands.Deregister true)
    else None

-- net-authenticate, net-deregister; drop-ue, drop-net; restart
unfoldable pub plain_in : List ℕ → Option Event
plain_in line =
    if is_words (codes "net-authenticate") line then Some (events.NetCommand orders.Authenticate)
    else if is_words (codes "net-deregister") line then Some (events.NetCommand orders.Deregister)
    else if is_words (codes "drop-ue") line then Some events.DropUe
    else if is_words (codes "drop-net") line then Some events.DropNet
    else if is_words (codes "restart") line then Some events.Restart
    else None

-- to-net K, to-ue K
abbrev pub numbered : (ℕ → Event) → List ℕ → List ℕ → Option Event
numbered make words line = option_map make (option_and_then count_in (behind words line))

unfoldable pub delivery_in : List ℕ → Option Event
delivery_in line = option_or (numbered events.ToNet (codes "to-net ") line) (numbered events.ToUe (codes "to-ue ") line)

-- ue-at MS, net-at MS
abbrev pub timed : (ℕ → Event) → List ℕ → List ℕ → Option Event
timed make words line = option_map make (option_and_then moment_in (behind words line))

unfoldable pub tick_in : List ℕ → Option Event
tick_in line = option_or (timed events.UeAt (codes "ue-at ") line) (timed events.NetAt (codes "net-at ") line)

-- random HEX
unfoldable pub random_in : List ℕ → Option Event
random_in line = option_map events.Random (option_and_then (octets_in 16) (behind (codes "random ") line))

-- inject-net fresh HEX, inject-net HEX, inject-ue HEX
abbrev pub injected : (List ℕ → Event) → List ℕ → List ℕ → Option Event
injected make words line = option_map make (option_and_then message_in (behind words line))

unfoldable pub injection_in : List ℕ → Option Event
injection_in line =
    option_or (injected (events.InjectNet true) (codes "inject-net fresh ") line)
    (option_or (injected (events.InjectNet false) (codes "inject-net ") line) (injected events.InjectUe (codes "inject-ue ") line))

-- a command to the handset, or any of the others
unfoldable pub event_in : List ℕ → Option Event
event_in line =
    option_or (option_map events.Command (command_in line))
    (option_or (plain_in line) (option_or (delivery_in line) (option_or (tick_in line) (option_or (random_in line) (injection_in line)))))
