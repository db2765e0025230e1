use Rattle.std.proofs.Common.{◌≡◌, true, [], length}
use Rattle.std.specs.List.{list_all}
use Rattle.nas_network.specs.Config.{are_new, has_plmn}
use Rattle.machine_probe.proofs.network_config.read_subscribers.Given as goal

-- the subscribers so far
abbrev pub invariant-loop-word : goal.invariant-loop-word
invariant-loop-word l = record {
  count : length l.items.items ≡ l.word-index;
  network : list_all (has_plmn l.plmn) l.items.items ≡ true;
  distinct : are_new [] l.items.items ≡ true;
}
