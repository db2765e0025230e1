use Rattle.std.proofs.Common.{◌≡◌, true, [], length, drop, map}
use Rattle.std.specs.List.{list_all}
use Rattle.toml.specs.View.{view}
use Rattle.nas_network.specs.Config.{are_new, has_plmn}
use Rattle.nas_script.specs.Subscribers.{subscribers_in}
use Rattle.nas_script.proofs.subscribers.read_subscribers.Given as goal

-- the subscribers so far, and what reading the tables that are left behind them gives
abbrev pub invariant-loop-table : goal.invariant-loop-table
invariant-loop-table l = record {
  count : length l.items.items ≡ l.table-index;
  network : list_all (has_plmn l.plmn) l.items.items ≡ true;
  distinct : are_new [] l.items.items ≡ true;
  told : subscribers_in l.plmn l.items.items (map view (drop l.table-index l.tables)) ≡ subscribers_in l.plmn [] (map view l.tables);
}
