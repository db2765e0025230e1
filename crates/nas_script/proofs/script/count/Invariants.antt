use Rattle.std.proofs.Common.{◌≡◌, ◌+◌, ◌≤◌, drop}
use Rattle.nas_script.specs.Lines.{count_events, split}
use Rattle.nas_script.proofs.LinesLaws.{events_left}
use Rattle.nas_script.proofs.script.count.Given as goal

-- the event lines that were counted, and those that are left
abbrev pub invariant-loop-octet : goal.invariant-loop-octet
invariant-loop-octet l = record {
  bound : l.count ≤ l.octet-index;
  told : l.count + events_left l.at_start (drop l.octet-index l.octets) ≡ count_events (split l.octets);
}
