use Rattle.std.proofs.Common.{◌≡◌, ◌+◌, ◌≤◌, true, length, drop}
use Rattle.nas_world.specs.Script.{is_one_line}
use Rattle.nas_script.specs.Lines.{count_events, split}
use Rattle.nas_script.specs.Script.{before, events_in}
use Rattle.nas_script.proofs.LinesLaws.{joined}
use Rattle.nas_script.proofs.script.read_lines.Given as goal

-- the events so far, and those of the line that was begun and of the lines that are left
abbrev pub invariant-loop-octet : goal.invariant-loop-octet
invariant-loop-octet l = record {
  limit : length l.line.items ≤ l.octet-index;
  one : is_one_line l.line.items ≡ true;
  numbered : l.number ≤ l.octet-index + 1;
  counted : length l.items.items + count_events (joined l.line.items (split (drop l.octet-index l.octets))) ≡ count_events (split l.octets);
  told : before l.items.items (events_in l.number (joined l.line.items (split (drop l.octet-index l.octets)))) ≡ events_in 1 (split l.octets);
}
