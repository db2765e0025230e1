use Rattle.std.proofs.Common.{◌≡◌, ◌+◌, ◌++◌, drop}
use Rattle.nas_script.specs.Transcript.{sents_text}
use Rattle.nas_script.proofs.event_text.append_newly_sent.Given as goal

-- the lines so far and those of the messages that are left are those of all
abbrev pub invariant-loop-number : goal.invariant-loop-number
invariant-loop-number l =
    l.text.items ++ sents_text l.way (l.number + 1) (drop l.number l.sends)
    ≡ l.initial.text.items ++ sents_text l.way (l.before + 1) (drop l.before l.sends)
