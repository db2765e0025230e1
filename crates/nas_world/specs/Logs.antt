-- What is logged of a run.
use Rattle.std.specs.Prelude.{ℕ, ◌-◌, Bool, false, List, [], ◌∷◌, ◌++◌, ◌==◌, ◌&&◌, Option, Some, None, slice_get, if◌then◌else◌}
use Rattle.std.specs.List.{list_any}
use Rattle.std.specs.Str.{bytes_eq}
use Rattle.nas_base.specs.Branches.{per}
use Rattle.nas_security.specs.Contexts.{is_challenge}
use Rattle.nas_security.specs.declared.sends.Pass.{Pass}
use Rattle.nas_security.specs.declared.sends.Send.{Send}
use Rattle.nas_world.specs.declared.logs.SentLog.{SentLog}

-- messages of one direction more
abbrev pub with_up : List Send → SentLog → SentLog
with_up sends s = record s { up = s.up ++ sends }

abbrev pub with_down : List Send → SentLog → SentLog
with_down sends s = record s { down = s.down ++ sends }

-- the message of this number, counted from 1
abbrev pub sent_at : {A : Type 0} → ℕ → List A → Option A
sent_at number sends = if number == 0 then None else slice_get sends (number - 1)

-- a list, and behind it what is there
abbrev pub also : {A : Type 0} → List A → Option A → List A
also xs None = xs
also xs (Some x) = xs ++ x ∷ []

-- the same subscriber, challenge and count
abbrev pub is_pass : Pass → Pass → Bool
is_pass one other = bytes_eq one.supi other.supi && (is_challenge one.challenge other.challenge && one.count == other.count)

-- octets were sent under a pass: for its subscriber, under the context of its challenge, with its count
abbrev pub is_sent_as : Pass → List ℕ → Send → Bool
is_sent_as pass octets s = per s.pass false (λ (own : Pass). is_pass own pass && bytes_eq s.octets octets)

abbrev pub was_sent : Pass → List ℕ → List Send → Bool
was_sent pass octets log = list_any (is_sent_as pass octets) log
