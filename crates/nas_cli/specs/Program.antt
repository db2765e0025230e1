-- What the program answers: a status, and the text that it writes.
use Rattle.std.specs.Prelude.{◌≡◌, ◌⊎◌, Bool, true, false, ℕ, ◌<◌, ◌≤◌, ◌++◌, List, [], ◌∷◌, length, take, codes, nat_eq, nat_lt, nat_le, ◌&&◌, Option, Some, None, option_map, option_and_then, IfSome, Result, Ok, Err, if◌then◌else◌}
use Rattle.std.specs.Cmp.Lexicographic.{pointwise}
use Rattle.std.specs.Fmt.{decimal}
use Rattle.std.specs.Result.{result_ok}
use Rattle.std.specs.Io.KnownBytes.{Appends}
use Rattle.hex.specs.Hex.{decode_of}
use Rattle.nas_base.specs.Outside.{AppendsFront, Rose}
use Rattle.nas_world.specs.Config.{WorldValues}
use Rattle.nas_world.specs.Script.{Line}
use Rattle.nas_script.specs.Config.{config_in}
use Rattle.nas_script.specs.Keys.{key_text}
use Rattle.nas_script.specs.Script.{script_in}
use Rattle.nas_script.specs.Transcript.{transcript_of}
use Rattle.nas_script.specs.declared.key.Key.{Key}
use Rattle.nas_script.specs.declared.script.ScriptRefusal.{ScriptRefusal}
use Rattle.nas_script.specs.declared.script.ScriptRefusal.TheVariants as wrong
use Rattle.nas_cli.specs.Files.{Content}
use Rattle.nas_cli.specs.Vectors.{vectors_text}
use Rattle.nas_cli.specs.declared.plan.Run.{Run}
use Rattle.nas_cli.specs.declared.plan.Stop.{Stop}
use Rattle.nas_cli.specs.declared.plan.Stop.TheVariants.{File, TooLong, Config, Script, Memory}

-- The form of words: run CONFIG SCRIPT, with the names of both files.
unfoldable pub run_word : List ℕ
run_word = codes "run"

abbrev pub run_form : List (List ℕ) → Option (List ℕ × List ℕ)
run_form (form ∷ config ∷ script ∷ []) = if pointwise nat_eq form run_word then Some (config, script) else None
run_form _ = None

-- The form vectors.
unfoldable pub vectors_word : List ℕ
vectors_word = codes "vectors"

abbrev pub is_vectors : List (List ℕ) → Bool
is_vectors (form ∷ []) = pointwise nat_eq form vectors_word
is_vectors _ = false

-- The form show HEX: a message in hex digits. None has more than 4,096 octets, and no octets are none.
unfoldable pub show_word : List ℕ
show_word = codes "show"

abbrev pub of_a_message : List ℕ → Option (List ℕ)
of_a_message octets = if nat_le 1 (length octets) && nat_le (length octets) 4096 then Some octets else None

unfoldable pub hex_octets : List ℕ → Option (List ℕ)
hex_octets text = option_and_then of_a_message (result_ok (decode_of text))

abbrev pub show_form : List (List ℕ) → Option (List ℕ)
show_form (form ∷ hex ∷ []) = if pointwise nat_eq form show_word then hex_octets hex else None
show_form _ = None

-- what a script asks for beside a configuration
abbrev pub scripted : WorldValues → Result (List Line) ScriptRefusal → Result (WorldValues × List Line) Stop
scripted config (Ok script) = Ok (config, script)
scripted config (Err (wrong.TooLong size)) = Err (TooLong size)
scripted config (Err (wrong.ScriptWrong line)) = Err (Script line)
scripted config (Err wrong.Memory) = Err Memory

abbrev pub configured : Result WorldValues Key → Result (List Line) ScriptRefusal → Result (WorldValues × List Line) Stop
configured (Ok config) script = scripted config script
configured (Err key) script = Err (Config key)

-- a file that has octets, within the limit of 1,048,576
abbrev pub within : {A : Type 0} → Option (List ℕ) → (List ℕ → Result A Stop) → Result A Stop
within None f = Err File
within (Some octets) f = if nat_lt 1048576 (length octets) then Err (TooLong (length octets)) else f octets

-- What the files ask for: a run, or the first of the faults in this order: the configuration isn't there, is too long; so
-- the script; the configuration is wrong; the script has too many events, has a wrong line.
abbrev pub planned : Option (List ℕ) → Option (List ℕ) → Result (WorldValues × List Line) Stop
planned config script = within config (λ c. within script (λ s. configured (config_in c) (script_in s)))

-- the line that tells of a fault
unfoldable pub words_line : List ℕ
words_line = codes "nas: words\n"

unfoldable pub file_line : List ℕ
file_line = codes "nas: file\n"

unfoldable pub too_long_line : ℕ → List ℕ
too_long_line size = codes "nas: too long " ++ (decimal size ++ codes "\n")

unfoldable pub config_line : Key → List ℕ
config_line key = codes "nas: config " ++ (key_text key ++ codes "\n")

unfoldable pub script_line : ℕ → List ℕ
script_line line = codes "nas: script " ++ (decimal line ++ codes "\n")

unfoldable pub octets_line : ℕ → List ℕ
octets_line place = codes "nas: octets " ++ (decimal place ++ codes "\n")

-- a status, and the whole text
pub record Answer : Type 0 where
  pub status : ℕ
  pub text : List ℕ

abbrev pub words_answer : Answer
words_answer = record { status = 2; text = words_line }

abbrev pub vectors_answer : Answer
vectors_answer = record { status = 0; text = vectors_text }

-- a message as text, or the place where the octets are none
abbrev pub shown_answer : Result (List ℕ) ℕ → Answer
shown_answer (Ok text) = record { status = 0; text = text }
shown_answer (Err place) = record { status = 13; text = octets_line place }

abbrev pub file_answer : Answer
file_answer = record { status = 5; text = file_line }

abbrev pub answer_to : Result (WorldValues × List Line) Stop → Answer
answer_to (Ok run) = record { status = 0; text = transcript_of run.0 run.1 }
answer_to (Err File) = file_answer
answer_to (Err (TooLong size)) = record { status = 11; text = too_long_line size }
answer_to (Err (Config key)) = record { status = 3; text = config_line key }
answer_to (Err (Script line)) = record { status = 4; text = script_line line }
answer_to (Err Memory) = record { status = 8; text = [] }

-- What a sink tells of an answer: the whole text and the status; or the output failed, which gives 6 and a front of the
-- text, and only where the sink's count of faults rose; or memory was wanting, which gives 8 and a front of it.
pub record Whole (old new : Option (List ℕ)) (before now : ℕ) (answer : Answer) (status : ℕ) : Type 0 where
  pub answered : status ≡ answer.status
  pub text : Appends old new answer.text
  pub count : before ≤ now

pub record Cut (old new : Option (List ℕ)) (before now : ℕ) (answer : Answer) (status : ℕ) : Type 0 where
  pub answered : status ≡ 6
  pub front : AppendsFront old new answer.text
  pub rose : Rose before now

pub record Starved (old new : Option (List ℕ)) (before now : ℕ) (answer : Answer) (status : ℕ) : Type 0 where
  pub answered : status ≡ 8
  pub front : AppendsFront old new answer.text
  pub count : before ≤ now

abbrev pub Says : Option (List ℕ) → Option (List ℕ) → ℕ → ℕ → Answer → ℕ → Type 0
Says old new before now answer status =
    Whole old new before now answer status ⊎ Cut old new before now answer status ⊎ Starved old new before now answer status

-- the names that were asked for are the first of these: none, one or more
abbrev pub asks : List (List ℕ) → Option (List (List ℕ)) → Option (List (List ℕ))
asks names old = option_map (λ ns. ns ++ names) old

pub record AsksFirst (old new : Option (List (List ℕ))) (names : List (List ℕ)) : Type 0 where
  pub count : ℕ
  pub asked : new ≡ asks (take count names) old

-- What is said of a run whose files are told: what they ask for; or the object that reads them failed, which gives 5, and
-- only where its count of faults rose.
abbrev pub SaysRun : Option Content → List ℕ × List ℕ → ℕ → ℕ → (Answer → Type 0) → Type 0
SaysRun content names before now says =
    IfSome content (λ files. (says file_answer × Rose before now) ⊎ says (answer_to (planned (files names.0) (files names.1))))

-- what a reader of both files answered
abbrev pub Plans : Result (WorldValues × List Line) Stop → Result Run Stop → Type 0
Plans wanted (Ok run) = wanted ≡ Ok (run.config, run.script)
Plans wanted (Err File) = Unit {0}
Plans wanted (Err Memory) = Unit {0}
Plans wanted (Err stop) = wanted ≡ Err stop

-- the names of the files that words ask for
abbrev pub names_in : Option (List ℕ × List ℕ) → List (List ℕ)
names_in None = []
names_in (Some names) = names.0 ∷ names.1 ∷ []

-- what a reader of one file answered
abbrev pub Fetches : Option (List ℕ) → Result (List ℕ) Stop → Type 0
Fetches file (Ok octets) = (file ≡ Some octets) × (length octets ≤ 1048576)
Fetches file (Err (TooLong size)) = (1048576 < size) × (option_map length file ≡ Some size)
Fetches file (Err File) = Unit {0}
Fetches file (Err Memory) = Unit {0}
Fetches file (Err (Config key)) = ⊥
Fetches file (Err (Script line)) = ⊥

-- a file that is not read: it isn't there, or is too long
abbrev pub IsRefused : Option (List ℕ) → Type 0
IsRefused None = Unit {0}
IsRefused (Some octets) = 1048576 < length octets

-- a status that tells of the content of both files
abbrev pub IsOfContent : ℕ → Type 0
IsOfContent status = (status ≡ 0) ⊎ (status ≡ 3) ⊎ (status ≡ 4)

-- the same for what was found
abbrev pub is_of_content : Stop → Bool
is_of_content (Config key) = true
is_of_content (Script line) = true
is_of_content File = false
is_of_content (TooLong size) = false
is_of_content Memory = false
