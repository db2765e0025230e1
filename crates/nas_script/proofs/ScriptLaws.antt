-- The texts of a script are the event lines of its file.
use Rattle.std.proofs.Common.{◌≡◌, ℕ, ◌+◌, Bool, true, false, cond, List, [], ◌∷◌, map, filter, Option, Some, None, option_map, Result, Ok, Err, refl, ap}
use Rattle.nas_world.specs.Script.{Line}
use Rattle.nas_world.specs.declared.event.Event.{Event}
use Rattle.nas_script.specs.Events.{event_in}
use Rattle.nas_script.specs.Lines.{all_ascii, is_event, split}
use Rattle.nas_script.specs.Script.{events_in, text_of, with_line}
use Rattle.nas_script.specs.declared.script.ScriptRefusal.{ScriptRefusal}

-- one more line
one_text : (number : ℕ) (line : List ℕ) (ascii event : Bool) (found : Option Event) (rest : Result (List Line) ScriptRefusal) (script : List Line) (texts : List (List ℕ)) →
    with_line number line (cond ascii (cond event (option_map Some found) (Some None)) None) rest ≡ Ok script →
    ((more : List Line) → rest ≡ Ok more → map text_of more ≡ texts) →
    map text_of script ≡ cond event (line ∷ texts) texts
one_text number line false event found rest script texts e h = cc
one_text number line true false found rest script texts e h = h script e
one_text number line true true None rest script texts e h = cc
one_text number line true true (Some x) (Err refusal) script texts e h = cc
one_text number line true true (Some x) (Ok more) script texts e h =
    let is : script ≡ record { event = x; text = line } ∷ more = cc in
    rw is (ap (λ (ts : List (List ℕ)). line ∷ ts) (h more refl))

texts_in : (number : ℕ) (lines : List (List ℕ)) (script : List Line) → events_in number lines ≡ Ok script → map text_of script ≡ filter is_event lines
texts_in number [] script e =
    let is : script ≡ [] = cc in
    rw is refl
texts_in number (l ∷ ls) script e =
    one_text number l (all_ascii l) (is_event l) (event_in l) (events_in (number + 1) ls) script (filter is_event ls) e (λ more is. texts_in (number + 1) ls more is)

pub texts_of_script : (octets : List ℕ) (script : List Line) → events_in 1 (split octets) ≡ Ok script → map text_of script ≡ filter is_event (split octets)
texts_of_script octets script e = texts_in 1 (split octets) script e
