-- An index of a log of messages says what the log says.
use Rattle.std.proofs.Common.{◌≡◌, ℕ, Bool, true, false, cond, ◌||◌, ◌&&◌, ◌==◌, List, [], ◌∷◌, ◌++◌, Option, Some, None, refl, sym, ap, ◌∙◌}
use Rattle.std.specs.List.{list_any}
use Rattle.std.specs.Str.{bytes_eq}
use Rattle.std.proofs.lemmas.List.Folds.{list_any-append}
use Rattle.indexmap.specs.IndexSet.{IndexSet, contains, IsEmpty, IsUnchanged, Updates, InsertsAll}
use Rattle.nas_base.specs.Branches.{per}
use Rattle.nas_security.specs.declared.sends.Pass.{Pass}
use Rattle.nas_security.specs.declared.sends.Send.{Send}
use Rattle.nas_world.specs.Index.{IsKeyOf, Notes, Says, has_key, has_parts}
use Rattle.nas_world.specs.Logs.{is_pass, is_sent_as, was_sent}
use Rattle.nas_world.specs.declared.sent.SentKey.{SentKey}
use Rattle.nas_world.specs.contracts.sent.SentKeyPartialEq.TheImpl as key

-- the test of keys is the test of their parts
by_parts : (k q : SentKey) (pass : Pass) (octets : List ℕ) → IsKeyOf k pass octets → key.ghosts.eq k q ≡ has_parts q pass octets
by_parts k q pass octets is = rw (is.supi, is.sqn, is.rand, is.count, is.text) refl

regrouped : (a b c d e : Bool) → (a && (b && (c && (d && e)))) ≡ ((a && ((b && c) && d)) && e)
regrouped false b c d e = refl
regrouped true false c d e = refl
regrouped true true false d e = refl
regrouped true true true d e = refl

-- and so is the test of what was sent under a pass
by_pass : (k : SentKey) (pass : Pass) (octets text : List ℕ) (o : Option Pass) → IsKeyOf k pass octets →
    per o false (λ (own : Pass). has_parts k own text) ≡ per o false (λ (own : Pass). is_pass own pass && bytes_eq text octets)
unfolding per
by_pass k pass octets text None is = refl
by_pass k pass octets text (Some own) is =
    rw (is.supi, is.sqn, is.rand, is.count, is.text)
    (regrouped (bytes_eq own.supi pass.supi) (own.challenge.sqn == pass.challenge.sqn) (bytes_eq own.challenge.rand pass.challenge.rand)
    (own.count == pass.count) (bytes_eq text octets))

any_same : (f g : Send → Bool) (log : List Send) → ((s : Send) → f s ≡ g s) → list_any f log ≡ list_any g log
any_same f g [] same = refl
any_same f g (s ∷ log) same = λ i. same s i || any_same f g log same i

pub found_as_sent : {S : Type 0} (index : IndexSet SentKey S) (log : List Send) (k : SentKey) (pass : Pass) (octets : List ℕ) →
    Says key.ghosts.eq index log → IsKeyOf k pass octets → contains key.ghosts.eq index k ≡ was_sent pass octets log
found_as_sent index log k pass octets says is =
    says.says k ∙ any_same (has_key k) (is_sent_as pass octets) log (λ s. by_pass k pass octets s.octets s.pass is)

-- an empty one; one that is as it was
pub nothing_says : {S : Type 0} (index : IndexSet SentKey S) → IsEmpty index → Says key.ghosts.eq index []
nothing_says index empty = record { says = λ q. rw empty refl }

pub still_says : {S : Type 0} (old new : IndexSet SentKey S) (log : List Send) → IsUnchanged old new → Says key.ghosts.eq old log →
    Says key.ghosts.eq new log
still_says old new log same says = record { says = λ q. rw same (says.says q) }

-- two logs, one behind the other
pub both_say : {S R : Type 0} (old new : IndexSet SentKey S) (found : IndexSet SentKey R) (log sends : List Send) →
    Says key.ghosts.eq old log → Says key.ghosts.eq found sends → InsertsAll key.ghosts.eq old found.keys new →
    Says key.ghosts.eq new (log ++ sends)
both_say old new found log sends says more both = record {
  says = λ q. both.0 q ∙ (λ i. says.says q i || more.says q i) ∙ sym (list_any-append (has_key q) log sends);
}

-- a plain message more; a protected message more
or_nothing : (x : Bool) → x ≡ (x || (false || false))
or_nothing false = refl
or_nothing true = refl

or_one : (b x : Bool) → cond b true x ≡ (x || (b || false))
or_one false false = refl
or_one false true = refl
or_one true false = refl
or_one true true = refl

pub plain_says : {S : Type 0} (index : IndexSet SentKey S) (send : Send) (log : List Send) → send.pass ≡ None →
    Says key.ghosts.eq index log → Says key.ghosts.eq index (log ++ send ∷ [])
unfolding per
plain_says index send log plain says = record {
  says = λ q.
      says.says q ∙ or_nothing (list_any (has_key q) log)
      ∙ (λ i. list_any (has_key q) log || (sym (ap (λ (o : Option Pass). per o false (λ (own : Pass). has_parts q own send.octets)) plain) i || false))
      ∙ sym (list_any-append (has_key q) log (send ∷ []));
}

pub one_more_says : {S : Type 0} (old new : IndexSet SentKey S) (send : Send) (pass : Pass) (log : List Send) → send.pass ≡ Some pass →
    Notes key.ghosts.eq pass send.octets old new → Says key.ghosts.eq old log → Says key.ghosts.eq new (log ++ send ∷ [])
unfolding per
one_more_says old new send pass log protected notes says = record {
  says = λ q.
      notes.notes q ∙ (λ i. cond (has_parts q pass send.octets) true (says.says q i))
      ∙ or_one (has_parts q pass send.octets) (list_any (has_key q) log)
      ∙ (λ i.
      list_any (has_key q) log || (sym (ap (λ (o : Option Pass). per o false (λ (own : Pass). has_parts q own send.octets)) protected) i || false))
      ∙ sym (list_any-append (has_key q) log (send ∷ []));
}

-- a key that was inserted
pub noted : {S : Type 0} (old new : IndexSet SentKey S) (k : SentKey) (pass : Pass) (octets : List ℕ) → IsKeyOf k pass octets →
    Updates key.ghosts.eq old new k true → Notes key.ghosts.eq pass octets old new
noted old new k pass octets is updates = record {
  notes = λ q. updates.0 q ∙ (λ i. cond (by_parts k q pass octets is i) true (contains key.ghosts.eq old q));
}
