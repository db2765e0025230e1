-- Whether nobody forged: each message that passed a check had been sent by the other end, and each context that the handset took into
-- use is one of the network's.
use Rattle.std.specs.Prelude.{◌≡◌, ℕ, ◌^◌, Bool, true, false, nat_lt, nat_le, ◌&&◌, List, [], ◌∷◌, ◌++◌, length, take, Option, Some, None, option_map, if◌then◌else◌}
use Rattle.std.specs.List.{list_all}
use Rattle.std.specs.Str.{bytes_eq}
use Rattle.nas_base.specs.Branches.{per}
use Rattle.nas_base.specs.Plmn.{PlmnIdentity}
use Rattle.key_chain.specs.Keys.{abba, challenge_kamf}
use Rattle.milenage.specs.Autn.{vector}
use Rattle.milenage.specs.declared.vector.Vector.{Vector}
use Rattle.nas_security.specs.Contexts.{SecurityContext}
use Rattle.nas_security.specs.declared.challenges.Challenge.{Challenge}
use Rattle.nas_security.specs.declared.sends.Pass.{Pass}
use Rattle.nas_security.specs.declared.sends.Send.{Send}
use Rattle.nas_world.specs.Logs.{also, was_sent}
use Rattle.nas_world.specs.declared.cards.Card.{Card}
use Rattle.nas_world.specs.declared.passes.End.{End}
use Rattle.nas_world.specs.declared.passes.End.TheVariants as ends
use Rattle.nas_world.specs.declared.passes.Heard.{Heard}
use Rattle.nas_world.specs.declared.passes.Passing.{Passing}

-- What was sent and what passed a check, with what it is judged by: the PLMN, and the keys of the network's subscribers.
pub record JudgedLog : Type 0 where
  pub up : List Send
  pub down : List Send
  pub passes : List Passing
  pub plmn : PlmnIdentity
  pub cards : List Card

-- of what was sent up and down, what the other end has sent
abbrev pub sent_to : End → List Send → List Send → List Send
sent_to ends.Handset up down = down
sent_to ends.Network up down = up

-- KAMF of a subscriber and a challenge: from K, OPc and SUPI (TS 33.501 Annex A)
abbrev pub vector_kamf : PlmnIdentity → List ℕ → Vector → List ℕ
vector_kamf plmn supi v = challenge_kamf v.ck v.ik v.autn plmn supi abba

unfoldable pub net_kamf : PlmnIdentity → Card → Challenge → List ℕ
net_kamf plmn s c = vector_kamf plmn s.supi (vector s.k s.opc c.rand c.sqn s.field)

-- a context has the key of the subscriber and of the challenge that it was taken with; a sequence number has 48 bits
abbrev pub is_of : List ℕ → Card → Bool
is_of supi s = bytes_eq s.supi supi

abbrev pub card_in : List ℕ → List Card → Option Card
card_in supi [] = None
card_in supi (s ∷ cards) = if is_of supi s then Some s else card_in supi cards

abbrev pub has_kamf_of : PlmnIdentity → Challenge → SecurityContext → Card → Bool
has_kamf_of plmn c context s = nat_lt c.sqn (2 ^ 48) && bytes_eq context.kamf (net_kamf plmn s c)

unfoldable pub has_net_kamf : PlmnIdentity → List Card → Pass → SecurityContext → Bool
has_net_kamf plmn cards pass context = per (card_in pass.supi cards) false (has_kamf_of plmn pass.challenge context)

-- one delivery that passed, by what the other end had sent before: for the same subscriber, under the same challenge, with the same count,
-- the same octets; and the context, if one was taken, is the network's
abbrev pub is_fair : Passing → List Send → JudgedLog → Bool
is_fair p before j = was_sent p.pass p.octets before && per p.took true (has_net_kamf j.plmn j.cards p.pass)

abbrev pub is_honest : JudgedLog → Passing → Bool
is_honest j p = is_fair p (take p.before (sent_to p.end j.up j.down)) j

-- all of them
unfoldable pub all_honest : JudgedLog → Bool
all_honest j = list_all (is_honest j) j.passes

-- what is kept of the verdict: it is that of all, and each delivery was judged by messages that are there
abbrev pub is_within : JudgedLog → Passing → Bool
is_within j p = nat_le p.before (length (sent_to p.end j.up j.down))

pub record AreJudged (j : JudgedLog) (verdict : Bool) : Type 0 where
  pub within : list_all (is_within j) j.passes ≡ true
  pub judged : verdict ≡ all_honest j

-- messages of one direction more
abbrev pub with_sent_up : List Send → JudgedLog → JudgedLog
with_sent_up sends j = record j { up = j.up ++ sends }

abbrev pub with_sent_down : List Send → JudgedLog → JudgedLog
with_sent_down sends j = record j { down = j.down ++ sends }

-- what passed a check, and how much the other end had sent before
abbrev pub passing : End → Heard → ℕ → Pass → Passing
passing end h before pass = record { end = end; pass = pass; octets = h.octets; before = before; took = h.took }

abbrev pub passed : End → Heard → ℕ → List Passing → List Passing
passed end h before passes = also passes (option_map (passing end h before) h.passed)

-- octets that reached the handset; octets that reached the network
abbrev pub heard_up : Heard → JudgedLog → JudgedLog
heard_up h j = record j { up = j.up ++ h.sends; passes = passed ends.Handset h (length j.down) j.passes }

abbrev pub heard_down : Heard → JudgedLog → JudgedLog
heard_down h j = record j { down = j.down ++ h.sends; passes = passed ends.Network h (length j.up) j.passes }
