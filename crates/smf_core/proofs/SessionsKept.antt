-- What holds of all sessions stays so behind each small change.
use Rattle.std.proofs.Common.{◌≡◌, refl, sym, ◌∙◌, ap, subst, Bool, true, false, not, ◌&&◌, ◌||◌, ℕ, zero, suc, ◌+◌, ◌-◌, ◌==◌, List, [], ◌∷◌, length, length-set, Option, Some, None, is_some, unwrap_or, if◌then◌else◌, arith}
use Rattle.std.specs.Prelude.{slice_index_or, slice_set}
use Rattle.std.specs.List.{list_all}
use Rattle.std.specs.Str.{bytes_eq}
use Rattle.std.proofs.lemmas.Bool.Decides.{nat_tests}
use Rattle.byteorder.specs.Endian.{big_number}
use Rattle.nas_base.specs.Values.{is_psi}
use Rattle.nas_elements.specs.declared.address.Address.{Address}
use Rattle.nas_elements.specs.declared.address.Address.TheVariants.{V4, V6, V4V6}
use Rattle.nas_pools.proofs.OneLaws.{gives_one, takes_free, takes_one}
use Rattle.nas_pools.proofs.WholeLaws.{gives_taken, pools_stay}
use Rattle.nas_pools.specs.Families.{is_taken_at}
use Rattle.nas_pools.specs.PoolLaws.{Giving, GivesOne, PoolsStay, TakesFree, TakesOne, Taking, is_v4, is_v6}
use Rattle.nas_pools.specs.Pools.{ArePools, PoolsParts, freed, give_of, has_address, take_of}
use Rattle.smf_core.proofs.Holders.{holders_with}
use Rattle.smf_core.proofs.Shifts.{Stands}
use Rattle.smf_core.specs.Sessions.{AreSessions, HasOwnCommand, HaveOwnCommands, HaveOwnCommandsFrom, address_of, has_such, holders, is_whole, one_if}
use Rattle.smf_core.specs.State.{SmfState, cell_at, cell_of, put_cell, subscriber_in, vacant, with_cell}
use Rattle.smf_core.specs.declared.cell.Cell.{Cell}
use Rattle.smf_core.specs.declared.subscriber.Subscriber.{Subscriber}

-- the cell of an identity
pub cell_there : (supi : List ℕ) (psi : ℕ) (smf : SmfState) (s : Stands supi smf)
    → cell_of supi psi smf ≡ slice_index_or s.its.cells (psi - 1) vacant
unfolding cell_of
cell_there supi psi smf s = ap (cell_at psi) s.found

-- Of one address more or less, as many sessions have one as pools say.
pub record Balance (p q : PoolsParts) (old new : Option Address) : Type 0 where
  pub pools : ArePools q
  pub v4 : (x : ℕ) → one_if (is_taken_at x q.v4) + has_such (is_v4 x) old ≡ one_if (is_taken_at x p.v4) + has_such (is_v4 x) new
  pub v6 : (x : ℕ) → one_if (is_taken_at x q.v6) + has_such (is_v6 x) old ≡ one_if (is_taken_at x p.v6) + has_such (is_v6 x) new

pub same_balance : (p : PoolsParts) (old new : Option Address) → ArePools p → new ≡ old → Balance p p old new
same_balance p old new are e = record {
  pools = are;
  v4 = λ x. ap (λ a. one_if (is_taken_at x p.v4) + has_such (is_v4 x) a) (sym e);
  v6 = λ x. ap (λ a. one_if (is_taken_at x p.v6) + has_such (is_v6 x) a) (sym e);
}

-- an address is taken
taken_number : (is before after : Bool) → after ≡ (is || before) → (is ≡ true → before ≡ false)
    → one_if after + 0 ≡ one_if before + one_if is
taken_number true before after e free = let none : before ≡ false = free refl in rw (e, none) refl
taken_number false true after e free = rw e refl
taken_number false false after e free = rw e refl

pub taken_balance : (kind : ℕ) (address : Address) (p q : PoolsParts) → ArePools p → take_of kind p ≡ Some (address, q)
    → Balance p q None (Some address)
taken_balance kind address p q are taking =
    let t : Taking kind p address q = record { pools = are; taking = taking } in
    let one : TakesOne = takes_one in
    let free : TakesFree = takes_free in
    let stay : PoolsStay = pools_stay in record {
      pools = stay.taking kind address p q t;
      v4 = λ x. taken_number (is_v4 x address) (is_taken_at x p.v4) (is_taken_at x q.v4) (one.v4 x kind address p q t) (free.v4 x kind address p q t);
      v6 = λ x. taken_number (is_v6 x address) (is_taken_at x p.v6) (is_taken_at x q.v6) (one.v6 x kind address p q t) (free.v6 x kind address p q t);
    }

-- an address is given back
given_number : (is before after : Bool) → after ≡ (not is && before) → (is ≡ true → before ≡ true)
    → one_if after + one_if is ≡ one_if before + 0
given_number true before after e taken = let some : before ≡ true = taken refl in rw (e, some) refl
given_number false true after e taken = rw e refl
given_number false false after e taken = rw e refl

-- where each part of it is taken
pub record IsTaken (address : Address) (p : PoolsParts) : Type 0 where
  pub v4 : (x : ℕ) → is_v4 x address ≡ true → is_taken_at x p.v4 ≡ true
  pub v6 : (x : ℕ) → is_v6 x address ≡ true → is_taken_at x p.v6 ≡ true

its_own : (n : ℕ) → (n == n) ≡ true
its_own n = grind (arith, nat_tests)

both_true : (a b : Bool) → a ≡ true → b ≡ true → (a && b) ≡ true
both_true true b one other = other
both_true false b one other = absurd (cc)

has_each : (address : Address) (p : PoolsParts) → IsTaken address p → has_address address p ≡ true
has_each (V4 v4) p t = t.v4 (big_number 4 v4) (its_own (big_number 4 v4))
has_each (V6 v6) p t = t.v6 (big_number 8 v6) (its_own (big_number 8 v6))
has_each (V4V6 v6 v4) p t =
    both_true (is_taken_at (big_number 4 v4) p.v4) (is_taken_at (big_number 8 v6) p.v6)
    (t.v4 (big_number 4 v4) (its_own (big_number 4 v4))) (t.v6 (big_number 8 v6) (its_own (big_number 8 v6)))

freed_balance_of : (address : Address) (p q : PoolsParts) → ArePools p → IsTaken address p → give_of address p ≡ Some q
    → Balance p q (Some address) None
freed_balance_of address p q are t giving =
    let g : Giving address p q = record { pools = are; giving = giving } in
    let one : GivesOne = gives_one in
    let stay : PoolsStay = pools_stay in record {
      pools = stay.giving address p q g;
      v4 = λ x. given_number (is_v4 x address) (is_taken_at x p.v4) (is_taken_at x q.v4) (one.v4 x address p q g) (t.v4 x);
      v6 = λ x. given_number (is_v6 x address) (is_taken_at x p.v6) (is_taken_at x q.v6) (one.v6 x address p q g) (t.v6 x);
    }

freed_by : (address : Address) (p : PoolsParts) (o : Option PoolsParts) → ArePools p → IsTaken address p
    → give_of address p ≡ o → is_some o ≡ true
    → Balance p (unwrap_or o p) (Some address) None
freed_by address p None are t e some = absurd (cc)
freed_by address p (Some q) are t e some = freed_balance_of address p q are t e

pub freed_balance : (address : Address) (p : PoolsParts) → ArePools p → IsTaken address p
    → Balance p (freed address p) (Some address) None
freed_balance address p are t =
    freed_by address p (give_of address p) are t refl (gives_taken address p ∙ has_each address p t)

-- the timers of sessions behind a change of a cell
own_from_set : (p i : ℕ) (cs : List Cell) (c : Cell) → HasOwnCommand (p + i) c.held → HaveOwnCommandsFrom p cs
    → HaveOwnCommandsFrom p (slice_set cs i c)
own_from_set p i [] c own all = tt
own_from_set p zero (x ∷ cs) c own all =
    let at : p + 0 ≡ p = omega arith in (subst (λ n. HasOwnCommand n c.held) at own, all.1)
own_from_set p (suc i) (x ∷ cs) c own all =
    let at : p + suc i ≡ p + 1 + i = omega arith in (all.0, own_from_set (p + 1) i cs c (subst (λ n. HasOwnCommand n c.held) at own) all.1)

own_with_at : (supi : List ℕ) (psi : ℕ) (c : Cell) (x : Subscriber) (xs : List Subscriber) (is : Bool)
    → bytes_eq x.supi supi ≡ is
    → HasOwnCommand (1 + (psi - 1)) c.held → HaveOwnCommands (x ∷ xs) → HaveOwnCommands (with_cell supi psi c xs)
    → HaveOwnCommands (if is then record x { cells = slice_set x.cells (psi - 1) c } ∷ xs else x ∷ with_cell supi psi c xs)
own_with_at supi psi c x xs true e own all rest = (own_from_set 1 (psi - 1) x.cells c own all.0, all.1)
own_with_at supi psi c x xs false e own all rest = (all.0, rest)

own_with : (supi : List ℕ) (psi : ℕ) (c : Cell) (ss : List Subscriber) → HasOwnCommand (1 + (psi - 1)) c.held
    → HaveOwnCommands ss
    → HaveOwnCommands (with_cell supi psi c ss)
own_with supi psi c [] own all = tt
own_with supi psi c (x ∷ xs) own all =
    own_with_at supi psi c x xs (bytes_eq x.supi supi) refl own all (own_with supi psi c xs own all.1)

own_from_at : (p i : ℕ) (cs : List Cell) → HaveOwnCommandsFrom p cs
    → HasOwnCommand (p + i) (slice_index_or cs i vacant).held
own_from_at p i [] all = tt
own_from_at p zero (x ∷ cs) all =
    let at : p ≡ p + 0 = omega arith in subst (λ n. HasOwnCommand n x.held) at all.0
own_from_at p (suc i) (x ∷ cs) all =
    let at : p + 1 + i ≡ p + suc i = omega arith in
    subst (λ n. HasOwnCommand n (slice_index_or cs i vacant).held) at (own_from_at (p + 1) i cs all.1)

own_found_at : (supi : List ℕ) (psi : ℕ) (x s : Subscriber) (xs : List Subscriber) (is : Bool)
    → (if is then Some x else subscriber_in supi xs) ≡ Some s → HaveOwnCommands (x ∷ xs)
    → (subscriber_in supi xs ≡ Some s → HaveOwnCommandsFrom 1 s.cells) → HaveOwnCommandsFrom 1 s.cells
own_found_at supi psi x s xs true found all rest =
    let same : x ≡ s = cc in subst (λ (t : Subscriber). HaveOwnCommandsFrom 1 t.cells) same all.0
own_found_at supi psi x s xs false found all rest = rest found

own_found : (supi : List ℕ) (psi : ℕ) (ss : List Subscriber) (s : Subscriber) → subscriber_in supi ss ≡ Some s
    → HaveOwnCommands ss
    → HaveOwnCommandsFrom 1 s.cells
own_found supi psi [] s found all = absurd (cc)
own_found supi psi (x ∷ xs) s found all =
    own_found_at supi psi x s xs (bytes_eq x.supi supi) found all (λ there. own_found supi psi xs s there all.1)

place : (psi : ℕ) → is_psi psi ≡ true → 1 + (psi - 1) ≡ psi
place psi right = grind (arith, nat_tests, right)

pub has_own : (supi : List ℕ) (psi : ℕ) (smf : SmfState) → Stands supi smf → is_psi psi ≡ true
    → HaveOwnCommands smf.subscribers
    → HasOwnCommand psi (cell_of supi psi smf).held
has_own supi psi smf s right all =
    let there = own_from_at 1 (psi - 1) s.its.cells (own_found supi psi smf.subscribers s.its s.found all) in
    rw (cell_there supi psi smf s)
    (subst (λ n. HasOwnCommand n (slice_index_or s.its.cells (psi - 1) vacant).held) (place psi right) there)

-- cells of all identities
whole_set : (x : Subscriber) (i : ℕ) (c : Cell) → is_whole (record x { cells = slice_set x.cells i c }) ≡ is_whole x
whole_set x i c = ap (λ n. n == 15) (length-set x.cells i c)

whole_with_at : (supi : List ℕ) (psi : ℕ) (c : Cell) (x : Subscriber) (xs : List Subscriber) (is : Bool)
    → list_all is_whole (with_cell supi psi c xs) ≡ list_all is_whole xs
    → list_all is_whole (if is then record x { cells = slice_set x.cells (psi - 1) c } ∷ xs else x ∷ with_cell supi psi c xs)
    ≡ list_all is_whole (x ∷ xs)
whole_with_at supi psi c x xs true rest = ap (λ b. b && list_all is_whole xs) (whole_set x (psi - 1) c)
whole_with_at supi psi c x xs false rest = ap (λ b. is_whole x && b) rest

whole_with : (supi : List ℕ) (psi : ℕ) (c : Cell) (ss : List Subscriber)
    → list_all is_whole (with_cell supi psi c ss) ≡ list_all is_whole ss
whole_with supi psi c [] = refl
whole_with supi psi c (x ∷ xs) = whole_with_at supi psi c x xs (bytes_eq x.supi supi) (whole_with supi psi c xs)

whole_of : (a b : Bool) → (a && b) ≡ true → (a ≡ true) × (b ≡ true)
whole_of true b e = (refl, e)
whole_of false b e = absurd (cc)

fifteen : (n : ℕ) → (n == 15) ≡ true → n ≡ 15
fifteen n e = grind (arith, nat_tests, e)

whole_found_at : (supi : List ℕ) (x s : Subscriber) (xs : List Subscriber) (is : Bool)
    → (if is then Some x else subscriber_in supi xs) ≡ Some s
    → is_whole x ≡ true → (subscriber_in supi xs ≡ Some s → length s.cells ≡ 15) → length s.cells ≡ 15
whole_found_at supi x s xs true found one rest =
    let same : x ≡ s = cc in ap (λ (t : Subscriber). length t.cells) (sym same) ∙ fifteen (length x.cells) one
whole_found_at supi x s xs false found one rest = rest found

whole_found : (supi : List ℕ) (ss : List Subscriber) (s : Subscriber) → subscriber_in supi ss ≡ Some s
    → list_all is_whole ss ≡ true
    → length s.cells ≡ 15
whole_found supi [] s found all = absurd (cc)
whole_found supi (x ∷ xs) s found all =
    let both = whole_of (is_whole x) (list_all is_whole xs) all in
    whole_found_at supi x s xs (bytes_eq x.supi supi) found both.0 (λ there. whole_found supi xs s there both.1)

stands_by : (supi : List ℕ) (smf : SmfState) (o : Option Subscriber) → subscriber_in supi smf.subscribers ≡ o
    → is_some o ≡ true
    → list_all is_whole smf.subscribers ≡ true → Stands supi smf
stands_by supi smf None found some all = absurd (cc)
stands_by supi smf (Some s) found some all =
    record { its = s; found = found; whole = whole_found supi smf.subscribers s found all }

pub sessions_stand : (supi : List ℕ) (smf : SmfState) → is_some (subscriber_in supi smf.subscribers) ≡ true
    → AreSessions smf → Stands supi smf
sessions_stand supi smf some are = stands_by supi smf (subscriber_in supi smf.subscribers) refl some are.whole

-- A cell is changed, and the pools as its addresses tell.
abbrev pub with_both : List ℕ → ℕ → Cell → PoolsParts → SmfState → SmfState
with_both supi psi c q smf = record (put_cell supi psi c smf) { pools = q }

balanced : (h new before after old taken : ℕ) → h + old ≡ before + new → before ≡ taken → after + old ≡ taken + new
    → h ≡ after
balanced h new before after old taken one two three = omega (arith, one, two, three)

pub put_balanced : (supi : List ℕ) (psi : ℕ) (c : Cell) (q : PoolsParts) (smf : SmfState) → Stands supi smf
    → is_psi psi ≡ true
    → Balance smf.pools q (address_of (cell_of supi psi smf).held) (address_of c.held) → HasOwnCommand psi c.held
    → AreSessions smf
    → AreSessions (with_both supi psi c q smf)
unfolding put_cell
put_balanced supi psi c q smf s right b own are =
    let there = ap (λ (x : Cell). address_of x.held) (cell_there supi psi smf s) in record {
      pools = b.pools;
      v4 = λ x. balanced (holders (is_v4 x) (with_cell supi psi c smf.subscribers)) (has_such (is_v4 x) (address_of c.held))
          (holders (is_v4 x) smf.subscribers) (one_if (is_taken_at x q.v4)) (has_such (is_v4 x) (address_of (cell_of supi psi smf).held))
          (one_if (is_taken_at x smf.pools.v4))
          (ap (λ a. holders (is_v4 x) (with_cell supi psi c smf.subscribers) + has_such (is_v4 x) a) there
          ∙ holders_with (is_v4 x) supi psi c smf.subscribers s.its s.found s.whole right) (are.v4 x) (b.v4 x);
      v6 = λ x. balanced (holders (is_v6 x) (with_cell supi psi c smf.subscribers)) (has_such (is_v6 x) (address_of c.held))
          (holders (is_v6 x) smf.subscribers) (one_if (is_taken_at x q.v6)) (has_such (is_v6 x) (address_of (cell_of supi psi smf).held))
          (one_if (is_taken_at x smf.pools.v6))
          (ap (λ a. holders (is_v6 x) (with_cell supi psi c smf.subscribers) + has_such (is_v6 x) a) there
          ∙ holders_with (is_v6 x) supi psi c smf.subscribers s.its s.found s.whole right) (are.v6 x) (b.v6 x);
      commands = own_with supi psi c smf.subscribers (subst (λ n. HasOwnCommand n c.held) (sym (place psi right)) own) are.commands;
      whole = whole_with supi psi c smf.subscribers ∙ are.whole;
    }

-- The address of a session is taken.
some_taken : (is : Bool) (h total rest : ℕ) (taken : Bool) → h + one_if is ≡ total + 0 → total ≡ one_if taken
    → is ≡ true → taken ≡ true
some_taken is h total rest true one two has = refl
some_taken is h total rest false one two has =
    let in_one : one_if is ≡ 1 = ap one_if has in absurd (omega (arith, one, two, in_one))

pub held_is_taken : (supi : List ℕ) (psi : ℕ) (address : Address) (smf : SmfState) → Stands supi smf → is_psi psi ≡ true
    → address_of (cell_of supi psi smf).held ≡ Some address → AreSessions smf → IsTaken address smf.pools
held_is_taken supi psi address smf s right e are =
    let at = ap (λ (x : Cell). address_of x.held) (sym (cell_there supi psi smf s)) ∙ e in record {
      v4 = λ x has. some_taken (is_v4 x address) (holders (is_v4 x) (with_cell supi psi vacant smf.subscribers)) (holders (is_v4 x) smf.subscribers) 0
          (is_taken_at x smf.pools.v4)
          (ap (λ a. holders (is_v4 x) (with_cell supi psi vacant smf.subscribers) + has_such (is_v4 x) a) (sym at)
          ∙ holders_with (is_v4 x) supi psi vacant smf.subscribers s.its s.found s.whole right) (are.v4 x) has;
      v6 = λ x has. some_taken (is_v6 x address) (holders (is_v6 x) (with_cell supi psi vacant smf.subscribers)) (holders (is_v6 x) smf.subscribers) 0
          (is_taken_at x smf.pools.v6)
          (ap (λ a. holders (is_v6 x) (with_cell supi psi vacant smf.subscribers) + has_such (is_v6 x) a) (sym at)
          ∙ holders_with (is_v6 x) supi psi vacant smf.subscribers s.its s.found s.whole right) (are.v6 x) has;
    }
