-- The state behind some rounds, and the round keys, step by step.
use Rattle.std.proofs.Common.{◌≡◌, refl, sym, ap, ◌∙◌, ℕ, zero, suc, ◌+◌, ◌-◌, ◌<◌, ◌≤◌, List, [], length, map, get_or, set, arith, add-one, ⊎_elim}
use Rattle.std.specs.List.{range_with_len}
use Rattle.std.proofs.lemmas.List.{length-set, get_or-set_same, get_or-set_other}
use Rattle.std.proofs.lemmas.List.FromFn.{fill_by_all}
use Rattle.std.proofs.lemmas.Bool.{cases_eq}
use Rattle.aes_cmac.specs.declared.schedule.TheConstants.{CONSTANTS}
use Rattle.aes_cmac.specs.Aes.{State, columns, sub_bytes, shift_rows, mix_columns, add_round_key, round_constant, next_round_key, round_key, key_expansion, state_behind, cipher, aes}
use Rattle.aes_cmac.proofs.AllOctets.{at_each}

pub state_behind_none : (keys : List State) (block : List ℕ) → state_behind keys block 0 ≡ add_round_key (columns block) (get_or keys 0 [])
unfolding state_behind
state_behind_none keys block = refl

-- round n leads from the state behind the n - 1 rounds before it
pub state_behind_more : (keys : List State) (block : List ℕ) (n : ℕ) → 1 ≤ n
    → state_behind keys block (n + 1 - 1) ≡ add_round_key (mix_columns (shift_rows (sub_bytes (state_behind keys block (n - 1))))) (get_or keys n [])
unfolding state_behind
state_behind_more keys block zero h = absurd (omega arith)
state_behind_more keys block (suc n) h =
    let here : suc n + 1 - 1 ≡ suc n = omega arith in
    let before : suc n - 1 ≡ n = omega arith in
    rw (here, before) refl

pub CONSTANTS_lem : CONSTANTS ≡ map round_constant (range_with_len 0 10)
unfolding round_constant
CONSTANTS_lem = refl

pub constant_at : (n : ℕ) → n < 10 → get_or CONSTANTS n 0 ≡ round_constant n
constant_at n h = at_each round_constant 10 CONSTANTS CONSTANTS_lem n h

pub round_key_none : (key : List ℕ) → round_key key 0 ≡ columns key
unfolding round_key
round_key_none key = refl

pub round_key_more : (key : List ℕ) (n : ℕ) → n < 10 → round_key key (n + 1) ≡ next_round_key (get_or CONSTANTS n 0) (round_key key n)
unfolding round_key
round_key_more key n h = rw (add-one, constant_at n h) refl

-- eleven states, of which those up to n are the round keys
pub record AreKeysTo (key : List ℕ) (n : ℕ) (keys : List State) : Type 0 where
  pub count : length keys ≡ 11
  pub placed : (k : ℕ) → k ≤ n → get_or keys k [] ≡ round_key key k

pub keys_at_start : (key : List ℕ) (keys : List State) → length keys ≡ 11 → get_or keys 0 [] ≡ columns key → AreKeysTo key 0 keys
keys_at_start key keys count e = record { count = count; placed = placed }
  where
    placed : (k : ℕ) → k ≤ 0 → get_or keys k [] ≡ round_key key k
    placed zero h = e ∙ sym (round_key_none key)
    placed (suc k) h = absurd (omega arith)

pub keys_more : (key : List ℕ) (keys : List State) (n : ℕ) (next : State) → n < 10 → AreKeysTo key n keys
    → next ≡ next_round_key (get_or CONSTANTS n 0) (get_or keys n []) → AreKeysTo key (n + 1) (set keys (n + 1) next)
keys_more key keys n next h are e = record { count = length-set keys (n + 1) next ∙ are.count; placed = placed }
  where
    here : get_or (set keys (n + 1) next) (n + 1) [] ≡ round_key key (n + 1)
    here =
        get_or-set_same keys (n + 1) next [] (omega (arith, are.count)) ∙ e
        ∙ ap (next_round_key (get_or CONSTANTS n 0)) (are.placed n (omega arith))
        ∙ sym (round_key_more key n h)

    placed : (k : ℕ) → k ≤ n + 1 → get_or (set keys (n + 1) next) k [] ≡ round_key key k
    placed k within =
        ⊎_elim
        (λ (same : k ≡ n + 1). rw same here)
        (λ (other : k ≡ n + 1 → ⊥). get_or-set_other keys (n + 1) k next [] other ∙ are.placed k (omega arith))
        (cases_eq k (n + 1))

pub keys_all : (key : List ℕ) (keys : List State) (n : ℕ) → 10 ≤ n → AreKeysTo key n keys → keys ≡ key_expansion key
unfolding key_expansion
keys_all key keys n h are = fill_by_all (round_key key) keys 11 [] are.count (λ k below. are.placed k (omega arith))

pub length-cipher : (keys : List State) (block : List ℕ) → length (cipher keys block) ≡ 16
unfolding cipher
length-cipher keys block = refl

pub length-aes : (key block : List ℕ) → length (aes key block) ≡ 16
unfolding aes
length-aes key block = length-cipher (key_expansion key) block
