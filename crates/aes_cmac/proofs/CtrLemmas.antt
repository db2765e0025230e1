-- The counter mode, block by block.
use Rattle.std.proofs.Common.{◌≡◌, refl, sym, ap, ◌∙◌, ℕ, zero, suc, ◌+◌, ◌-◌, ◌*◌, ◌%◌, ◌^◌, ◌<◌, ◌≤◌, min, List, [], ◌∷◌, ◌++◌, length, take, drop, append_assoc, add_assoc, add-zero, add-one, zero-add, arith, lit<}
use Rattle.std.proofs.Math.Nat.{mod-add-mod, mod-eq_of_lt}
use Rattle.std.proofs.Math.Path.{ap₂}
use Rattle.std.proofs.Math.Seq.{take-add}
use Rattle.std.proofs.lemmas.List.{append-nil, map-id, length-append, length-drop, length-take-le, take_all, take_at, drop_at, take_min, drop_min, drop-drop, drop_all}
use Rattle.std.proofs.lemmas.List.FromFn.{map-range_with_len_more}
use Rattle.std.proofs.lemmas.Grind.{flat_map-append, div_ceil_times}
use borrow.Rule.Slice.PartMut.{put_mid}
use Rattle.std.specs.Int.{w128, from_be_bytes, to_be_bytes, div_ceil}
use Rattle.std.specs.List.{flat_map, range_with_len}
use Rattle.aes_cmac.specs.Blocks.{xor_of, block_count}
use Rattle.aes_cmac.specs.Ctr.{counter_block, key_stream, ctr}
use Rattle.aes_cmac.proofs.BlockLemmas.{length-xor_of, xor_of-append}

-- what a cipher gives is a block
abbrev pub GivesBlocks : (List ℕ → List ℕ) → Type 0
GivesBlocks ciph = (block : List ℕ) → length (ciph block) ≡ 16

range_more : (n : ℕ) → range_with_len 0 (n + 1) ≡ range_with_len 0 n ++ n ∷ []
range_more n =
    sym (map-id (range_with_len 0 (n + 1)))
    ∙ map-range_with_len_more (λ (k : ℕ). k) 0 n n (zero-add n)
    ∙ ap (λ (ks : List ℕ). ks ++ n ∷ []) (map-id (range_with_len 0 n))

pub key_stream_more : (ciph : List ℕ → List ℕ) (first : List ℕ) (n : ℕ)
    → key_stream ciph first (n + 1) ≡ key_stream ciph first n ++ ciph (counter_block first n)
unfolding key_stream
key_stream_more ciph first n =
    let output : ℕ → List ℕ = λ j. ciph (counter_block first j) in
    ap (flat_map output) (range_more n)
    ∙ flat_map-append output (range_with_len 0 n) (n ∷ [])
    ∙ ap (λ (xs : List ℕ). flat_map output (range_with_len 0 n) ++ xs) (append-nil (ciph (counter_block first n)))

pub length-key_stream : (ciph : List ℕ → List ℕ) (first : List ℕ) → GivesBlocks ciph → (n : ℕ) → length (key_stream ciph first n) ≡ 16 * n
unfolding key_stream
length-key_stream ciph first blocks zero = refl
length-key_stream ciph first blocks (suc n) =
    ap (λ m. length (key_stream ciph first m)) (sym (add-one n))
    ∙ ap length (key_stream_more ciph first n)
    ∙ length-append (key_stream ciph first n) (ciph (counter_block first n))
    ∙ ap₂ (λ (a b : ℕ). a + b) (length-key_stream ciph first blocks n) (blocks (counter_block first n))
    ∙ omega arith

-- n blocks of the old octets are done, those behind them are as they were, and the counter has come as far
pub record IsDoneTo (ciph : List ℕ → List ℕ) (first old : List ℕ) (n : ℕ) (octets : List ℕ) (counter : ℕ) : Type 0 where
  pub front : octets ≡ xor_of (take (16 * n) old) (key_stream ciph first n) ++ drop (16 * n) old
  pub counted : counter ≡ (from_be_bytes w128 first + n) % 2 ^ 128

pub done_none : (ciph : List ℕ → List ℕ) (first old : List ℕ) (counter : ℕ) → counter ≡ from_be_bytes w128 first → counter < 2 ^ 128
    → IsDoneTo ciph first old 0 old counter
unfolding key_stream
done_none ciph first old counter e within = record {
  front = refl;
  counted = sym (mod-eq_of_lt within) ∙ ap (λ m. m % 2 ^ 128) (e ∙ sym (add-zero (from_be_bytes w128 first)));
}

counted_more : (start n counter : ℕ) → counter ≡ (start + n) % 2 ^ 128 → (counter + 1) % 2 ^ 128 ≡ (start + (n + 1)) % 2 ^ 128
counted_more start n counter e =
    ap (λ m. (m + 1) % 2 ^ 128) e ∙ mod-add-mod (start + n) (2 ^ 128) 1 ∙ ap (λ m. m % 2 ^ 128) (add_assoc start n 1)

counter_block_is : (first : List ℕ) (n counter : ℕ) → counter ≡ (from_be_bytes w128 first + n) % 2 ^ 128
    → to_be_bytes w128 counter ≡ counter_block first n
unfolding counter_block
counter_block_is first n counter e = ap (to_be_bytes w128) e

-- one block more, of which k octets are there: ys stands in their place
pub done_more : (ciph : List ℕ → List ℕ) (first old octets : List ℕ) (n counter k : ℕ) (block ys : List ℕ) → GivesBlocks ciph
    → IsDoneTo ciph first old n octets counter → 16 * n < length old → k ≡ min 16 (length old - 16 * n)
    → block ≡ to_be_bytes w128 counter → ys ≡ xor_of (take k (drop (16 * n) octets)) (ciph block)
    → IsDoneTo ciph first old (n + 1) (put_mid (16 * n) k octets ys) ((counter + 1) % 2 ^ 128)
done_more ciph first old octets n counter k block ys blocks are within cut encoded e = record {
  front =
      ap₂ (λ (a b : List ℕ). a ++ b) before (ap₂ (λ (a b : List ℕ). a ++ b) here behind)
      ∙ sym (append_assoc done (xor_of part (ciph (counter_block first n))) (drop (16 * (n + 1)) old))
      ∙ ap (λ (a : List ℕ). a ++ drop (16 * (n + 1)) old) (sym whole);
  counted = counted_more (from_be_bytes w128 first) n counter are.counted;
}
  where
    done : List ℕ
    done = xor_of (take (16 * n) old) (key_stream ciph first n)

    part : List ℕ
    part = take 16 (drop (16 * n) old)

    taken : length (take (16 * n) old) ≡ 16 * n
    taken = length-take-le (16 * n) old (omega arith)

    streamed : length (key_stream ciph first n) ≡ 16 * n
    streamed = length-key_stream ciph first blocks n

    size : length done ≡ 16 * n
    size = length-xor_of (take (16 * n) old) (key_stream ciph first n) ∙ omega (arith, taken, streamed)

    before : take (16 * n) octets ≡ done
    before = ap (take (16 * n)) are.front ∙ take_at done (drop (16 * n) old) (16 * n) size

    left : drop (16 * n) octets ≡ drop (16 * n) old
    left = ap (drop (16 * n)) are.front ∙ drop_at done (drop (16 * n) old) (16 * n) size

    k_is : k ≡ min 16 (length (drop (16 * n) old))
    k_is = cut ∙ ap (min 16) (sym (length-drop (16 * n) old))

    here : ys ≡ xor_of part (ciph (counter_block first n))
    here =
        e
        ∙ ap₂ (λ (a b : List ℕ). xor_of a (ciph b))
        (ap₂ (λ (m : ℕ) (xs : List ℕ). take m xs) k_is left ∙ take_min 16 (drop (16 * n) old))
        (encoded ∙ counter_block_is first n counter are.counted)

    behind : drop k (drop (16 * n) octets) ≡ drop (16 * (n + 1)) old
    behind =
        ap₂ (λ (m : ℕ) (xs : List ℕ). drop m xs) k_is left
        ∙ drop_min 16 (drop (16 * n) old)
        ∙ drop-drop 16 (16 * n) old
        ∙ ap (λ m. drop m old) (omega arith)

    whole : xor_of (take (16 * (n + 1)) old) (key_stream ciph first (n + 1)) ≡ done ++ xor_of part (ciph (counter_block first n))
    whole =
        ap₂ xor_of (ap (λ m. take m old) (omega arith) ∙ take-add (16 * n) 16 old) (key_stream_more ciph first n)
        ∙ xor_of-append (take (16 * n) old) part (key_stream ciph first n) (ciph (counter_block first n)) (taken ∙ sym streamed)

-- at the end all is done
pub done_all : (ciph : List ℕ → List ℕ) (first old octets : List ℕ) (n counter : ℕ) → n ≡ div_ceil (length old) 16
    → IsDoneTo ciph first old n octets counter → octets ≡ ctr ciph first old
unfolding ctr
done_all ciph first old octets n counter e are =
    are.front
    ∙ ap₂ (λ (a b : List ℕ). a ++ b)
    (ap₂ (λ (a : List ℕ) (m : ℕ). xor_of a (key_stream ciph first m)) (take_all (16 * n) old enough) e)
    (drop_all (16 * n) old enough)
    ∙ append-nil (xor_of old (key_stream ciph first (block_count old)))
  where
    enough : length old ≤ 16 * n
    enough = omega (arith, e, div_ceil_times (length old) 16 (lit< tt))
