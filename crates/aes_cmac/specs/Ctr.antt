-- The counter mode over a block cipher CIPH (SP 800-38A section 6.5).
use Rattle.std.specs.Prelude.{ℕ, ◌+◌, ◌%◌, ◌^◌, List}
use Rattle.std.specs.Int.{w128, from_be_bytes, to_be_bytes}
use Rattle.std.specs.List.{flat_map, range_with_len}
use Rattle.aes_cmac.specs.Blocks.{xor_of, block_count}

-- the counter block j places behind the first: all of its 128 bits count (B.1)
unfoldable pub counter_block : List ℕ → ℕ → List ℕ
counter_block first j = to_be_bytes w128 ((from_be_bytes w128 first + j) % 2 ^ 128)

-- the output blocks of the first n counter blocks
unfoldable pub key_stream : (List ℕ → List ℕ) → List ℕ → ℕ → List ℕ
key_stream ciph first n = flat_map (λ j. ciph (counter_block first j)) (range_with_len 0 n)

-- a string enciphered, or deciphered, which is the same: each block and its output block are added, and a cut one takes of that as
-- much as it has itself
unfoldable pub ctr : (List ℕ → List ℕ) → List ℕ → List ℕ → List ℕ
ctr ciph first octets = xor_of octets (key_stream ciph first (block_count octets))
