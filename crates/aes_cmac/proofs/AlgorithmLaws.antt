-- What holds of the algorithms whatever the key: how long their answers are, and that to encipher twice leads back.
use Rattle.std.proofs.Common.{◌≡◌, ap, ◌∙◌, ℕ, ◌≤◌, List, length, replicate, ◌++◌, arith, lit<}
use Rattle.std.proofs.lemmas.List.{length-take-le}
use Rattle.std.proofs.lemmas.Grind.{div_ceil_times}
use Rattle.nas_base.specs.declared.count.Dir.{Dir}
use Rattle.std.specs.Int.{div_ceil}
use Rattle.aes_cmac.specs.Aes.{aes}
use Rattle.aes_cmac.specs.Blocks.{xor_of, block_count}
use Rattle.aes_cmac.specs.Cmac.{cmac_from, cmac}
use Rattle.aes_cmac.specs.Ctr.{key_stream, ctr}
use Rattle.aes_cmac.specs.Nas.{head, nia2, nea2}
use Rattle.aes_cmac.proofs.BlockLemmas.{length-xor_of, xor_of-xor_of}
use Rattle.aes_cmac.proofs.CtrLemmas.{GivesBlocks, length-key_stream}
use Rattle.aes_cmac.proofs.RoundLemmas.{length-aes}

-- the key stream goes as far as the octets
enough : (ciph : List ℕ → List ℕ) (first octets : List ℕ) → GivesBlocks ciph → length octets ≤ length (key_stream ciph first (block_count octets))
enough ciph first octets blocks =
    omega (arith, length-key_stream ciph first blocks (block_count octets), div_ceil_times (length octets) 16 (lit< tt))

pub length-ctr : (ciph : List ℕ → List ℕ) (first octets : List ℕ) → GivesBlocks ciph → length (ctr ciph first octets) ≡ length octets
unfolding ctr
length-ctr ciph first octets blocks =
    length-xor_of octets (key_stream ciph first (block_count octets)) ∙ omega (arith, enough ciph first octets blocks)

pub ctr-ctr : (ciph : List ℕ → List ℕ) (first octets : List ℕ) → GivesBlocks ciph → ctr ciph first (ctr ciph first octets) ≡ octets
unfolding ctr
ctr-ctr ciph first octets blocks =
    ap (λ n. xor_of (ctr ciph first octets) (key_stream ciph first (div_ceil n 16))) (length-ctr ciph first octets blocks)
    ∙ xor_of-xor_of octets (key_stream ciph first (block_count octets)) (enough ciph first octets blocks)

pub length-cmac : (ciph : List ℕ → List ℕ) (octets : List ℕ) → GivesBlocks ciph → length (cmac ciph octets) ≡ 16
unfolding cmac_from
length-cmac ciph octets blocks = blocks _

pub length-nia2 : (key : List ℕ) (count : ℕ) (dir : Dir) (octets : List ℕ) → length (nia2 key count dir octets) ≡ 4
unfolding nia2
length-nia2 key count dir octets =
    length-take-le 4 (cmac (aes key) (head count dir ++ octets))
    (omega (arith, length-cmac (aes key) (head count dir ++ octets) (length-aes key)))

pub length-nea2 : (key : List ℕ) (count : ℕ) (dir : Dir) (octets : List ℕ) → length (nea2 key count dir octets) ≡ length octets
unfolding nea2
length-nea2 key count dir octets = length-ctr (aes key) (head count dir ++ replicate 8 0) octets (length-aes key)

pub nea2-nea2 : (key : List ℕ) (count : ℕ) (dir : Dir) (octets : List ℕ) → nea2 key count dir (nea2 key count dir octets) ≡ octets
unfolding nea2
nea2-nea2 key count dir octets = ctr-ctr (aes key) (head count dir ++ replicate 8 0) octets (length-aes key)
