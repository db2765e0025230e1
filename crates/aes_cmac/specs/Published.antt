-- What the standards print: FIPS 197 of 2001, SP 800-38A and RFC 4493. A block is written as its number.
use Rattle.std.specs.Prelude.{◌≡◌, ℕ, List, [], ◌∷◌, ◌++◌, take}
use Rattle.std.specs.Int.{w128, to_be_bytes}
use Rattle.aes_cmac.specs.Field.{◌•◌}
use Rattle.aes_cmac.specs.Aes.{aes, round_key, sub}
use Rattle.aes_cmac.specs.Cmac.{cmac, first_subkey, second_subkey}
use Rattle.aes_cmac.specs.Ctr.{ctr}

-- a block by its number
abbrev pub block : ℕ → List ℕ
block n = to_be_bytes w128 n

-- the key of FIPS 197 appendices A.1 and B, of SP 800-38A appendix F and of RFC 4493 section 4
abbrev pub published_key : List ℕ
published_key = block 0x2b7e151628aed2a6abf7158809cf4f3c

-- the text of SP 800-38A appendix F and of RFC 4493 section 4
abbrev pub published_text : List ℕ
published_text =
    block 0x6bc1bee22e409f96e93d7e117393172a ++ (block 0xae2d8a571e03ac9c9eb76fac45af8e51 ++ (block 0x30c81c46a35ce411e5fbc1191a0a52ef
    ++ block 0xf69f2445df4f9b17ad2b417be66c3710))

-- the first counter block, and that text in the counter mode (SP 800-38A appendix F.5.1)
abbrev pub published_counter : List ℕ
published_counter = block 0xf0f1f2f3f4f5f6f7f8f9fafbfcfdfeff

abbrev pub published_ciphertext : List ℕ
published_ciphertext =
    block 0x874d6191b620e3261bef6864990db6ce ++ (block 0x9806f66b7970fdff8617187bb9fffdff ++ (block 0x5ae4df3edbd5d35e5b4f09020db03eab
    ++ block 0x1e031dda2fbe03d1792170a0f3009cee))

-- the definitions give these values
pub record PublishedVectors : Type 0 where
  -- a product, and a substitution (FIPS 197 sections 4.2 and 5.1.1)
  pub product : 0x57 • 0x83 ≡ 0xc1
  pub substitution : sub 0x53 ≡ 0xed
  -- the last round key (FIPS 197 appendix A.1)
  pub last_round_key : round_key published_key 10
      ≡ (0xd0 ∷ 0x14 ∷ 0xf9 ∷ 0xa8 ∷ []) ∷ (0xc9 ∷ 0xee ∷ 0x25 ∷ 0x89 ∷ []) ∷ (0xe1 ∷ 0x3f ∷ 0x0c ∷ 0xc8 ∷ []) ∷ (0xb6 ∷ 0x63 ∷ 0x0c ∷ 0xa6 ∷ []) ∷ []
  -- a block (FIPS 197 appendices B and C.1)
  pub block_b : aes published_key (block 0x3243f6a8885a308d313198a2e0370734) ≡ block 0x3925841d02dc09fbdc118597196a0b32
  pub block_c :
      aes (block 0x000102030405060708090a0b0c0d0e0f) (block 0x00112233445566778899aabbccddeeff) ≡ block 0x69c4e0d86a7b0430d8cdb78070b4c55a
  -- the counter mode (SP 800-38A appendix F.5.1), and where the last block is cut
  pub counter_mode : ctr (aes published_key) published_counter published_text ≡ published_ciphertext
  pub cut_block : ctr (aes published_key) published_counter (take 21 published_text) ≡ take 21 published_ciphertext
  -- the subkeys, and the MACs of 0, 16, 40 and 64 octets (RFC 4493 section 4)
  pub subkey_1 : first_subkey (aes published_key) ≡ block 0xfbeed618357133667c85e08f7236a8de
  pub subkey_2 : second_subkey (aes published_key) ≡ block 0xf7ddac306ae266ccf90bc11ee46d513b
  pub mac_0 : cmac (aes published_key) [] ≡ block 0xbb1d6929e95937287fa37d129b756746
  pub mac_16 : cmac (aes published_key) (take 16 published_text) ≡ block 0x070a16b46b4d4144f79bdd9dd04a287c
  pub mac_40 : cmac (aes published_key) (take 40 published_text) ≡ block 0xdfa66747de9ae63030ca32611497c827
  pub mac_64 : cmac (aes published_key) published_text ≡ block 0x51f0bebf7e3b9d92fc49741779363cfe
