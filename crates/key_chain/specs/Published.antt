-- What RFC 4231 prints for HMAC-SHA-256.
use Rattle.std.specs.Prelude.{◌≡◌, ℕ, List, ◌++◌, replicate, codes}
use Rattle.std.specs.Int.{w128, to_be_bytes}
use Rattle.key_chain.specs.Hmac.{hmac}

-- 32 octets by the numbers of their halves
abbrev pub halves : ℕ → ℕ → List ℕ
halves high low = to_be_bytes w128 high ++ to_be_bytes w128 low

-- the definition gives these values
pub record PublishedVectors : Type 0 where
  -- a key of 20 octets (section 4.2), and one that is longer than a block (section 4.7)
  pub case_1 : hmac (replicate 20 0x0b) (codes "Hi There") ≡ halves 0xb0344c61d8db38535ca8afceaf0bf12b 0x881dc200c9833da726e9376c2e32cff7
  pub case_6 :
      hmac (replicate 131 0xaa) (codes "Test Using Larger Than Block-Size Key - Hash Key First")
      ≡ halves 0x60e431591ee0b67f0d8a26aacbf5b77f 0x8e0bc6213728c5140546040f0ee37f54
