-- HMAC (RFC 2104 section 2) with SHA-256 as its hash H. A block has B = 64 octets.
use Rattle.std.specs.Prelude.{ℕ, ◌-◌, List, ◌++◌, length, map, replicate, bit_xor, nat_lt, if◌then◌else◌}
use Rattle.sha2.specs.Sha256.{sha256}

-- a key that is longer than a block is hashed first
abbrev pub short_key : List ℕ → List ℕ
short_key key = if nat_lt 64 (length key) then sha256 key else key

-- with zeros behind it up to a block
abbrev pub padded : List ℕ → List ℕ
padded key = key ++ replicate (64 - length key) 0

-- K
abbrev pub key_block : List ℕ → List ℕ
key_block key = padded (short_key key)

-- each octet XOR the pad
abbrev pub masked : ℕ → List ℕ → List ℕ
masked pad octets = map (λ octet. bit_xor octet pad) octets

-- the octets 36 and 5C of the inner and the outer pad
abbrev pub ipad : ℕ
ipad = 0x36

abbrev pub opad : ℕ
opad = 0x5c

-- H(K XOR opad, H(K XOR ipad, text))
unfoldable pub hmac : List ℕ → List ℕ → List ℕ
hmac key text = sha256 (masked opad (key_block key) ++ sha256 (masked ipad (key_block key) ++ text))
