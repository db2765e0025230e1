-- The published vectors, each a name and the value that the definitions give. Strings of 16 octets are written as their numbers.
use Rattle.std.specs.Prelude.{ℕ, List, [], ◌∷◌, ◌++◌, codes, replicate}
use Rattle.std.specs.Int.{w128, to_be_bytes}
use Rattle.hex.specs.Hex.{encode_lower}
use Rattle.aes_cmac.specs.Aes.{aes}
use Rattle.aes_cmac.specs.Cmac.{cmac}
use Rattle.key_chain.specs.Hmac.{hmac}
use Rattle.milenage.specs.Milenage.{f1, f1_star, f2, f3, f4, f5, f5_star, opc_of}

-- the key and the block of FIPS 197 appendix C.1
unfoldable pub aes_key : List ℕ
aes_key = to_be_bytes w128 0x000102030405060708090a0b0c0d0e0f

unfoldable pub aes_block : List ℕ
aes_block = to_be_bytes w128 0x00112233445566778899aabbccddeeff

-- the key and the message of 16 octets of RFC 4493 section 4
unfoldable pub cmac_key : List ℕ
cmac_key = to_be_bytes w128 0x2b7e151628aed2a6abf7158809cf4f3c

unfoldable pub cmac_block : List ℕ
cmac_block = to_be_bytes w128 0x6bc1bee22e409f96e93d7e117393172a

-- K, OP, RAND, SQN and the AMF field of TS 35.208 clause 4.3, test set 1
unfoldable pub k : List ℕ
k = to_be_bytes w128 0x465b5ce8b199b49faa5f0a2ee238a6bc

unfoldable pub op : List ℕ
op = to_be_bytes w128 0xcdc202d5123e20f62b6d676ac72cb318

unfoldable pub rand : List ℕ
rand = to_be_bytes w128 0x23553cbe9637a89d218ae64dae47bf35

unfoldable pub sqn : List ℕ
sqn = 0xff ∷ 0x9b ∷ 0xb4 ∷ 0xd0 ∷ 0xb6 ∷ 0x07 ∷ []

unfoldable pub amf_field : List ℕ
amf_field = 0xb9 ∷ 0xb9 ∷ []

-- the key and the text of RFC 4231 section 4.2, test case 1
unfoldable pub hmac_key : List ℕ
hmac_key = replicate 20 0x0b

unfoldable pub hmac_text : List ℕ
hmac_text = codes "Hi There"

unfoldable pub value_line : List ℕ → List ℕ → List ℕ
value_line name value = name ++ (codes " " ++ (encode_lower value ++ codes "\n"))

-- AES of a block; CMAC of the empty message and of that of 16 octets
unfoldable pub cipher_lines : List ℕ
cipher_lines =
    value_line (codes "aes") (aes aes_key aes_block)
    ++ (value_line (codes "cmac") (cmac (aes cmac_key) []) ++ value_line (codes "cmac16") (cmac (aes cmac_key) cmac_block))

-- what MILENAGE gives under an OPc
unfoldable pub output_lines : List ℕ → List ℕ
output_lines opc =
    value_line (codes "f1") (f1 k opc rand sqn amf_field)
    ++ (value_line (codes "f2") (f2 k opc rand)
    ++ (value_line (codes "f3") (f3 k opc rand)
    ++ (value_line (codes "f4") (f4 k opc rand) ++ value_line (codes "f5") (f5 k opc rand))))

unfoldable pub resynchronisation_lines : List ℕ → List ℕ
resynchronisation_lines opc =
    value_line (codes "f1s") (f1_star k opc rand sqn amf_field) ++ value_line (codes "f5s") (f5_star k opc rand)

unfoldable pub milenage_lines : List ℕ
milenage_lines =
    value_line (codes "opc") (opc_of k op) ++ (output_lines (opc_of k op) ++ resynchronisation_lines (opc_of k op))

unfoldable pub hmac_line : List ℕ
hmac_line = value_line (codes "hmac") (hmac hmac_key hmac_text)

unfoldable pub vectors_text : List ℕ
vectors_text = cipher_lines ++ (milenage_lines ++ hmac_line)
