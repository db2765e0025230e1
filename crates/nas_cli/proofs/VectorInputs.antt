-- The code's inputs of the published vectors are those of the definition.
use Rattle.std.proofs.Common.{◌≡◌, refl}
use Rattle.std.proofs.lemmas.Grind.{common_steps}
use Rattle.nas_cli.specs.declared.vectors.TheConstants.{AES_KEY, AES_BLOCK, CMAC_KEY, CMAC_BLOCK, K, OP, RAND, SQN, AMF_FIELD, HMAC_KEY, HMAC_TEXT}
use Rattle.nas_cli.specs.Vectors.{aes_key, aes_block, cmac_key, cmac_block, k, op, rand, sqn, amf_field, hmac_key, hmac_text}

pub aes_key_is : AES_KEY ≡ aes_key
unfolding aes_key
aes_key_is = refl

pub aes_block_is : AES_BLOCK ≡ aes_block
unfolding aes_block
aes_block_is = refl

pub cmac_key_is : CMAC_KEY ≡ cmac_key
unfolding cmac_key
cmac_key_is = refl

pub cmac_block_is : CMAC_BLOCK ≡ cmac_block
unfolding cmac_block
cmac_block_is = refl

pub k_is : K ≡ k
unfolding k
k_is = refl

pub op_is : OP ≡ op
unfolding op
op_is = refl

pub rand_is : RAND ≡ rand
unfolding rand
rand_is = refl

pub sqn_is : SQN ≡ sqn
unfolding sqn
sqn_is = refl

pub amf_field_is : AMF_FIELD ≡ amf_field
unfolding amf_field
amf_field_is = refl

pub hmac_key_is : HMAC_KEY ≡ hmac_key
unfolding hmac_key
hmac_key_is = refl

pub hmac_text_is : HMAC_TEXT ≡ hmac_text
unfolding hmac_text
hmac_text_is = refl

pub ruleset vector_steps = (common_steps, aes_key_is, aes_block_is, cmac_key_is, cmac_block_is, k_is, op_is, rand_is, sqn_is, amf_field_is, hmac_key_is, hmac_text_is)
