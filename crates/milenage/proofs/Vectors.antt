-- The published vectors hold of the definitions. Each is computed.
use Rattle.std.proofs.Common.{refl}
use Rattle.aes_cmac.specs.Field.{◌•◌, inverse}
use Rattle.aes_cmac.specs.Aes.{sub, sub_bytes, shift_rows, mix_columns, add_round_key, round_constant, next_round_key, round_key, key_expansion, state_behind, cipher, aes}
use Rattle.milenage.specs.Milenage.{f1, f1_star, f2, f3, f4, f5, f5_star, opc_of}
use Rattle.milenage.specs.Published.{PublishedVectors}

pub published_vectors : PublishedVectors
unfolding ◌•◌ inverse sub sub_bytes shift_rows mix_columns add_round_key round_constant next_round_key round_key key_expansion state_behind cipher aes opc_of f1 f1_star f2 f3 f4 f5 f5_star
published_vectors = record {
  opc = refl;
  mac_a = refl;
  mac_s = refl;
  res = refl;
  ck = refl;
  ik = refl;
  ak = refl;
  ak_of_auts = refl;
}
