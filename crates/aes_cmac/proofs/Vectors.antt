-- The published vectors hold of the definitions. Each is computed.
use Rattle.std.proofs.Common.{refl}
use Rattle.aes_cmac.specs.Field.{◌•◌, inverse}
use Rattle.aes_cmac.specs.Aes.{sub, sub_bytes, shift_rows, mix_columns, add_round_key, round_constant, next_round_key, round_key, key_expansion, state_behind, cipher, aes}
use Rattle.aes_cmac.specs.Cmac.{doubled_block, last_block, chained, cmac_from}
use Rattle.aes_cmac.specs.Ctr.{counter_block, key_stream, ctr}
use Rattle.aes_cmac.specs.Published.{PublishedVectors}

pub published_vectors : PublishedVectors
unfolding ◌•◌ inverse sub sub_bytes shift_rows mix_columns add_round_key round_constant next_round_key round_key key_expansion state_behind cipher aes doubled_block last_block chained cmac_from counter_block key_stream ctr
published_vectors = record {
  product = refl;
  substitution = refl;
  last_round_key = refl;
  block_b = refl;
  block_c = refl;
  counter_mode = refl;
  cut_block = refl;
  subkey_1 = refl;
  subkey_2 = refl;
  mac_0 = refl;
  mac_16 = refl;
  mac_40 = refl;
  mac_64 = refl;
}
