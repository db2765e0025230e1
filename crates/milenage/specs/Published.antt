-- What TS 35.208 prints for MILENAGE, test set 1 (clause 4.3). Strings of octets are written as their numbers.
use Rattle.std.specs.Prelude.{◌≡◌, ℕ, List}
use Rattle.byteorder.specs.Endian.{big_bytes}
use Rattle.milenage.specs.Milenage.{f1, f1_star, f2, f3, f4, f5, f5_star, opc_of}

-- K, OP, OPc, RAND, SQN and the AMF field
abbrev pub published_k : List ℕ
published_k = big_bytes 16 0x465b5ce8b199b49faa5f0a2ee238a6bc

abbrev pub published_op : List ℕ
published_op = big_bytes 16 0xcdc202d5123e20f62b6d676ac72cb318

abbrev pub published_opc : List ℕ
published_opc = big_bytes 16 0xcd63cb71954a9f4e48a5994e37a02baf

abbrev pub published_rand : List ℕ
published_rand = big_bytes 16 0x23553cbe9637a89d218ae64dae47bf35

abbrev pub published_sqn : List ℕ
published_sqn = big_bytes 6 0xff9bb4d0b607

abbrev pub published_field : List ℕ
published_field = big_bytes 2 0xb9b9

-- the definitions give these values
pub record PublishedVectors : Type 0 where
  pub opc : opc_of published_k published_op ≡ published_opc
  pub mac_a : f1 published_k published_opc published_rand published_sqn published_field ≡ big_bytes 8 0x4a9ffac354dfafb3
  pub mac_s : f1_star published_k published_opc published_rand published_sqn published_field ≡ big_bytes 8 0x01cfaf9ec4e871e9
  pub res : f2 published_k published_opc published_rand ≡ big_bytes 8 0xa54211d5e3ba50bf
  pub ck : f3 published_k published_opc published_rand ≡ big_bytes 16 0xb40ba9a3c58b2a05bbf0d987b21bf8cb
  pub ik : f4 published_k published_opc published_rand ≡ big_bytes 16 0xf769bcd751044604127672711c6d3441
  pub ak : f5 published_k published_opc published_rand ≡ big_bytes 6 0xaa689c648370
  pub ak_of_auts : f5_star published_k published_opc published_rand ≡ big_bytes 6 0x451e8beca43b
