-- Authentication vectors (TS 33.102 clause 6.3.2).
use Rattle.std.specs.Prelude.{ℕ, List, ◌++◌}
use Rattle.byteorder.specs.Endian.{big_bytes, big_number}
use Rattle.milenage.specs.Octets.{◌⊕◌}
use Rattle.milenage.specs.Milenage.{f1, f2, f3, f4, f5}
use Rattle.milenage.specs.declared.vector.Vector.{Vector}

-- a sequence number as SQN, 48 bits, and back
unfoldable pub sqn_octets : ℕ → List ℕ
sqn_octets n = big_bytes 6 n

unfoldable pub sqn_number : List ℕ → ℕ
sqn_number sqn = big_number 6 sqn

-- AUTN: SQN XOR AK, the AMF field, MAC-A
abbrev pub autn : List ℕ → List ℕ → List ℕ → List ℕ → List ℕ → List ℕ
autn k opc rand sqn field = (sqn ⊕ f5 k opc rand) ++ field ++ f1 k opc rand sqn field

unfoldable pub vector : List ℕ → List ℕ → List ℕ → ℕ → List ℕ → Vector
vector k opc rand n field = record {
  sqn = n;
  rand = rand;
  autn = autn k opc rand (sqn_octets n) field;
  res = f2 k opc rand;
  ck = f3 k opc rand;
  ik = f4 k opc rand;
  ak = f5 k opc rand;
}
