-- MILENAGE (TS 35.206 clause 4.1), in its letters: E is AES-128 under K, and OPc is OP XOR E(OP).
use Rattle.std.specs.Prelude.{ℕ, List, [], ◌∷◌, ◌++◌, replicate}
use Rattle.aes_cmac.specs.Aes.{aes}
use Rattle.milenage.specs.Octets.{◌⊕◌, part, rot}
use Rattle.milenage.specs.declared.outputs.F2345.{F2345}

unfoldable pub opc_of : List ℕ → List ℕ → List ℕ
opc_of k op = op ⊕ aes k op

-- a constant c: 15 octets of zeros, and this one
abbrev pub constant : ℕ → List ℕ
constant c = replicate 15 0 ++ c ∷ []

-- TEMP = E(RAND XOR OPc)
abbrev pub temp : List ℕ → List ℕ → List ℕ → List ℕ
temp k opc rand = aes k (rand ⊕ opc)

-- IN1: SQN and the AMF field, twice
abbrev pub in1 : List ℕ → List ℕ → List ℕ
in1 sqn field = (sqn ++ field) ++ (sqn ++ field)

-- OUT1 = E(TEMP XOR rot(IN1 XOR OPc, r1) XOR c1) XOR OPc, with r1 = 64 and c1 = 0
abbrev pub out1 : List ℕ → List ℕ → List ℕ → List ℕ → List ℕ → List ℕ
out1 k opc rand sqn field = aes k (temp k opc rand ⊕ rot (in1 sqn field ⊕ opc) 64 ⊕ constant 0) ⊕ opc

-- E(rot(TEMP XOR OPc, r) XOR c) XOR OPc: OUT2 has r2 = 0 and c2 = 1, OUT3 has 32 and 2, OUT4 has 64 and 4, OUT5 has 96 and 8
abbrev pub out : ℕ → ℕ → List ℕ → List ℕ → List ℕ → List ℕ
out r c k opc temp = aes k (rot (temp ⊕ opc) r ⊕ constant c) ⊕ opc

abbrev pub out2 : List ℕ → List ℕ → List ℕ → List ℕ
out2 k opc rand = out 0 1 k opc (temp k opc rand)

abbrev pub out3 : List ℕ → List ℕ → List ℕ → List ℕ
out3 k opc rand = out 32 2 k opc (temp k opc rand)

abbrev pub out4 : List ℕ → List ℕ → List ℕ → List ℕ
out4 k opc rand = out 64 4 k opc (temp k opc rand)

abbrev pub out5 : List ℕ → List ℕ → List ℕ → List ℕ
out5 k opc rand = out 96 8 k opc (temp k opc rand)

-- MAC-A and MAC-S: bits 0 to 63 and 64 to 127 of OUT1
unfoldable pub f1 : List ℕ → List ℕ → List ℕ → List ℕ → List ℕ → List ℕ
f1 k opc rand sqn field = part 0 8 (out1 k opc rand sqn field)

unfoldable pub f1_star : List ℕ → List ℕ → List ℕ → List ℕ → List ℕ → List ℕ
f1_star k opc rand sqn field = part 8 8 (out1 k opc rand sqn field)

-- RES: bits 64 to 127 of OUT2
unfoldable pub f2 : List ℕ → List ℕ → List ℕ → List ℕ
f2 k opc rand = part 8 8 (out2 k opc rand)

-- CK and IK
unfoldable pub f3 : List ℕ → List ℕ → List ℕ → List ℕ
f3 k opc rand = out3 k opc rand

unfoldable pub f4 : List ℕ → List ℕ → List ℕ → List ℕ
f4 k opc rand = out4 k opc rand

-- AK: bits 0 to 47 of OUT2, and for resynchronisation of OUT5
unfoldable pub f5 : List ℕ → List ℕ → List ℕ → List ℕ
f5 k opc rand = part 0 6 (out2 k opc rand)

unfoldable pub f5_star : List ℕ → List ℕ → List ℕ → List ℕ
f5_star k opc rand = part 0 6 (out5 k opc rand)

-- the four together
abbrev pub f2345 : List ℕ → List ℕ → List ℕ → F2345
f2345 k opc rand = record { res = f2 k opc rand; ck = f3 k opc rand; ik = f4 k opc rand; ak = f5 k opc rand }
