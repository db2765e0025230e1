-- A challenge at both ends.
use Rattle.std.proofs.Common.{◌≡◌, refl, ap, subst, ◌∙◌, ℕ, ◌<◌, ◌^◌, Bool, true, false, not, List, ◌++◌, length, Some, if◌then◌else◌, arith}
use Rattle.std.proofs.lemmas.List.{length-append}
use Rattle.aes_cmac.proofs.BlockLemmas.{length-xor_of, xor_of-xor_of}
use Rattle.aes_cmac.proofs.RoundLemmas.{length-aes}
use Rattle.aes_cmac.specs.Aes.{aes}
use Rattle.milenage.specs.Octets.{◌⊕◌, part}
use Rattle.milenage.specs.Milenage.{f1, f1_star, f5, f5_star, out, out1, out2, out5, temp}
use Rattle.milenage.specs.Autn.{autn, sqn_number, sqn_octets, vector}
use Rattle.milenage.specs.Checking.{auts, checked, field_in, fresh_answer, is_for_5g, mac_in, opened, sqn_in, zero_field}
use Rattle.milenage.specs.Laws.{AutsOpens, VectorIsTaken}
use Rattle.milenage.specs.declared.autn.AutnAnswer.{AutnAnswer}
use Rattle.milenage.specs.declared.autn.AutnAnswer.TheVariants.{Accepted, MacFailure, NotFiveG, SynchFailure}
use Rattle.milenage.proofs.OctetLemmas.{bytes_eq-self, length-part, length-sqn_octets, part_first, part_front, part_last, part_middle, sqn_number-sqn_octets}

-- a block under E, with OPc over it, is a block
length-covered : (k opc block : List ℕ) → length opc ≡ 16 → length (aes k block ⊕ opc) ≡ 16
length-covered k opc block h = omega (arith, h, length-xor_of (aes k block) opc, length-aes k block)

length-out1 : (k opc rand sqn field : List ℕ) → length opc ≡ 16 → length (out1 k opc rand sqn field) ≡ 16
length-out1 k opc rand sqn field h = length-covered k opc _ h

length-out : (r c : ℕ) (k opc temp : List ℕ) → length opc ≡ 16 → length (out r c k opc temp) ≡ 16
length-out r c k opc temp h = length-covered k opc _ h

pub length-f1 : (k opc rand sqn field : List ℕ) → length opc ≡ 16 → length (f1 k opc rand sqn field) ≡ 8
unfolding f1
length-f1 k opc rand sqn field h =
    length-part 0 8 (out1 k opc rand sqn field) (omega (arith, length-out1 k opc rand sqn field h))

pub length-f1_star : (k opc rand sqn field : List ℕ) → length opc ≡ 16 → length (f1_star k opc rand sqn field) ≡ 8
unfolding f1_star
length-f1_star k opc rand sqn field h =
    length-part 8 8 (out1 k opc rand sqn field) (omega (arith, length-out1 k opc rand sqn field h))

pub length-f5 : (k opc rand : List ℕ) → length opc ≡ 16 → length (f5 k opc rand) ≡ 6
unfolding f5
length-f5 k opc rand h =
    length-part 0 6 (out2 k opc rand) (omega (arith, length-out 0 1 k opc (temp k opc rand) h))

pub length-f5_star : (k opc rand : List ℕ) → length opc ≡ 16 → length (f5_star k opc rand) ≡ 6
unfolding f5_star
length-f5_star k opc rand h =
    length-part 0 6 (out5 k opc rand) (omega (arith, length-out 96 8 k opc (temp k opc rand) h))

unless : (b : Bool) (x y : AutnAnswer) → (if not b then x else y) ≡ (if b then y else x)
unless true x y = refl
unless false x y = refl

-- the answer, by the parts of AUTN
answer_by_parts : (k opc rand autn sqn field : List ℕ) (n sqn_ms : ℕ)
    → sqn_in k opc rand autn ≡ sqn → field_in autn ≡ field → mac_in autn ≡ f1 k opc rand sqn field → sqn_number sqn ≡ n
    → checked k opc rand autn sqn_ms ≡ (if is_for_5g field then fresh_answer k opc rand n sqn_ms else NotFiveG)
unfolding checked
answer_by_parts k opc rand autn sqn field n sqn_ms e_sqn e_field e_mac e_n =
    rw (e_sqn, e_field, e_mac, bytes_eq-self, e_n) (unless (is_for_5g field) NotFiveG (fresh_answer k opc rand n sqn_ms))

pub vector_is_taken : (k opc rand field : List ℕ) (n sqn_ms : ℕ) → length opc ≡ 16 → length field ≡ 2 → n < 2 ^ 48
    → VectorIsTaken k opc rand n field sqn_ms
unfolding vector
vector_is_taken k opc rand field n sqn_ms opc_16 field_2 small =
    let sqn = sqn_octets n in
    let ak = f5 k opc rand in
    let mac = f1 k opc rand sqn field in
    let hidden = sqn ⊕ ak in
    let sqn_6 = length-sqn_octets n in
    let ak_6 = length-f5 k opc rand opc_16 in
    let hidden_6 : length hidden ≡ 6 = omega (arith, length-xor_of sqn ak, sqn_6, ak_6) in
    let front_8 : length (hidden ++ field) ≡ 8 = omega (arith, length-append hidden field) in
    answer_by_parts k opc rand (autn k opc rand sqn field) sqn field n sqn_ms
    (ap (λ (x : List ℕ). x ⊕ ak) (part_front 6 hidden field mac hidden_6) ∙ xor_of-xor_of sqn ak (omega (arith, sqn_6, ak_6)))
    (part_middle 6 2 hidden field mac hidden_6 field_2)
    (part_last 8 8 (hidden ++ field) mac front_8 (length-f1 k opc rand sqn field opc_16))
    (sqn_number-sqn_octets n small)

-- what AUTS opens to, by its parts
opened_by_parts : (k opc rand auts sqn : List ℕ) (n : ℕ)
    → part 0 6 auts ⊕ f5_star k opc rand ≡ sqn → part 6 8 auts ≡ f1_star k opc rand sqn zero_field → sqn_number sqn ≡ n
    → opened k opc rand auts ≡ Some n
unfolding opened
opened_by_parts k opc rand auts sqn n e_sqn e_mac e_n = rw (e_sqn, e_mac, bytes_eq-self, e_n) refl

-- AUTS opens
own_opens : (k opc rand : List ℕ) (sqn_ms : ℕ) → length opc ≡ 16 → sqn_ms < 2 ^ 48
    → opened k opc rand (auts k opc rand sqn_ms) ≡ Some sqn_ms
unfolding auts
own_opens k opc rand sqn_ms opc_16 small =
    let sqn = sqn_octets sqn_ms in
    let ak = f5_star k opc rand in
    let mac = f1_star k opc rand sqn zero_field in
    let hidden = sqn ⊕ ak in
    let sqn_6 = length-sqn_octets sqn_ms in
    let ak_6 = length-f5_star k opc rand opc_16 in
    let hidden_6 : length hidden ≡ 6 = omega (arith, length-xor_of sqn ak, sqn_6, ak_6) in
    opened_by_parts k opc rand (hidden ++ mac) sqn sqn_ms
    (ap (λ (x : List ℕ). x ⊕ ak) (part_first 6 hidden mac hidden_6) ∙ xor_of-xor_of sqn ak (omega (arith, sqn_6, ak_6)))
    (part_last 6 8 hidden mac hidden_6 (length-f1_star k opc rand sqn zero_field opc_16))
    (sqn_number-sqn_octets sqn_ms small)

-- of the answers only one holds AUTS
only_own : (mac_right for_5g is_fresh : Bool) (n : ℕ) (res ck ik ak own answer : List ℕ)
    → (if not mac_right then MacFailure else (if not for_5g then NotFiveG else (if is_fresh then Accepted n res ck ik ak else SynchFailure own))) ≡ SynchFailure answer
    → own ≡ answer
only_own false for_5g is_fresh n res ck ik ak own answer e = cc
only_own true false is_fresh n res ck ik ak own answer e = cc
only_own true true true n res ck ik ak own answer e = cc
only_own true true false n res ck ik ak own answer e = cc

pub auts_opens : (k opc rand autn : List ℕ) (sqn_ms : ℕ) → length opc ≡ 16 → sqn_ms < 2 ^ 48 → AutsOpens k opc rand autn sqn_ms
unfolding checked
auts_opens k opc rand autn sqn_ms opc_16 small answer e =
    let same : auts k opc rand sqn_ms ≡ answer = only_own _ _ _ _ _ _ _ _ _ _ e in
    subst (λ (x : List ℕ). opened k opc rand x ≡ Some sqn_ms) same (own_opens k opc rand sqn_ms opc_16 small)
