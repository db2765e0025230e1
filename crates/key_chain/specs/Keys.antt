-- The keys of an authentication, from CK and IK down to KAMF and the NAS keys (TS 33.501 Annex A), and RES*.
use Rattle.std.specs.Prelude.{ℕ, List, [], ◌∷◌, ◌++◌, drop, take}
use Rattle.nas_base.specs.Plmn.{PlmnIdentity}
use Rattle.key_chain.specs.Kdf.{kdf}
use Rattle.key_chain.specs.ServingNetwork.{ascii, snn}
use Rattle.key_chain.specs.declared.nas.NasKeys.{NasKeys}

-- the last 16 octets of 32: the 128 least significant bits
abbrev pub last_half : List ℕ → List ℕ
last_half octets = drop 16 octets

-- RES* (Annex A.4)
unfoldable pub res_star : List ℕ → List ℕ → PlmnIdentity → List ℕ → List ℕ → List ℕ
res_star ck ik plmn rand res = last_half (kdf (ck ++ ik) 0x6b (snn plmn ∷ rand ∷ res ∷ []))

-- KAUSF (Annex A.2), where hidden is SQN XOR AK
unfoldable pub kausf : List ℕ → List ℕ → PlmnIdentity → List ℕ → List ℕ
kausf ck ik plmn hidden = kdf (ck ++ ik) 0x6a (snn plmn ∷ hidden ∷ [])

-- KSEAF (Annex A.6)
unfoldable pub kseaf : List ℕ → PlmnIdentity → List ℕ
kseaf kausf plmn = kdf kausf 0x6c (snn plmn ∷ [])

-- KAMF (Annex A.7.0), from the digits of the IMSI as text and ABBA
unfoldable pub kamf : List ℕ → List ℕ → List ℕ → List ℕ
kamf kseaf supi abba = kdf kseaf 0x6d (ascii supi ∷ abba ∷ [])

-- the ABBA of this release (Annex A.7.1)
abbrev pub abba : List ℕ
abba = 0 ∷ 0 ∷ []

-- KAMF of a challenge, from the CK and IK that answer it: the first six octets of AUTN are SQN XOR AK (Annex A.2)
abbrev pub challenge_kamf : List ℕ → List ℕ → List ℕ → PlmnIdentity → List ℕ → List ℕ → List ℕ
challenge_kamf ck ik autn plmn supi abba = kamf (kseaf (kausf ck ik plmn (take 6 autn)) plmn) supi abba

-- an algorithm's key (Annex A.8), by its type distinguisher, N-NAS-enc-alg 1 or N-NAS-int-alg 2, and its identity
unfoldable pub nas_key : List ℕ → ℕ → ℕ → List ℕ
nas_key kamf distinguisher algorithm = last_half (kdf kamf 0x69 ((distinguisher ∷ []) ∷ (algorithm ∷ []) ∷ []))

-- KNASenc and KNASint
abbrev pub nas_keys : List ℕ → ℕ → ℕ → NasKeys
nas_keys kamf nea nia = record { enc = nas_key kamf 1 nea; int = nas_key kamf 2 nia }
