-- What holds of digits: the last of them, and two lists one behind the other.
use Rattle.std.proofs.Common.{◌≡◌, ℕ, zero, suc, ◌<◌, true, List, [], ◌∷◌, length, drop, is_some, arith}
use Rattle.std.proofs.lemmas.Bool.Decides.{nat_tests}
use Rattle.std.proofs.lemmas.Grind.{common_steps}
use Rattle.nas_base.specs.Digits.{all_digits, are_digits, digits_from}
use Rattle.nas_base.specs.Plmn.{PlmnIdentity, is_plmn, plmn_digits}
use Rattle.nas_base.specs.Supi.{msin_of}

pub all_digits-drop : (count : ℕ) (ds : List ℕ) → all_digits ds ≡ true → all_digits (drop count ds) ≡ true
all_digits-drop zero ds h = h
all_digits-drop (suc count) [] h = h
all_digits-drop (suc count) (d ∷ ds) h = all_digits-drop count ds (grind (arith, nat_tests))

pub digits_behind : (count : ℕ) (ds : List ℕ) → count < length ds → are_digits 1 15 ds ≡ true → is_some (digits_from (drop count ds)) ≡ true
digits_behind count ds some h = grind (arith, nat_tests, common_steps, all_digits-drop)

-- behind the 5 or 6 digits of a network an IMSI has 9 or 10 more
pub digits_of_msin : (p : PlmnIdentity) (supi : List ℕ) → is_plmn p.mcc p.mnc ≡ true → are_digits 15 15 supi ≡ true → are_digits 9 10 (msin_of p supi) ≡ true
digits_of_msin p supi network imsi =
    grind (arith, nat_tests, common_steps, all_digits-drop (length (plmn_digits p)) supi)
