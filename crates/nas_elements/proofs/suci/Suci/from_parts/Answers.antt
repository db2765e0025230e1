use Rattle.std.proofs.Common.{◌≡◌, ◌-◌, ℕ, true, List, length, take, drop, Option, Some, ap, sym, ◌∙◌, arith, refl}
use Rattle.std.proofs.lemmas.List.{take_rest}
use Rattle.nas_base.specs.Digits.{are_digits, digits_between}
use Rattle.nas_elements.specs.Packed.{halves_of, unfilled}
use Rattle.nas_elements.specs.Suci.{is_suci, msin_in, routing_in}
use Rattle.nas_elements.proofs.suci.Suci.from_parts.Goals as goal

-- the octets from the ninth on, as the code takes them
ninth : (octets : List ℕ) (msin : Option (List ℕ)) → msin ≡ msin_in (take (length octets - 8) (drop 8 octets)) → msin_in (drop 8 octets) ≡ msin
ninth octets msin e = ap msin_in (sym (take_rest octets 8)) ∙ sym e

-- digits that were read are so many
read_are : (low high : ℕ) (ds read : List ℕ) → digits_between low high ds ≡ Some read → are_digits low high read ≡ true
read_are low high ds read h = grind (arith, h)

parts_are : (octets routing msin : List ℕ) → routing_in (take 2 (drop 4 octets)) ≡ Some routing → msin_in (drop 8 octets) ≡ Some msin → is_suci routing msin ≡ true
parts_are octets routing msin r m = rw (
  read_are 1 4 (unfilled (unfilled (unfilled (halves_of (take 2 (drop 4 octets)))))) routing r,
  read_are 1 10 (unfilled (halves_of (drop 8 octets))) msin m,
) refl

pub invariant_of-result : goal.invariant_of-result
invariant_of-result c = parts_are c.args.octets.now c.in_ok-routing.routing c.in_ok-msin.msin
    (sym c.routing_of.ensures ∙ c.in_ok-routing.was) (ninth c.args.octets.now _ c.msin_of.ensures ∙ c.in_ok-msin.was)

pub returns-in_err-plmn : goal.returns-in_err-plmn
returns-in_err-plmn c = rw (sym c.plmn_of.ensures ∙ c.in_err-plmn.was) c.from_residual.ensures

pub returns-in_err-routing : goal.returns-in_err-routing
returns-in_err-routing c = rw (sym c.plmn_of.ensures ∙ c.in_ok-plmn.was, sym c.routing_of.ensures ∙ c.in_err-routing.was) c.from_residual-in_err-routing.ensures

pub returns-in_err-msin : goal.returns-in_err-msin
returns-in_err-msin c =
    rw (sym c.plmn_of.ensures ∙ c.in_ok-plmn.was, sym c.routing_of.ensures ∙ c.in_ok-routing.was, ninth c.args.octets.now _ c.msin_of.ensures ∙ c.in_err-msin.was)
    c.from_residual-in_err-msin.ensures

pub returns : goal.returns
returns c =
    rw (sym c.plmn_of.ensures ∙ c.in_ok-plmn.was, sym c.routing_of.ensures ∙ c.in_ok-routing.was, ninth c.args.octets.now _ c.msin_of.ensures ∙ c.in_ok-msin.was)
    refl
