-- Links by their numbers, and one that is put in the place of another.
use Rattle.std.proofs.Common.{◌≡◌, refl, sym, ap, ◌∙◌, subst, ℕ, ◌==◌, Bool, true, false, List, [], ◌∷◌, Option, Some, None, if◌then◌else◌, arith}
use Rattle.std.specs.Prelude.{option_map}
use Rattle.std.proofs.lemmas.Bool.Decides.{nat_tests}
use Rattle.amf_core.specs.Keyed.{found, put_in}
use Rattle.nas_base.specs.Branches.{per}
use Rattle.amf_core.specs.State.{has_number, is_same_link, link_in, unused}
use Rattle.amf_core.specs.declared.link.Link.{Link}

-- numbers that are tested equal
pub same_number : (m n : ℕ) → (m == n) ≡ true → m ≡ n
same_number m n e = grind (arith, nat_tests)

other_number : (m n k : ℕ) → (m == k) ≡ false → n ≡ k → (n == m) ≡ false
other_number m n k e same = grind (arith, nat_tests)

own_number : (m n k : ℕ) → (m == k) ≡ true → n ≡ k → (n == m) ≡ true
own_number m n k e same = grind (arith, nat_tests)

-- a link in the place of that of its number
abbrev put_one : Link → Link → Link
put_one l x = if is_same_link l x then l else x

one_is : (l x : Link) (is : Bool) → (x.number == l.number) ≡ is → put_one l x ≡ (if is then l else x)
one_is l x true e = rw e refl
one_is l x false e = rw e refl

put_own : (l x : Link) → (x.number == l.number) ≡ true → put_one l x ≡ l
put_own l x e = one_is l x true e

put_other : (l x : Link) → (x.number == l.number) ≡ false → put_one l x ≡ x
put_other l x e = one_is l x false e

-- a link that is put keeps its number
keeps_number : (l x : Link) (is : Bool) → (x.number == l.number) ≡ is → (if is then l else x).number ≡ x.number
keeps_number l x true e = sym (same_number x.number l.number e)
keeps_number l x false e = refl

number_stays : (l x : Link) → (put_one l x).number ≡ x.number
number_stays l x = keeps_number l x (x.number == l.number) refl

-- what is found of a number is what was found of it before, as it is by now
first_put : (l x : Link) (number : ℕ) (links : List Link) (is : Bool)
    → found (has_number number) (put_in is_same_link l links) ≡ option_map (put_one l) (found (has_number number) links)
    → (if is then Some (put_one l x) else found (has_number number) (put_in is_same_link l links))
    ≡ option_map (put_one l) (if is then Some x else found (has_number number) links)
first_put l x number links true h = refl
first_put l x number links false h = h

found_put : (l : Link) (number : ℕ) (links : List Link)
    → found (has_number number) (put_in is_same_link l links) ≡ option_map (put_one l) (found (has_number number) links)
found_put l number [] = refl
found_put l number (x ∷ links) =
    subst
    (λ (y : ℕ). (if y == number then Some (put_one l x) else found (has_number number) (put_in is_same_link l links))
    ≡ option_map (put_one l) (if x.number == number then Some x else found (has_number number) links))
    (sym (number_stays l x))
    (first_put l x number links (x.number == number) (found_put l number links))

-- what is found of a number has it
first_has : (number : ℕ) (links : List Link) (x s : Link) (is : Bool) → (x.number == number) ≡ is
    → (found (has_number number) links ≡ Some s → s.number ≡ number)
    → (if is then Some x else found (has_number number) links) ≡ Some s → s.number ≡ number
first_has number links x s true same rest e =
    let one : x ≡ s = cc in ap (λ (y : Link). y.number) (sym one) ∙ same_number x.number number same
first_has number links x s false same rest e = rest e

found_has : (number : ℕ) (links : List Link) (s : Link) → found (has_number number) links ≡ Some s → s.number ≡ number
found_has number [] s e = absurd (cc)
found_has number (x ∷ links) s e = first_has number links x s (x.number == number) refl (found_has number links s) e

-- the link of a number has it
link_has : (number : ℕ) (o : Option Link) → ((s : Link) → o ≡ Some s → s.number ≡ number)
    → (per o (unused number) (λ (l : Link). l)).number ≡ number
unfolding per
link_has number None has = refl
link_has number (Some l) has = has l refl

pub link_number : (number : ℕ) (links : List Link) → (link_in number links).number ≡ number
link_number number links = link_has number (found (has_number number) links) (found_has number links)

-- another link that is put leaves it
mapped_other : (l : Link) (number : ℕ) (x : Option Link) → (l.number == number) ≡ false
    → ((y : Link) → x ≡ Some y → y.number ≡ number) → option_map (put_one l) x ≡ x
mapped_other l number None e has = refl
mapped_other l number (Some y) e has =
    ap (λ (z : Link). Some z) (put_other l y (other_number l.number y.number number e (has y refl)))

pub other_link : (l : Link) (number : ℕ) (links : List Link) → (l.number == number) ≡ false
    → link_in number (put_in is_same_link l links) ≡ link_in number links
other_link l number links e =
    ap (λ (o : Option Link). per o (unused number) (λ (y : Link). y))
    (found_put l number links ∙ mapped_other l number (found (has_number number) links) e (found_has number links))

-- the mark of a link that is put: where it isn't kept, none is set
mapped_own : (l : Link) (number : ℕ) (x : Option Link) → (l.number == number) ≡ true
    → ((y : Link) → x ≡ Some y → y.number ≡ number) → option_map (put_one l) x ≡ option_map (λ (y : Link). l) x
mapped_own l number None e has = refl
mapped_own l number (Some y) e has =
    ap (λ (z : Link). Some z) (put_own l y (own_number l.number y.number number e (has y refl)))

own_link : (l : Link) (number : ℕ) (links : List Link) → (l.number == number) ≡ true
    → link_in number (put_in is_same_link l links) ≡ per (option_map (λ (y : Link). l) (found (has_number number) links)) (unused number) (λ (y : Link). y)
own_link l number links e =
    ap (λ (o : Option Link). per o (unused number) (λ (y : Link). y))
    (found_put l number links ∙ mapped_own l number (found (has_number number) links) e (found_has number links))

own_mark : (number : ℕ) (l : Link) (x : Option Link) → l.secure ≡ false
    → (per (option_map (λ (y : Link). l) x) (unused number) (λ (y : Link). y)).secure ≡ false
unfolding per
own_mark number l None e = refl
own_mark number l (Some y) e = e

pub unset_link : (l : Link) (number : ℕ) (links : List Link) → (l.number == number) ≡ true → l.secure ≡ false
    → (link_in number (put_in is_same_link l links)).secure ≡ false
unset_link l number links e unset =
    ap (λ (y : Link). y.secure) (own_link l number links e) ∙ own_mark number l (found (has_number number) links) unset

-- a link whose mark is unset keeps it unset where the mark of what is put isn't set
unset_either : (l : Link) (number : ℕ) (links : List Link) (own : Bool) → (l.number == number) ≡ own
    → (own ≡ true → l.secure ≡ false) → (link_in number links).secure ≡ false
    → (link_in number (put_in is_same_link l links)).secure ≡ false
unset_either l number links true e own h = unset_link l number links e (own refl)
unset_either l number links false e own h = ap (λ (y : Link). y.secure) (other_link l number links e) ∙ h

pub stays_unset : (l : Link) (number : ℕ) (links : List Link) → l.secure ≡ (link_in l.number links).secure
    → (link_in number links).secure ≡ false → (link_in number (put_in is_same_link l links)).secure ≡ false
stays_unset l number links same h =
    unset_either l number links (l.number == number) refl
    (λ own. same ∙ ap (λ (n : ℕ). (link_in n links).secure) (same_number l.number number own) ∙ h)
    h

-- whom a link that is put last passed or challenged
own_supi : (number : ℕ) (l : Link) (x : Option Link) (supi : List ℕ)
    → (per (option_map (λ (y : Link). l) x) (unused number) (λ (y : Link). y)).supi ≡ Some supi → l.supi ≡ Some supi
unfolding per
own_supi number l None supi e = absurd (cc)
own_supi number l (Some y) supi e = e

pub put_supi : (l : Link) (number : ℕ) (links : List Link) (supi : List ℕ) → (l.number == number) ≡ true
    → (link_in number (put_in is_same_link l links)).supi ≡ Some supi → l.supi ≡ Some supi
put_supi l number links supi own e =
    own_supi number l (found (has_number number) links) supi (sym (ap (λ (y : Link). y.supi) (own_link l number links own)) ∙ e)

tested_same : (m n : ℕ) → m ≡ n → (m == n) ≡ true
tested_same m n e = grind (arith, nat_tests)

-- the link of a number is tested to have it
pub link_is_own : (number : ℕ) (links : List Link) → ((link_in number links).number == number) ≡ true
link_is_own number links = tested_same (link_in number links).number number (link_number number links)
