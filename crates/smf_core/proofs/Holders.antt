-- How many sessions have an address, behind a change of a cell.
use Rattle.std.proofs.Common.{◌≡◌, ◌<◌, ◌+◌, ◌-◌, refl, Bool, true, false, ℕ, zero, suc, List, [], ◌∷◌, length, Some, if◌then◌else◌, arith, replicate}
use Rattle.std.specs.Prelude.{slice_index_or, slice_set}
use Rattle.std.specs.Str.{bytes_eq}
use Rattle.std.proofs.lemmas.Bool.Decides.{nat_tests}
use Rattle.nas_base.specs.Values.{is_psi}
use Rattle.nas_elements.specs.declared.address.Address.{Address}
use Rattle.smf_core.specs.Sessions.{address_of, has_such, holders, holders_in}
use Rattle.smf_core.specs.State.{subscriber_in, vacant, with_cell}
use Rattle.smf_core.specs.declared.cell.Cell.{Cell}
use Rattle.smf_core.specs.declared.subscriber.Subscriber.{Subscriber}

nothing : (n : ℕ) → n < 0 → ⊥
nothing n within = omega arith

-- among the cells of a subscriber
abbrev at : (Address → Bool) → Cell → ℕ
at test c = has_such test (address_of c.held)

moved_in : (a b c d e : ℕ) → a + b ≡ c + d → (e + a) + b ≡ (e + c) + d
moved_in a b c d e same = omega (arith, same)

swapped_in : (a b rest : ℕ) → (a + rest) + b ≡ (b + rest) + a
swapped_in a b rest = omega arith

holders_set : (test : Address → Bool) (cs : List Cell) (i : ℕ) (c : Cell) → i < length cs
    → holders_in test (slice_set cs i c) + at test (slice_index_or cs i vacant) ≡ holders_in test cs + at test c
holders_set test [] i c within = absurd (nothing i within)
holders_set test (x ∷ cs) zero c within = swapped_in (at test c) (at test x) (holders_in test cs)
holders_set test (x ∷ cs) (suc i) c within =
    moved_in (holders_in test (slice_set cs i c)) (at test (slice_index_or cs i vacant)) (holders_in test cs)
    (at test c) (at test x)
    (holders_set test cs i c (omega (arith, within)))

-- among all cells
in_range : (psi : ℕ) → is_psi psi ≡ true → psi - 1 < 15
in_range psi right = grind (arith, nat_tests, right)

behind : (a b c d e : ℕ) → a + b ≡ c + d → (a + e) + b ≡ (c + e) + d
behind a b c d e same = omega (arith, same)

holders_with_at : (test : Address → Bool) (supi : List ℕ) (psi : ℕ) (c : Cell) (x s : Subscriber) (xs : List Subscriber) (is : Bool)
    → bytes_eq x.supi supi ≡ is → (if is then Some x else subscriber_in supi xs) ≡ Some s → length s.cells ≡ 15
    → is_psi psi ≡ true
    → (subscriber_in supi xs ≡ Some s
    → holders test (with_cell supi psi c xs) + at test (slice_index_or s.cells (psi - 1) vacant) ≡ holders test xs + at test c)
    → holders test (if is then record x { cells = slice_set x.cells (psi - 1) c } ∷ xs else x ∷ with_cell supi psi c xs)
    + at test (slice_index_or s.cells (psi - 1) vacant) ≡ holders test (x ∷ xs) + at test c
holders_with_at test supi psi c x s xs true e found whole right rest =
    let same : x ≡ s = cc in
    let within : psi - 1 < length s.cells = omega (arith, whole, in_range psi right) in
    rw same
    (behind (holders_in test (slice_set s.cells (psi - 1) c)) (at test (slice_index_or s.cells (psi - 1) vacant))
    (holders_in test s.cells) (at test c) (holders test xs) (holders_set test s.cells (psi - 1) c within))
holders_with_at test supi psi c x s xs false e found whole right rest =
    moved_in (holders test (with_cell supi psi c xs)) (at test (slice_index_or s.cells (psi - 1) vacant))
    (holders test xs) (at test c)
    (holders_in test x.cells) (rest found)

pub holders_with : (test : Address → Bool) (supi : List ℕ) (psi : ℕ) (c : Cell) (ss : List Subscriber) (s : Subscriber)
    → subscriber_in supi ss ≡ Some s → length s.cells ≡ 15 → is_psi psi ≡ true
    → holders test (with_cell supi psi c ss) + at test (slice_index_or s.cells (psi - 1) vacant) ≡ holders test ss + at test c
holders_with test supi psi c [] s found whole right = absurd (cc)
holders_with test supi psi c (x ∷ xs) s found whole right =
    holders_with_at test supi psi c x s xs (bytes_eq x.supi supi) refl found whole right
    (λ there. holders_with test supi psi c xs s there whole right)

-- before any event none has
pub none_unused : (test : Address → Bool) (n : ℕ) → holders_in test (replicate n vacant) ≡ 0
none_unused test zero = refl
none_unused test (suc n) = let rest = none_unused test n in omega (arith, rest)
