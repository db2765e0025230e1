-- How far octets meet their lines, one step after the other.
use Rattle.std.proofs.Common.{◌≡◌, ◌<◌, ◌≤◌, ◌+◌, ℕ, suc, true, false, List, [], ◌∷◌, length, drop, drop-cons, get_or, add-one, length-drop, arith, refl}
use Rattle.nas_elements.specs.Layout.{meets, met}
use Rattle.nas_elements.specs.declared.layout.Line.{Line}

-- no octets meet no lines
met_none : (before : ℕ) (lines : List Line) (octets : List ℕ) → length octets ≡ 0 → met before lines octets ≡ 0
met_none before [] octets h = refl
met_none before (line ∷ lines) [] h = refl
met_none before (line ∷ lines) (o ∷ octets) h = absurd (omega arith)

pub met_end : (before at : ℕ) (lines : List Line) (octets : List ℕ) → length octets ≤ at → met before (drop at lines) (drop at octets) ≡ 0
met_end before at lines octets h = met_none before (drop at lines) (drop at octets) (omega (arith, length-drop at octets))

-- the next octet doesn't meet its line, or meets it
pub met_not : (before at : ℕ) (lines : List Line) (octets : List ℕ) (any : Line) → at < length lines → at < length octets
    → meets (get_or lines at any) before (get_or octets at 0) ≡ false → met before (drop at lines) (drop at octets) ≡ 0
met_not before at lines octets any more some h = rw (drop-cons lines at any more, drop-cons octets at 0 some, h) refl

pub met_next : (before at : ℕ) (lines : List Line) (octets : List ℕ) (any : Line) → at < length lines → at < length octets
    → meets (get_or lines at any) before (get_or octets at 0) ≡ true
    → met before (drop at lines) (drop at octets) ≡ suc (met (get_or octets at 0) (drop (at + 1) lines) (drop (at + 1) octets))
met_next before at lines octets any more some h = rw (drop-cons lines at any more, drop-cons octets at 0 some, h, add-one) refl
