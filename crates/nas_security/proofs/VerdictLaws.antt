-- Where each verdict comes.
use Rattle.std.proofs.Common.{◌≡◌, ◌∙◌, ℕ, ◌^◌, ◌<◌, ◌≤◌, List, [], false, arith}
use Rattle.std.proofs.lemmas.Grind.{common_steps}
use Rattle.std.proofs.lemmas.Slice.Eq.{bytes_eq-Decides}
use Rattle.std.specs.Str.{bytes_eq}
use Rattle.nas_base.specs.declared.count.Dir.{Dir}
use Rattle.nas_security.specs.Contexts.{SecurityContext}
use Rattle.nas_security.specs.Counts.{next_count}
use Rattle.nas_security.specs.Laws.{AreJudged, IsFormed, count_of, wanted}
use Rattle.nas_security.specs.Passing.{estimated, judged, mac_in}
use Rattle.nas_security.specs.declared.verdicts.Verdict.TheVariants.{Spent, Failed}

-- what has a frame's form is judged by its count and its MAC
by_count : (context : SecurityContext) (dir : Dir) (octets : List ℕ) → IsFormed octets → judged context dir octets ≡ estimated context dir octets
unfolding judged
by_count context dir octets form = grind (arith, common_steps, form.protocol, form.protected, form.size)

spent : (context : SecurityContext) (dir : Dir) (octets : List ℕ) → 2 ^ 24 ≤ count_of context dir octets
    → estimated context dir octets ≡ (Spent (next_count context dir), [])
unfolding estimated
spent context dir octets h = grind (arith, common_steps)

not_equal : (xs ys : List ℕ) → ¬ (xs ≡ ys) → bytes_eq xs ys ≡ false
not_equal xs ys h = grind (arith, common_steps, bytes_eq-Decides xs ys)

failed : (context : SecurityContext) (dir : Dir) (octets : List ℕ) → count_of context dir octets < 2 ^ 24
    → bytes_eq (wanted context dir octets) (mac_in octets) ≡ false
    → estimated context dir octets ≡ (Failed (wanted context dir octets) (mac_in octets), [])
unfolding estimated
failed context dir octets h e = grind (arith, common_steps)

pub are_judged : (context : SecurityContext) (dir : Dir) (octets : List ℕ) → AreJudged context dir octets
unfolding judged
are_judged context dir octets = record {
  plain = λ some first type. grind (arith, common_steps);
  other_first = λ some first. grind (arith, common_steps);
  other_type = λ some first type. grind (arith, common_steps);
  short = λ few first type. grind (arith, common_steps);
  long = λ many first type. grind (arith, common_steps);
  spent = λ form h. by_count context dir octets form ∙ spent context dir octets h;
  failed = λ form within h.
      by_count context dir octets form
      ∙ failed context dir octets within (not_equal (wanted context dir octets) (mac_in octets) h);
}
