-- Want of memory before anything was written.
use Rattle.std.proofs.Common.{ℕ, List, Option, Some, None, arith, inr, refl}
use Rattle.nas_base.proofs.SinkLaws.{front_nothing}
use Rattle.nas_cli.specs.Files.{Content}
use Rattle.nas_cli.specs.Program.{Answer, Says, SaysRun, answer_to, planned}

pub says_starved : (known : Option (List ℕ)) (count : ℕ) (answer : Answer) → Says known known count count answer 8
says_starved known count answer =
    inr (inr (record { answered = refl; front = front_nothing known answer.text; count = omega arith }))

pub says_run_starved : (content : Option Content) (names : List ℕ × List ℕ) (before now : ℕ) (known : Option (List ℕ)) (count : ℕ) →
    SaysRun content names before now (λ answer. Says known known count count answer 8)
says_run_starved None names before now known count = tt
says_run_starved (Some files) names before now known count = inr (says_starved known count (answer_to (planned (files names.0) (files names.1))))
