use Rattle.std.proofs.Common.{◌≡◌, ◌&&◌, ap, length, refl, sym, ◌∙◌}
use Rattle.nas_world.specs.Honest.{JudgedLog, all_honest, is_fair}
use Rattle.nas_world.proofs.Judged.{passed_down}
use Rattle.nas_world.proofs.honesty.Judged.pass_down.Goals as goal

pub invariant_of-self-2 : goal.invariant_of-self-2
invariant_of-self-2 c =
    let j : JudgedLog =
    record { up = c.self.inside.sent.up; down = c.self.inside.sent.down; passes = c.self.inside.passes.items; plmn = c.self.inside.plmn; cards = c.self.inside.cards.items } in
    let all : c.args.passing.before ≡ length j.up = c.requires.all ∙ ap (λ (k : JudgedLog). length k.up) (sym c.self.view_is) in
    let verdict : c.verdict-honest.result ≡ (all_honest j && is_fair c.args.passing j.up j) =
    rw (c.verdict-honest.ensures, c.in_ok-was_sent.ensures, ← c.self.view_is) refl in
    rw (c.in_ok-add_down.ensures.ok, c.push_reserved.ensures.items, c.reserve.ensures.items)
    (passed_down j c.args.passing c.self.inside.honest c.verdict-honest.result c.args.sends c.self.invariant c.requires.at all verdict)
