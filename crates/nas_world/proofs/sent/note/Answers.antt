use Rattle.std.proofs.lemmas.Result.{on_ok_weaker}
use Rattle.nas_world.proofs.Index.{one_more_says, plain_says}
use Rattle.nas_world.proofs.sent.note.Goals as goal

pub returns-in-None : goal.returns-in-None
returns-in-None c = λ log says. plain_says c.args.index.now c.args.send.now log c.in-None.is says

pub returns-in-Some : goal.returns-in-Some
returns-in-Some c =
    on_ok_weaker c.note_protected.result
    (λ notes log says.
    one_more_says c.args.index.now c.note_protected.new.index c.args.send.now c.in-Some.pass log c.in-Some.is notes says)
    c.note_protected.ensures
