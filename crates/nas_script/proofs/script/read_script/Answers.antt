use Rattle.nas_script.proofs.ScriptLaws.{texts_of_script}
use Rattle.nas_script.proofs.script.read_script.Goals as goal

pub returns-clause-texts : goal.returns-clause-texts
returns-clause-texts c = texts_of_script c.args.octets.now c.in_ok-items.items.items c.in_ok-items.ensures.value
