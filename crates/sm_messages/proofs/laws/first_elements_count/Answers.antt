use Rattle.sm_messages.proofs.FirstElementsLaws.{first_elements}
use Rattle.sm_messages.proofs.laws.first_elements_count.Goals as goal

pub returns : goal.returns
returns c = first_elements c.args.octets.now
