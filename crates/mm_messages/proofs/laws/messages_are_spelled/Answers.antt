use Rattle.nas_layout.proofs.OctetRanges.{are_octets}
use Rattle.mm_messages.proofs.SpelledLaws.{read_spelled, spelled_found}
use Rattle.mm_messages.proofs.laws.messages_are_spelled.Goals as goal

pub returns-clause-found : goal.returns-clause-found
returns-clause-found c = spelled_found c.args.octets.now

pub returns-clause-only : goal.returns-clause-only
returns-clause-only c = read_spelled c.args.octets.now (are_octets c.args.octets.now c.type_inv.octets)
