use Rattle.nas_layout.proofs.WrittenLaws.{written_are_found}
use Rattle.nas_layout.proofs.laws.written_are_found.Goals as goal

pub returns : goal.returns
returns c = written_are_found
