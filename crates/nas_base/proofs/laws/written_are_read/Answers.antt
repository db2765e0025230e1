use Rattle.nas_base.proofs.WrittenLaws.{written_are_read}
use Rattle.nas_base.proofs.laws.written_are_read.Goals as goal

pub returns : goal.returns
returns c = written_are_read
