use Rattle.nas_base.proofs.KindLaws.{kinds_have_types}
use Rattle.nas_base.proofs.laws.kinds_have_types.Goals as goal

pub returns : goal.returns
returns c = kinds_have_types
