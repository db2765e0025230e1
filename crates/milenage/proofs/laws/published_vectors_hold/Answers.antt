use Rattle.milenage.proofs.Vectors.{published_vectors}
use Rattle.milenage.proofs.laws.published_vectors_hold.Goals as goal

pub returns : goal.returns
returns c = published_vectors
