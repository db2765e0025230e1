use Rattle.key_chain.proofs.Vectors.{published_vectors}
use Rattle.key_chain.proofs.laws.published_vectors_hold.Goals as goal

pub returns : goal.returns
returns c = published_vectors
