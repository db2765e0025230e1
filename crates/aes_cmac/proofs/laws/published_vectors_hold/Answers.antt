use Rattle.aes_cmac.proofs.Vectors.{published_vectors}
use Rattle.aes_cmac.proofs.laws.published_vectors_hold.Goals as goal

pub returns : goal.returns
returns c = published_vectors
