-- The published vectors hold of the definition. Each is computed.
use Rattle.std.proofs.Common.{refl}
use Rattle.sha2.specs.Sha256.{first_words, schedule, rounds, compress, hash_after, digest_bytes, sha256}
use Rattle.key_chain.specs.Hmac.{hmac}
use Rattle.key_chain.specs.Published.{PublishedVectors}

pub published_vectors : PublishedVectors
unfolding first_words schedule rounds compress hash_after digest_bytes sha256 hmac
published_vectors = record { case_1 = refl; case_6 = refl }
