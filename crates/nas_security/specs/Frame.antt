-- The frame of a protected message (TS 24.501 clause 9.1.1, TS 33.501 clause 6.4).
use Rattle.std.specs.Prelude.{ℕ, Bool, ◌&&◌, ◌||◌, ◌==◌, List, ◌∷◌, ◌++◌, if◌then◌else◌}
use Rattle.aes_cmac.specs.Nas.{nea2, nia2}
use Rattle.nas_base.specs.declared.count.Dir.{Dir}
use Rattle.nas_security.specs.Contexts.{SecurityContext}
use Rattle.nas_security.specs.Counts.{low_octet}

-- whether a message is ciphered: by the security header type (TS 24.501 clause 9.3), and by the context's algorithm
abbrev pub is_ciphered : SecurityContext → ℕ → Bool
is_ciphered context header = (header == 2 || header == 4) && context.algs.nea == 2

-- a message as it is sent
unfoldable pub as_sent : SecurityContext → Dir → ℕ → ℕ → List ℕ → List ℕ
as_sent context dir count header plain = if is_ciphered context header then nea2 context.keys.enc count dir plain else plain

-- the sequence number, and the message as it is sent: what the MAC covers
abbrev pub covered : SecurityContext → Dir → ℕ → ℕ → List ℕ → List ℕ
covered context dir count header plain = low_octet count ∷ as_sent context dir count header plain

-- the extended protocol discriminator of 5GS mobility management, the header type, the MAC, and what it covers
unfoldable pub frame : SecurityContext → Dir → ℕ → ℕ → List ℕ → List ℕ
frame context dir count header plain =
    let octets : List ℕ = covered context dir count header plain in
    0x7e ∷ header ∷ nia2 context.keys.int count dir octets ++ octets
