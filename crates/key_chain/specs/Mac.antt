-- An HMAC whose text comes in pieces.
use Rattle.std.specs.Prelude.{◌≡◌, ℕ, List, ◌++◌}
use Rattle.sha2.specs.Hashers.{Holds256}
use Rattle.key_chain.specs.Hmac.{ipad, key_block, masked}
use Rattle.key_chain.specs.declared.hmac.Mac.{Mac}

-- it was begun with this key, and this text was fed to it
abbrev pub HoldsText : Mac → List ℕ → List ℕ → Type 0
HoldsText mac key text = (mac.block ≡ key_block key) × Holds256 mac.inner (masked ipad (key_block key) ++ text)
