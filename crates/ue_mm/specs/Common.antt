-- What a handset's 5GMM has in every state (TS 24.501 clause 5.1.3.2.1).
use Rattle.std.specs.Prelude.{ℕ, Bool, Option}
use Rattle.nas_elements.specs.declared.guti.Guti.{Guti}
use Rattle.nas_security.specs.Contexts.{SecurityContext}
use Rattle.ue_mm.specs.Config.{HandsetValues}
use Rattle.ue_mm.specs.declared.common.Pending.{Pending}
use Rattle.ue_mm.specs.declared.common.Stored.{Stored}

-- what it has in every state: the connection and whether messages were exchanged securely on it, the 5G-GUTI, the current
-- context, the key of a challenge that no command has taken into use, the challenge that was accepted last with its answer, and
-- SQN_MS, the greatest sequence number that was accepted
pub record Common : Type 0 where
  pub config : HandsetValues
  pub connected : Bool
  pub secure : Bool
  pub guti : Option Guti
  pub current : Option SecurityContext
  pub pending : Option Pending
  pub stored : Option Stored
  pub sqn : ℕ
