use Rattle.smf_core.proofs.FirstSessions.{new_sessions}
use Rattle.smf_core.proofs.smf.Smf.new.Goals as goal

pub invariant_of-result : goal.invariant_of-result
invariant_of-result c =
    new_sessions c.in_ok-values.field-0 c.config-inside.inside.0.0 c.config-inside.inside.0.1.0 c.config-inside.inside.0.1.1.0 _ c.in_ok-pools.pools c.in_ok-subscribers.subscribers.items c.in_ok-pools.ensures
    c.in_ok-subscribers.ensures c.stand.ensures
