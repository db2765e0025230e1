use Rattle.smf_core.proofs.StepSessions.{followed_sessions, sessions_stay}
use Rattle.smf_core.specs.Step.{step_of}
use Rattle.smf_core.proofs.stepping.follow.Goals as goal

pub returns-clause-sessions : goal.returns-clause-sessions
returns-clause-sessions c =
    followed_sessions c.args.smf.now c.followed.result
    (step_of c.args.smf.now c.args.now c.args.supi.now c.args.input.now) c.followed.ensures
    (sessions_stay c.args.smf.now c.args.now c.args.supi.now c.args.input.now c.stand.ensures c.requires c.names_identities.ensures)
