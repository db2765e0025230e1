-- The first name was asked for, and the second then, or perhaps.
use Rattle.std.proofs.Common.{◌≡◌, true, [], ◌∷◌}
use Rattle.nas_cli.specs.Program.{asks, is_of_content}
use Rattle.nas_cli.specs.declared.plan.Stop.{Stop}
use Rattle.nas_cli.proofs.AskLaws.{asks_both, asks_second, if_err_always, on_ok_always}
use Rattle.nas_cli.proofs.PlanLaws.{planned_by, read_unrefused}
use Rattle.nas_cli.proofs.plan.read_run.Goals as goal

pub returns-in_err-script-clause-asked : goal.returns-in_err-script-clause-asked
returns-in_err-script-clause-asked g c = asks_second _ _ _ _ _ c.in_ok-config.ensures.asked_whole c.read-2.ensures.asked

pub returns-clause-asked : goal.returns-clause-asked
returns-clause-asked g c = asks_second _ _ _ _ _ c.in_ok-config.ensures.asked_whole c.read-2.ensures.asked

pub returns-clause-asked_both : goal.returns-clause-asked_both
returns-clause-asked_both g c =
    on_ok_always c.both.result (asks_both _ _ _ _ _ c.in_ok-config.ensures.asked_whole c.in_ok-script.ensures.asked_whole)

pub returns-clause-asked_both_err : goal.returns-clause-asked_both_err
returns-clause-asked_both_err g c =
    if_err_always
    (λ (stop : Stop). is_of_content stop ≡ true → g.F.Files.asked c.read-2.new.files ≡ asks (c.args.config.now ∷ c.args.script.now ∷ []) (g.F.Files.asked c.args.files.now))
    c.both.result
    (λ _ _. asks_both _ _ _ _ _ c.in_ok-config.ensures.asked_whole c.in_ok-script.ensures.asked_whole)

pub returns-clause-plan : goal.returns-clause-plan
returns-clause-plan g c =
    planned_by _ _ _ _ c.in_ok-config.config c.in_ok-script.script _ _ c.both.result
    c.in_ok-config.ensures.content c.as_slice.ensures.value c.as_slice-2.ensures.value
    c.in_ok-config.ensures.read c.in_ok-script.ensures.read c.both.ensures.plan

pub returns-clause-asked_one : goal.returns-clause-asked_one
returns-clause-asked_one g c = read_unrefused _ _ _ _ c.in_ok-config.ensures.read
