use Rattle.std.proofs.lemmas.Result.{IfOk-weaker}
use Rattle.event_composes.proofs.Present.{present_setting}
use Rattle.event_composes.proofs.composed.present.Goals as goal

pub returns-clause-setting : goal.returns-clause-setting
returns-clause-setting c =
    IfOk-weaker c.fitting-setting.result _ _
    (λ setting is. present_setting c.args.setup.now c.args.held.now c.in_ok-outcome.outcome
    c.as_slice-members.result.now c.as_slice-switches.result.now setting c.in_ok-outcome.ensures.draft
    c.as_slice-members.ensures c.as_slice-switches.ensures is)
    c.fitting-setting.ensures.setting
