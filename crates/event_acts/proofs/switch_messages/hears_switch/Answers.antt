use Rattle.std.proofs.Common.{◌∙◌, sym, ap}
use Rattle.event_acts.proofs.Frames.{frames_act}
use Rattle.event_acts.specs.HeardActs.{acts_on}
use Rattle.machine_drafts.specs.Outcomes.{draft_in}
use Rattle.event_acts.specs.declared.heard.Heard.{Heard}
use Rattle.event_acts.proofs.switch_messages.hears_switch.Goals as goal

pub returns-clause-drafted : goal.returns-clause-drafted
returns-clause-drafted c frame tells =
    let d = draft_in c.args.draft.now in
    c.in_ok-come_from.ensures.drafted
    ∙ (ap (λ (h : Heard). acts_on c.args.setup.now c.args.n h d) tells
    ∙ sym (frames_act c.args.setup.now c.args.n frame d))
