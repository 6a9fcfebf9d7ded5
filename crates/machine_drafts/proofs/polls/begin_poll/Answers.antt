use Rattle.std.proofs.Common.{◌∙◌, List, ap₂, ℕ}
use Rattle.std.specs.Prelude.{filter, map}
use Rattle.std.proofs.lemmas.Result.{on_ok_weaker}
use Rattle.waitings.specs.Waitings.{unwritten}
use Rattle.machine_drafts.specs.InsideSwitches.{is_up_among}
use Rattle.machine_drafts.specs.Outcomes.{switches_in}
use Rattle.machine_drafts.specs.SwitchDrafts.{SwitchDraftOf}
use Rattle.machine_drafts.proofs.DraftFields.{polled}
use Rattle.machine_drafts.proofs.polls.begin_poll.Goals as goal

pub returns-clause-drafted : goal.returns-clause-drafted
returns-clause-drafted c =
    on_ok_weaker c.push.result
    (λ h. polled c.args.setup.now c.args.v c.args.purpose c.args.draft.now c.begin_waiting.new.draft c.in_ok-parts.parts
    c.push.new.self c.is_of_ports-ports.result c.in_ok-begin_waiting.ensures.drafted
    (c.in_ok-parts.ensures
    ∙ ap₂ (λ (xs : List SwitchDraftOf) (ns : List ℕ). map unwritten (filter (is_up_among (switches_in xs)) ns))
    c.as_slice.ensures c.switches_of.ensures)
    c.is_of_ports-ports.ensures h)
    c.push.ensures.pushed
