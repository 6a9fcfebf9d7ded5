use Rattle.switch_state.specs.Reports.{flow_removed}
use Rattle.machine_drafts.proofs.Placed.{known_based, known_changed, known_stands}
use Rattle.event_acts.proofs.removals.note_removal.Goals as goal

pub returns-clause-known : goal.returns-clause-known
returns-clause-known c =
    let r = c.index-switches-place.result in
    known_changed (flow_removed c.args.cookie) c.args.switches.now c.args.n c.flow_removed.new.self r c.requires
    c.in_ok-flow_removed.ensures.known

pub returns-clause-standing : goal.returns-clause-standing
returns-clause-standing c =
    let r = c.index-switches-place.result in
    known_stands (flow_removed c.args.cookie) c.args.switches.now c.args.n c.flow_removed.new.self r c.requires
    c.in_ok-flow_removed.ensures.known

pub returns-clause-bases : goal.returns-clause-bases
returns-clause-bases c =
    let r = c.index-switches-place.result in
    known_based (flow_removed c.args.cookie) c.args.switches.now c.args.n c.flow_removed.new.self r c.requires
    c.in_ok-flow_removed.ensures.known
