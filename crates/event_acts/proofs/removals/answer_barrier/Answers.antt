use Rattle.std.proofs.Common.{◌∙◌}
use Rattle.switch_state.specs.Reports.{barrier_reply}
use Rattle.machine_drafts.proofs.Placed.{known_based, known_changed, known_stands}
use Rattle.event_acts.proofs.Replies.{none_stays}
use Rattle.event_acts.proofs.removals.answer_barrier.Goals as goal

pub returns-clause-known : goal.returns-clause-known
returns-clause-known c =
    let r = c.index-switches-place.result in
    known_changed (barrier_reply c.args.xid) c.args.switches.now c.args.n c.barrier_reply.new.self r c.requires
    c.in_ok-number.ensures.known

pub returns-clause-standing : goal.returns-clause-standing
returns-clause-standing c =
    let r = c.index-switches-place.result in
    known_stands (barrier_reply c.args.xid) c.args.switches.now c.args.n c.barrier_reply.new.self r c.requires
    c.in_ok-number.ensures.known

pub returns-clause-bases : goal.returns-clause-bases
returns-clause-bases c =
    let r = c.index-switches-place.result in
    known_based (barrier_reply c.args.xid) c.args.switches.now c.args.n c.barrier_reply.new.self r c.requires
    c.in_ok-number.ensures.known

pub returns-clause-none : goal.returns-clause-none
returns-clause-none c none =
    let r = c.index-switches-place.result in
    known_changed (barrier_reply c.args.xid) c.args.switches.now c.args.n c.barrier_reply.new.self r c.requires
    c.in_ok-number.ensures.known
    ∙ none_stays c.args.switches.now c.args.n c.args.xid r c.in_ok-number.number c.requires
    c.in_ok-number.ensures.number none
