use Rattle.switch_state.specs.Reports.{port_status}
use Rattle.machine_drafts.proofs.Placed.{known_based, known_changed, known_stands}
use Rattle.event_acts.proofs.removals.note_port.Goals as goal

pub returns-clause-known : goal.returns-clause-known
returns-clause-known c =
    let r = c.index-switches-place.result in
    let f = port_status c.args.reason c.args.port.now in
    known_changed f c.args.switches.now c.args.n c.port_status.new.self r c.requires
    c.in_ok-port_status.ensures

pub returns-clause-standing : goal.returns-clause-standing
returns-clause-standing c =
    let r = c.index-switches-place.result in
    let f = port_status c.args.reason c.args.port.now in
    known_stands f c.args.switches.now c.args.n c.port_status.new.self r c.requires
    c.in_ok-port_status.ensures

pub returns-clause-bases : goal.returns-clause-bases
returns-clause-bases c =
    let r = c.index-switches-place.result in
    let f = port_status c.args.reason c.args.port.now in
    known_based f c.args.switches.now c.args.n c.port_status.new.self r c.requires
    c.in_ok-port_status.ensures
