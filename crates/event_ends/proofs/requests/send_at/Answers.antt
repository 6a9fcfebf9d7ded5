use Rattle.switch_state.specs.Messages.{packet_out}
use Rattle.machine_drafts.proofs.Placed.{known_based, known_changed, known_stands}
use Rattle.machine_drafts.specs.InsideRequests.{known_sent}
use Rattle.event_ends.proofs.requests.send_at.Goals as goal

pub returns-clause-known : goal.returns-clause-known
returns-clause-known c =
    known_changed (known_sent (packet_out c.args.port c.args.bytes.now)) c.args.switches.now c.args.n c.send.new.switch
    c.index-switches-n.result c.requires.there c.in_ok-messages.ensures.known

pub returns-clause-standing : goal.returns-clause-standing
returns-clause-standing c =
    known_stands (known_sent (packet_out c.args.port c.args.bytes.now)) c.args.switches.now c.args.n c.send.new.switch
    c.index-switches-n.result c.requires.there c.in_ok-messages.ensures.known

pub returns-clause-bases : goal.returns-clause-bases
returns-clause-bases c =
    known_based (known_sent (packet_out c.args.port c.args.bytes.now)) c.args.switches.now c.args.n c.send.new.switch
    c.index-switches-n.result c.requires.there c.in_ok-messages.ensures.known
