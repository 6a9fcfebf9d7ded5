use Rattle.machine_drafts.proofs.Placed.{known_based, known_changed, known_stands}
use Rattle.machine_drafts.specs.InsideRequests.{known_sent}
use Rattle.machine_meaning.specs.Requests.{request}
use Rattle.event_ends.proofs.requests.ask_at.Goals as goal

pub returns-clause-known : goal.returns-clause-known
returns-clause-known c =
    known_changed (known_sent (request c.args.asked.now)) c.args.switches.now c.args.n c.ask.new.switch
    c.index-switches-n.result c.requires c.in_ok-messages.ensures.known

pub returns-clause-standing : goal.returns-clause-standing
returns-clause-standing c =
    known_stands (known_sent (request c.args.asked.now)) c.args.switches.now c.args.n c.ask.new.switch
    c.index-switches-n.result c.requires c.in_ok-messages.ensures.known

pub returns-clause-bases : goal.returns-clause-bases
returns-clause-bases c =
    known_based (known_sent (request c.args.asked.now)) c.args.switches.now c.args.n c.ask.new.switch
    c.index-switches-n.result c.requires c.in_ok-messages.ensures.known
