use Rattle.std.proofs.Common.{◌∙◌, sym}
use Rattle.event_ends.proofs.Requesting.{one_dispatched}
use Rattle.machine_drafts.specs.Outcomes.{switches_in}
use Rattle.event_ends.proofs.requests.dispatch.Goals as goal

pub returns-clause-dispatched : goal.returns-clause-dispatched
returns-clause-dispatched c =
    λ d.
    one_dispatched c.args.sent.now (switches_in c.args.switches.now) (switches_in c.send_at.new.switches)
    c.args.packets.now c.post.new.letters c.in_ok-messages.messages d
    (sym c.is_switch_up.ensures ∙ c.if-not-is_switch_up.false) c.in_ok-messages.ensures.known
    c.in_ok-messages.ensures.messages c.in_ok-post.ensures
