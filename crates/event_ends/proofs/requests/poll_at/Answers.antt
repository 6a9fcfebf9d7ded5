use Rattle.std.proofs.Common.{◌∙◌, sym}
use Rattle.event_ends.proofs.Requesting.{one_polled}
use Rattle.machine_drafts.specs.Outcomes.{switches_in}
use Rattle.event_ends.proofs.requests.poll_at.Goals as goal

pub returns-clause-polled : goal.returns-clause-polled
returns-clause-polled c =
    λ d.
    one_polled c.args.asked.now c.args.n (switches_in c.args.switches.now) (switches_in c.ask_at.new.switches)
    c.args.waiting.now.now c.asked.new.self.now c.args.polls.now c.post.new.letters c.in_ok-messages.messages
    c.xid_at-xid.result d (sym c.is_switch_up.ensures ∙ c.if-not-is_switch_up.false) c.in_ok-messages.ensures.known
    c.in_ok-messages.ensures.messages c.xid_at-xid.ensures c.in_ok-asked.ensures.now c.in_ok-post.ensures
