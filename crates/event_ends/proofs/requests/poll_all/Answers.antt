use Rattle.std.proofs.Common.{◌∙◌}
use Rattle.event_ends.proofs.Requesting.{fold_next}
use Rattle.machine_drafts.specs.InsideRequests.{with_polled}
use Rattle.machine_drafts.specs.Outcomes.{switches_in}
use Rattle.machine_meaning.specs.Requests.{poll}
use Rattle.event_ends.proofs.requests.poll_all.Goals as goal

pub loop-asked-preserved : goal.loop-asked-preserved
loop-asked-preserved c = record {
  polled = λ d.
      fold_next (poll c.args.setup.now) c.args.all.now c.loop-asked.asked-index _
      (with_polled (switches_in c.loop-asked.switches) c.loop-asked.waiting.now c.loop-asked.polls d)
      (with_polled (switches_in c.poll.new.switches) c.poll.new.waiting.now c.poll.new.polls d) c.loop-asked-test.true
      (c.in_ok-poll.ensures.polled d)
      ∙ c.loop-asked.invariant.polled d;
  standing = c.in_ok-poll.ensures.standing ∙ c.loop-asked.invariant.standing;
  bases = c.in_ok-poll.ensures.bases ∙ c.loop-asked.invariant.bases;
  base = c.in_ok-poll.ensures.base ∙ c.loop-asked.invariant.base;
}
