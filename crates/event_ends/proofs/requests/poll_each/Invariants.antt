use Rattle.std.proofs.Common.{◌≡◌, drop}
use Rattle.std.specs.Prelude.{fold}
use Rattle.machine_meaning.specs.Drafts.{Draft}
use Rattle.machine_drafts.specs.InsideRequests.{with_polled}
use Rattle.machine_drafts.specs.Outcomes.{standing_in, switch_bases, switches_in}
use Rattle.machine_meaning.specs.Requests.{poll_at}
use Rattle.event_ends.proofs.requests.poll_each.Given as goal

-- those that are left, asked, give what all give
abbrev pub invariant-loop-n : goal.invariant-loop-n
invariant-loop-n l = record {
  polled : (d : Draft)
      → fold (poll_at l.asked) (with_polled (switches_in l.switches) l.waiting.now l.polls d) (drop l.n-index l.numbers)
      ≡ fold (poll_at l.asked) (with_polled (switches_in l.fn.switches) l.fn.waiting.now l.fn.polls d) l.numbers;
  standing : standing_in l.switches ≡ standing_in l.fn.switches;
  bases : switch_bases l.switches ≡ switch_bases l.fn.switches;
  base : l.waiting.base ≡ l.fn.waiting.base;
}
