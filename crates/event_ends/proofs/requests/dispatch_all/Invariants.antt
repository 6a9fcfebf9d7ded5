use Rattle.std.proofs.Common.{◌≡◌, drop}
use Rattle.std.specs.Prelude.{fold}
use Rattle.machine_meaning.specs.Drafts.{Draft}
use Rattle.machine_drafts.specs.InsideRequests.{with_dispatched}
use Rattle.machine_drafts.specs.Outcomes.{standing_in, switch_bases, switches_in}
use Rattle.machine_meaning.specs.Requests.{dispatch}
use Rattle.event_ends.proofs.requests.dispatch_all.Given as goal

-- those that are left, sent, give what all give
abbrev pub invariant-loop-one : goal.invariant-loop-one
invariant-loop-one l = record {
  dispatched : (d : Draft)
      → fold dispatch (with_dispatched (switches_in l.switches) l.packets d) (drop l.one-index l.sent)
      ≡ fold dispatch (with_dispatched (switches_in l.fn.switches) l.fn.packets d) l.sent;
  standing : standing_in l.switches ≡ standing_in l.fn.switches;
  bases : switch_bases l.switches ≡ switch_bases l.fn.switches;
}
