use Rattle.std.proofs.Common.{◌≡◌, ℕ, drop, map}
use Rattle.std.specs.Prelude.{fold}
use Rattle.std.specs.List.{enumerate_from}
use Rattle.virtual_topology.specs.declared.plan.VirtualItem.{VirtualItem}
use Rattle.machine_meaning.specs.Lists.{places}
use Rattle.machine_drafts.specs.Outcomes.{bases, draft_in}
use Rattle.machine_meaning.specs.Ticking.{doubt_at}
use Rattle.event_acts.proofs.ticking.doubt.Given as goal

-- those that are left, polled, give what all give
abbrev pub invariant-loop-v : goal.invariant-loop-v
invariant-loop-v l = record {
  drafted : fold (doubt_at l.setup) (draft_in l.draft)
      (map (λ (x : ℕ × VirtualItem). x.0) (enumerate_from l.v (drop l.v l.setup.virtuals)))
      ≡ fold (doubt_at l.setup) (draft_in l.fn.draft) (places l.setup.virtuals);
  based : bases l.draft ≡ bases l.fn.draft;
}
