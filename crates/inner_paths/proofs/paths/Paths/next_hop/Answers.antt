use Rattle.std.proofs.Common.{◌≡◌, ◌∙◌, None, ap, subst}
use Rattle.virtual_topology.specs.declared.plan.TopologyPlan.{TopologyPlan}
use Rattle.inner_paths.specs.Cuts.{cut_fault}
use Rattle.inner_paths.specs.Hops.{next_hop_of}
use Rattle.inner_paths.proofs.Rows.{hop_entry}
use Rattle.inner_paths.proofs.paths.Paths.next_hop.Goals as goal

pub returns-clause-hop : goal.returns-clause-hop
returns-clause-hop c =
    c.entry.ensures ∙ (hop_entry c.self.inside.plan c.self.inside.hops c.self.invariant.hops_are c.args.from c.args.to
    ∙ ap (λ plan. next_hop_of plan c.args.from c.args.to) c.self.view_is)

pub returns-clause-reach : goal.returns-clause-reach
returns-clause-reach c = let Reach : TopologyPlan
    → Type 0 = λ plan. cut_fault plan ≡ None in subst Reach c.self.view_is c.self.invariant.reach
