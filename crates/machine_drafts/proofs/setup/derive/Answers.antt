use Rattle.std.proofs.Common.{◌∙◌, ap, map}
use Rattle.virtual_topology.specs.declared.plan.TopologyPlan.{TopologyPlan}
use Rattle.machine_drafts.specs.Setups.{is_seen, ports_of}
use Rattle.machine_drafts.proofs.setup.derive.Goals as goal

pub returns-clause-ports : goal.returns-clause-ports
returns-clause-ports c =
    let virtuals = c.as_slice.ensures ∙ ap (λ (t : TopologyPlan). t.virtuals) c.plan.ensures.plan in
    c.in_ok-ports.ensures ∙ ap ports_of virtuals

pub returns-clause-seen : goal.returns-clause-seen
returns-clause-seen c =
    let virtuals = c.as_slice.ensures ∙ ap (λ (t : TopologyPlan). t.virtuals) c.plan.ensures.plan in
    let ports = c.as_slice-2.ensures ∙ (c.in_ok-ports.ensures ∙ ap ports_of virtuals) in
    c.in_ok-seen.ensures ∙ ap (map (is_seen c.args.members.now)) ports

pub returns-clause-switches : goal.returns-clause-switches
returns-clause-switches c = c.in_ok-switches.ensures
