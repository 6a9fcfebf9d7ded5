use Rattle.std.proofs.Common.{◌≡◌, ◌∙◌, ◌++◌, ap, length, map}
use Rattle.virtual_topology.specs.declared.plan.TopologyPlan.{TopologyPlan}
use Rattle.virtual_topology.specs.Wires.{cable_joints, outside_joints}
use Rattle.policy_setting.specs.Wirings.{cable, every_second, hops, hops_among, outside}
use Rattle.policy_setting.proofs.Growing.{each_second}
use Rattle.policy_setting.proofs.wires.wiring.Goals as goal

pub returns : goal.returns
returns c =
    let plan = c.args.topology.now in
    let outsides : c.in_ok-outside.outside ≡ map (outside plan) (outside_joints plan) = c.in_ok-outside.ensures
    ∙ (λ i. map (outside (c.requires i)) (c.outside_ports.ensures.ports i)) in
    let cables : c.push_cables.new.cables ≡ map cable (cable_joints plan) = c.in_ok-push_cables.ensures
    ∙ ((λ i. c.new-cables.ensures i ++ map cable (every_second (c.cable_ways.ensures.ways i)))
    ∙ ap (map cable) (each_second (cable_joints plan))) in
    let count : c.len.result ≡ length plan.switches = c.len.ensures
    ∙ ap (λ (p : TopologyPlan). length p.switches) c.plan.ensures.plan in
    let next : c.in_ok-next_hops.next_hops ≡ hops plan = c.in_ok-next_hops.ensures
    ∙ (λ i. hops_among (c.requires i) (count i)) in
    λ i. record { outside = outsides i; cables = cables i; next_hops = next i }
