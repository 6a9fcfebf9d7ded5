use Rattle.std.proofs.Common.{◌∙◌, ◌++◌, ap, ap₂, zero-add}
use Rattle.std.specs.Prelude.{flat_map, slice_get}
use Rattle.std.specs.List.{enumerate_from}
use Rattle.virtual_topology.specs.declared.plan.TopologyPlan.{TopologyPlan}
use Rattle.event_ends.proofs.Lines.{downs_named, five_lists}
use Rattle.event_ends.specs.Boxes.{down_lines_at}
use Rattle.machine_meaning.specs.Putting.{slow_lines}
use Rattle.event_ends.proofs.audit_lines.lines.Goals as goal

pub returns : goal.returns
returns c =
    let p = c.args.setup.now in
    let s = c.args.said in
    let switches = c.as_slice-switches.ensures
    ∙ ap (λ (t : TopologyPlan). t.switches) (c.plan.ensures.plan ∙ c.topology.ensures) in
    let downs = ap₂ (λ ds xs. flat_map (down_lines_at ds) (enumerate_from 0 xs)) c.as_slice.ensures switches
    ∙ downs_named p s.downs 0 p.switches (λ i. ap (slice_get p.switches) (zero-add i)) in
    let slows = ap₂ (λ ss ms. flat_map (slow_lines ss) (enumerate_from 0 ms)) c.as_slice-2.ensures
    c.members.ensures.members in
    five_lists s.policies s.denials _ _ s.notes _ _ _ _ _ _ c.new-lines.ensures c.in_ok-push_all.ensures
    c.in_ok-push_all-2.ensures
    (c.in_ok-push_downs.ensures ∙ ap (λ l. c.push_all-2.new.lines ++ l) downs)
    (c.in_ok-push_slows.ensures ∙ ap (λ l. c.push_downs.new.lines ++ l) slows)
    c.in_ok-push_all-3.ensures
