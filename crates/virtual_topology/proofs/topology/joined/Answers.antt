use Rattle.std.proofs.Common.{◌≡◌, ◌∙◌, ℕ, Option, length, ap, subst, sym}
use Rattle.std.proofs.lemmas.Result.{err_from_is_err_and}
use Rattle.virtual_topology.specs.declared.fault.TopologyFault.TheVariants.{Memory}
use Rattle.virtual_topology.specs.declared.fault.TopologyFault.{TopologyFault}
use Rattle.virtual_topology.specs.declared.uses.Role.TheVariants.{Link}
use Rattle.virtual_topology.specs.Faults.{crowded, mixed_among}
use Rattle.virtual_topology.specs.Wires.{joints_among, link_joints, outside_among, outside_joints}
use Rattle.virtual_topology.specs.Within.{AreWithin, HaveSwitches}
use Rattle.virtual_topology.proofs.Bounds.{links_within, outside_within}
use Rattle.virtual_topology.proofs.Checks.{Wanted, after_mixed, after_shape, first_wanted}
use Rattle.virtual_topology.proofs.topology.joined.Goals as goal

pub check_mixed-requires-clause-links : goal.check_mixed-requires-clause-links
check_mixed-requires-clause-links c =
    let plan = c.args.plan.now in
    let links : c.deref.result.now ≡ link_joints plan = c.deref.ensures.value
    ∙ (c.in_ok-links.ensures ∙ (λ i. joints_among (c.requires.known i) Link (c.as_slice-2.ensures i))) in
    let outside : c.deref-2.result.now ≡ outside_joints plan = c.deref-2.ensures.value
    ∙ (c.in_ok-outside.ensures ∙ (λ i. outside_among (c.requires.known i) (c.as_slice.ensures i))) in
    subst (AreWithin (length c.as_slice-3.result.now)) (sym links)
    (subst (λ (n : ℕ). AreWithin n (link_joints plan)) (sym (ap length c.as_slice-3.ensures)) (links_within plan))

pub check_mixed-requires-clause-outside : goal.check_mixed-requires-clause-outside
check_mixed-requires-clause-outside c =
    let plan = c.args.plan.now in
    let links : c.deref.result.now ≡ link_joints plan = c.deref.ensures.value
    ∙ (c.in_ok-links.ensures ∙ (λ i. joints_among (c.requires.known i) Link (c.as_slice-2.ensures i))) in
    let outside : c.deref-2.result.now ≡ outside_joints plan = c.deref-2.ensures.value
    ∙ (c.in_ok-outside.ensures ∙ (λ i. outside_among (c.requires.known i) (c.as_slice.ensures i))) in
    subst (HaveSwitches (length c.as_slice-3.result.now)) (sym outside)
    (subst (λ (n : ℕ). HaveSwitches n (outside_joints plan)) (sym (ap length c.as_slice-3.ensures))
    (outside_within plan))

pub returns-in_err-check_mixed-clause-fault : goal.returns-in_err-check_mixed-clause-fault
returns-in_err-check_mixed-clause-fault c =
    let plan = c.args.plan.now in
    let links : c.deref.result.now ≡ link_joints plan = c.deref.ensures.value
    ∙ (c.in_ok-links.ensures ∙ (λ i. joints_among (c.requires.known i) Link (c.as_slice-2.ensures i))) in
    let outside : c.deref-2.result.now ≡ outside_joints plan = c.deref-2.ensures.value
    ∙ (c.in_ok-outside.ensures ∙ (λ i. outside_among (c.requires.known i) (c.as_slice.ensures i))) in
    let left = after_shape plan c.requires.placed in
    let p = err_from_is_err_and c.from_residual-in_err-check_mixed.result
    c.from_residual-in_err-check_mixed.ensures.1 in
    let e = c.in_err-check_mixed.field-0.0 in
    let mixed : Wanted Memory e (mixed_among (link_joints plan) (outside_joints plan) plan.virtuals) =
    subst (λ (o : Option TopologyFault). Wanted Memory e o)
    (λ i. mixed_among (links i) (outside i) (c.as_slice-3.ensures i)) c.in_err-check_mixed.ensures in
    rw (p.1, p.2) (subst (λ (o : Option TopologyFault). Wanted Memory e o) (sym left)
    (first_wanted Memory e _ (crowded plan) mixed))

pub returns-in_err-check_limits-clause-fault : goal.returns-in_err-check_limits-clause-fault
returns-in_err-check_limits-clause-fault c =
    let plan = c.args.plan.now in
    let links : c.deref.result.now ≡ link_joints plan = c.deref.ensures.value
    ∙ (c.in_ok-links.ensures ∙ (λ i. joints_among (c.requires.known i) Link (c.as_slice-2.ensures i))) in
    let outside : c.deref-2.result.now ≡ outside_joints plan = c.deref-2.ensures.value
    ∙ (c.in_ok-outside.ensures ∙ (λ i. outside_among (c.requires.known i) (c.as_slice.ensures i))) in
    let left = after_shape plan c.requires.placed in
    let rest = after_mixed plan c.deref.result.now c.deref-2.result.now c.as_slice-3.result.now links outside
    c.as_slice-3.ensures left c.in_ok-check_mixed.ensures in
    let p = err_from_is_err_and c.from_residual-in_err-check_limits.result
    c.from_residual-in_err-check_limits.ensures.1 in
    let e = c.in_err-check_limits.field-0.0 in
    rw (p.1, p.2) (subst (λ (o : Option TopologyFault). Wanted Memory e o) (sym rest) c.in_err-check_limits.ensures)

pub numbered-requires-clause-sound : goal.numbered-requires-clause-sound
numbered-requires-clause-sound c =
    let plan = c.args.plan.now in
    let links : c.deref.result.now ≡ link_joints plan = c.deref.ensures.value
    ∙ (c.in_ok-links.ensures ∙ (λ i. joints_among (c.requires.known i) Link (c.as_slice-2.ensures i))) in
    let outside : c.deref-2.result.now ≡ outside_joints plan = c.deref-2.ensures.value
    ∙ (c.in_ok-outside.ensures ∙ (λ i. outside_among (c.requires.known i) (c.as_slice.ensures i))) in
    let left = after_shape plan c.requires.placed in
    let rest = after_mixed plan c.deref.result.now c.deref-2.result.now c.as_slice-3.result.now links outside
    c.as_slice-3.ensures left c.in_ok-check_mixed.ensures in
    rest ∙ c.in_ok-check_limits.ensures

pub returns-clause-fault : goal.returns-clause-fault
returns-clause-fault c =
    let plan = c.args.plan.now in
    let links : c.deref.result.now ≡ link_joints plan = c.deref.ensures.value
    ∙ (c.in_ok-links.ensures ∙ (λ i. joints_among (c.requires.known i) Link (c.as_slice-2.ensures i))) in
    let outside : c.deref-2.result.now ≡ outside_joints plan = c.deref-2.ensures.value
    ∙ (c.in_ok-outside.ensures ∙ (λ i. outside_among (c.requires.known i) (c.as_slice.ensures i))) in
    let left = after_shape plan c.requires.placed in
    let rest = after_mixed plan c.deref.result.now c.deref-2.result.now c.as_slice-3.result.now links outside
    c.as_slice-3.ensures left c.in_ok-check_mixed.ensures in
    rest ∙ c.in_ok-check_limits.ensures
