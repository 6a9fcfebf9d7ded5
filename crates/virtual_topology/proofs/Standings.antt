-- How the virtual switch of a number lies.
use Rattle.std.proofs.Common.{◌≡◌, ℕ, ◌+◌, Bool, false, Option, Some, None, List, refl, ap, ◌∙◌, arith}
use Rattle.std.specs.Prelude.{option_map, slice_get}
use Rattle.std.specs.Option.{option_map_or}
use Rattle.virtual_topology.specs.declared.plan.TopologyPlan.{TopologyPlan}
use Rattle.virtual_topology.specs.declared.plan.VirtualItem.{VirtualItem}
use Rattle.virtual_topology.specs.declared.standing.Standing.{Standing}
use Rattle.virtual_topology.specs.Made.{standing_of, standings_of}
use Rattle.virtual_topology.specs.Rows.{rows}
use Rattle.virtual_topology.specs.Wires.{cable_joints, outside_joints}
use Rattle.virtual_topology.proofs.Steps.{numbered_get}

-- what is read of an item, by way of how it lies
read_by : (read : Standing → Bool) (f : VirtualItem → Standing) (o : Option VirtualItem)
    → option_map_or read (option_map f o) false ≡ option_map_or (λ x. read (f x)) o false
read_by read f None = refl
read_by read f (Some x) = refl

pub standing_read : (read : Standing → Bool) (plan : TopologyPlan) (standings : List Standing) (v : ℕ)
    → standings ≡ standings_of (rows plan) (cable_joints plan) (outside_joints plan) plan.virtuals
    → option_map_or read (slice_get standings v) false
    ≡ option_map_or (λ x. read (standing_of (rows plan) (cable_joints plan) (outside_joints plan) (v, x)))
    (slice_get plan.virtuals v) false
standing_read read plan standings v e =
    let same : 0 + v ≡ v = omega arith in
    ap (λ ss. option_map_or read (slice_get ss v) false) e
    ∙ (ap (λ o. option_map_or read o false)
    (numbered_get (standing_of (rows plan) (cable_joints plan) (outside_joints plan)) 0 plan.virtuals v
    ∙ ap (λ n. option_map (λ x. standing_of (rows plan) (cable_joints plan) (outside_joints plan) (n, x))
    (slice_get plan.virtuals v)) same)
    ∙ read_by read (λ x. standing_of (rows plan) (cable_joints plan) (outside_joints plan) (v, x))
    (slice_get plan.virtuals v))
