-- Tags are numbers of VLANs.
use Rattle.std.proofs.Common.{ℕ, ◌<◌, ◌≤◌, Bool, true, false, List, [], ◌∷◌, arith, filter, length, map}
use Rattle.std.specs.Prelude.{◌&&◌, IfSome, Some, None, if◌then◌else◌, is_some}
use Rattle.std.specs.List.{All}
use Rattle.std.proofs.lemmas.List.Elements.{All-from_recursion}
use Rattle.std.specs.List.{AllByRecursion}
use Rattle.virtual_topology.specs.declared.plan.TopologyPlan.{TopologyPlan}
use Rattle.virtual_topology.specs.Wires.{Joint, is_spread_of, outside_joints, outside_of}
use Rattle.inner_paths.specs.Tags.{place_of, stands_before, tag_of}
use Rattle.switch_meaning.specs.declared.wiring.Outside.{Outside}
use Rattle.place_rules.specs.Joined.{outside_from}

no_longer : {X : Type 0} (p : X → Bool) (xs : List X) → length (filter p xs) ≤ length xs
no_longer p [] = omega arith
no_longer p (x ∷ xs) = by (p x) (no_longer p xs)
  where
    by : (b : Bool) → length (filter p xs) ≤ length xs
        → length (if b then x ∷ filter p xs else filter p xs) ≤ length (x ∷ xs)
    by true h = omega arith
    by false h = omega arith

tag_in : (plan : TopologyPlan) (v port : ℕ) → length (outside_joints plan) ≤ 1024
    → IfSome (tag_of plan v port) (λ t. t < 4096)
tag_in plan v port few = by (is_spread_of plan v && is_some (outside_of plan v port))
  where
    by : (b : Bool) → IfSome (if b then Some (place_of plan v port) else None) (λ t. t < 4096)
    by true = let l = no_longer (stands_before plan v port) (outside_joints plan) in omega (arith, l, few)
    by false = tt

tags_of : (plan : TopologyPlan) → length (outside_joints plan) ≤ 1024 → (js : List Joint)
    → AllByRecursion (λ (o : Outside). IfSome o.tag (λ t. t < 4096)) (map (outside_from plan) js)
tags_of plan few [] = tt
tags_of plan few (j ∷ js) = (tag_in plan j.0.0 j.0.1 few, tags_of plan few js)

-- where there are no more than 1,024 outside ports
pub tags_in : (plan : TopologyPlan) → length (outside_joints plan) ≤ 1024
    → All (λ (o : Outside). IfSome o.tag (λ t. t < 4096)) (map (outside_from plan) (outside_joints plan))
tags_in plan few = All-from_recursion (λ (o : Outside). IfSome o.tag (λ t. t < 4096))
    (map (outside_from plan) (outside_joints plan)) (tags_of plan few (outside_joints plan))
