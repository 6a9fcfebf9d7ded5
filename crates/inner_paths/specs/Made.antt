-- What paths keep beside their plan.
use Rattle.std.specs.Prelude.{◌≡◌, ℕ, None, Option, List, length}
use Rattle.virtual_topology.specs.declared.plan.TopologyPlan.{TopologyPlan}
use Rattle.virtual_topology.specs.Rows.{Spot}
use Rattle.inner_paths.specs.Cuts.{cut_fault}
use Rattle.inner_paths.specs.Hops.{hop_between}
use Rattle.inner_paths.specs.Tables.{IsTable}
use Rattle.inner_paths.specs.Tags.{tag_rows}

-- next hops for each pair of switches, and the tags; no pair of one virtual switch is without a path
pub record IsMade (plan : TopologyPlan) (hops : List (List (Option ℕ))) (tags : List (Spot × ℕ)) : Type 0 where
  pub reach : cut_fault plan ≡ None
  pub hops_are : IsTable (length plan.switches) (length plan.switches) (λ to from. hop_between plan from to) hops
  pub tags_are : tags ≡ tag_rows plan
