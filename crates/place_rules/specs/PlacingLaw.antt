-- What a placed entry does.
use Rattle.std.specs.Prelude.{◌≡◌, ℕ}
use Rattle.virtual_topology.specs.declared.plan.TopologyPlan.{TopologyPlan}
use Rattle.switch_meaning.specs.Wirings.{far_end, next_hop, outside_at}
use Rattle.virtual_topology.specs.Wires.{far_end_of, outside_of}
use Rattle.inner_paths.specs.Hops.{next_hop_of}
use Rattle.std.specs.Prelude.{option_map}
use Rattle.place_rules.specs.Joined.{outside_at_spot, port_at, wiring_of}

-- the wiring of a topology has what the topology and its paths have
pub record IsWiring (plan : TopologyPlan) : Type 0 where
  pub outside : (v port : ℕ)
      → outside_at (wiring_of plan) v port ≡ option_map (outside_at_spot plan v port) (outside_of plan v port)
  pub next_hop : (from to : ℕ) → next_hop (wiring_of plan) from to ≡ next_hop_of plan from to
  pub far_end : (switch port : ℕ)
      → far_end (wiring_of plan) (record { switch = switch; port = port })
      ≡ option_map port_at (far_end_of plan switch port)

abbrev pub WiringsAgree : Type 0
WiringsAgree = (plan : TopologyPlan) → IsWiring plan
