-- The port by which packets from one physical switch to another leave the first.
use Rattle.std.specs.Prelude.{ℕ, Bool, ◌==◌, ◌&&◌, ◌||◌, nat_lt, Option, Some, None, List, [], ◌∷◌, if◌then◌else◌}
use Rattle.std.specs.Prelude.{filter_map, option_map, slice_get}
use Rattle.std.specs.Option.{option_and_then}
use Rattle.virtual_topology.specs.declared.plan.TopologyPlan.{TopologyPlan}
use Rattle.virtual_topology.specs.declared.plan.SwitchItem.{SwitchItem}
use Rattle.virtual_topology.specs.Wires.{Joint}
use Rattle.inner_paths.specs.Distances.{distance, ways_of}

-- a distance that is left, and the port that leads so far
abbrev pub Lead : Type 0
Lead = ℕ × ℕ

-- the one leads nearer, or as near by a port of lower number
abbrev pub is_nearer : Lead → Lead → Bool
is_nearer a b = nat_lt a.0 b.0 || ((a.0 == b.0) && nat_lt a.1 b.1)

-- the nearest, of equal ones the first
abbrev pub nearer : Lead → Option Lead → Lead
nearer a None = a
nearer a (Some b) = if is_nearer b a then b else a

abbrev pub nearest_with : Option Lead → Option Lead → Option Lead
nearest_with None b = b
nearest_with (Some a) b = Some (nearer a b)

abbrev pub nearest : List Lead → Option Lead
nearest [] = None
nearest (a ∷ leads) = Some (nearer a (nearest leads))

-- how a cable leads on, if it is one of this switch and a path goes on from its far end
abbrev pub lead_by : (ℕ → Option ℕ) → ℕ → Joint → Option Lead
lead_by left from w = if w.0.0 == from then option_map (λ d. (d, w.0.1)) (left w.1.0) else None

-- the port of least number among those that lead nearest, between two different switches
abbrev pub hop_between : TopologyPlan → ℕ → ℕ → Option ℕ
hop_between plan from to =
    if from == to then None else option_map (λ (l : Lead). l.1)
    (nearest (filter_map (lead_by (λ s. distance plan s to) from) (ways_of plan)))

-- of switches that are there
abbrev pub next_hop_of : TopologyPlan → ℕ → ℕ → Option ℕ
next_hop_of plan from to =
    option_and_then (λ (a : SwitchItem). option_and_then (λ (b : SwitchItem). hop_between plan from to)
    (slice_get plan.switches to)) (slice_get plan.switches from)
