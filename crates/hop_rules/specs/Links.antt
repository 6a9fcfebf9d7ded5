-- Where the links of a topology lead from its virtual switches.
use Rattle.std.specs.Prelude.{ℕ, ◌==◌, Option, Some, None, List, if◌then◌else◌, filter_map, flat_map, map}
use Rattle.std.specs.Prelude.{option_map, slice_get, slice_index_or, []}
use Rattle.std.specs.List.{enumerate_from}
use Rattle.std.specs.Option.{option_map_or}
use Rattle.policy_meaning.specs.declared.network.Link.{Link}
use Rattle.policy_meaning.specs.declared.network.Place.{Place}
use Rattle.virtual_topology.specs.declared.plan.TopologyPlan.{TopologyPlan}
use Rattle.virtual_topology.specs.declared.plan.VirtualItem.{VirtualItem}
use Rattle.virtual_topology.specs.declared.plan.VirtualPort.{VirtualPort}
use Rattle.virtual_topology.specs.Rows.{Spot}
use Rattle.virtual_topology.specs.Wires.{peer_of}
use Rattle.hop_rules.specs.declared.exits.LinkEnd.{LinkEnd}
use Rattle.hop_rules.specs.declared.exits.Exit.{Exit}

abbrev pub place : Spot → Place
place s = record { v = s.0; port = s.1 }

-- the end of a link at a port of a virtual switch, if one leads from it
abbrev pub end : TopologyPlan → ℕ → VirtualPort → Option LinkEnd
end plan v q = option_map (λ s. record { v = v; port = q.port; peer = place s }) (peer_of plan v q.port)

-- those of a virtual switch
abbrev pub port_ends : TopologyPlan → ℕ × VirtualItem → List LinkEnd
port_ends plan (v, x) = filter_map (end plan v) x.ports

-- the ends of all links, by virtual switch
abbrev pub ends : TopologyPlan → List LinkEnd
ends plan = flat_map (port_ends plan) (enumerate_from 0 plan.virtuals)

-- where the link of an end leads, by the place of the end among all
abbrev pub no_place : Place
no_place = record { v = 0; port = 0 }

abbrev pub no_end : LinkEnd
no_end = record { v = 0; port = 0; peer = no_place }

abbrev pub peer_at : List LinkEnd → ℕ → Place
peer_at es k = (slice_index_or es k no_end).peer

-- an end of this virtual switch, with its place among all
abbrev pub exit_at : ℕ → ℕ × LinkEnd → Option Exit
exit_at v (place, e) = if e.v == v then Some (record { port = e.port; peer = e.peer; place = place }) else None

-- the exits of a virtual switch
abbrev pub exits : List LinkEnd → ℕ → List Exit
exits es v = filter_map (exit_at v) (enumerate_from 0 es)

-- an end as a link of its virtual switch
abbrev pub link_of : LinkEnd → Link
link_of e = record { port = e.port; peer = e.peer }

-- the links of a virtual switch
abbrev pub links : TopologyPlan → ℕ → List Link
links plan v = option_map_or (λ x. map link_of (port_ends plan (v, x))) (slice_get plan.virtuals v) []

-- an exit as a link of its virtual switch
abbrev pub exit_link : Exit → Link
exit_link e = record { port = e.port; peer = e.peer }
