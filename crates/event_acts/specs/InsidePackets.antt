-- Packets that leave, by the topology alone.
use Rattle.std.specs.Prelude.{ℕ, List, Option, option_map}
use Rattle.pkt_bytes.specs.Rewritten.{rewritten}
use Rattle.policy_meaning.specs.declared.walking.PortOut.{PortOut}
use Rattle.virtual_topology.specs.Rows.{Spot}
use Rattle.virtual_topology.specs.Wires.{outside_of}
use Rattle.virtual_topology.specs.declared.plan.TopologyPlan.{TopologyPlan}
use Rattle.machine_meaning.specs.declared.said.Sent.{Sent}

-- a packet that leaves, at the physical port that its port is
abbrev pub leaving_over : TopologyPlan → List ℕ → PortOut → Option Sent
leaving_over t bytes o =
    option_map (λ (s : Spot). record { switch = s.0; port = s.1; bytes = rewritten o.rewrite bytes })
    (outside_of t o.v o.port)
