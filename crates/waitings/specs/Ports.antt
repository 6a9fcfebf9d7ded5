-- The numbers of ports that switches tell a poll.
use Rattle.std.specs.Prelude.{ℕ, Bool, ◌==◌, not, List, [], ◌∷◌, ◌++◌, Option, Some, None, filter, filter_map, fold}
use Rattle.std.specs.Prelude.{if◌then◌else◌, option_and_then}
use Rattle.of10_stats.specs.declared.reply.PortStat.{PortStat}
use Rattle.virtual_topology.specs.Rows.{Spot}
use Rattle.virtual_topology.specs.Wires.{entering_of}
use Rattle.virtual_topology.specs.declared.plan.TopologyPlan.{TopologyPlan}
use Rattle.waitings.specs.Waitings.{unless_more}
use Rattle.waitings.specs.declared.state.Purpose.{Purpose}
use Rattle.waitings.specs.declared.state.Purpose.TheVariants.{Port}
use Rattle.waitings.specs.declared.state.Waiting.{Waiting}

-- the port of a switch, if it is an outside port of the virtual switch, with its number there
abbrev pub told_at : ℕ → PortStat → Spot → Option PortStat
told_at v stat (u, port) = if u == v then Some (record stat { port_no = port }) else None

abbrev pub told_of : TopologyPlan → ℕ → ℕ → PortStat → Option PortStat
told_of t n v stat = option_and_then (told_at v stat) (entering_of t n stat.port_no)

-- what was told last of a port stands
abbrev pub with_told : List PortStat → PortStat → List PortStat
with_told told stat = filter (λ (t : PortStat). not (t.port_no == stat.port_no)) told ++ stat ∷ []

abbrev pub purpose_told : List PortStat → Purpose → Purpose
purpose_told stats (Port asker port_no told) = Port asker port_no (fold with_told told stats)
purpose_told stats purpose = purpose

-- a poll of ports takes a part
abbrev pub taking_ports : TopologyPlan → ℕ → ℕ → Bool → List PortStat → Waiting → Waiting
taking_ports t n xid more stats w =
    unless_more more n xid (record w { purpose = purpose_told (filter_map (told_of t n w.v) stats) w.purpose })
