-- What there is to say of the way of a packet, in order.
use Rattle.std.specs.Prelude.{ℕ, List, [], ◌∷◌, ◌++◌, Option, Some, None, filter_map, flat_map, map, option_map}
use Rattle.explain_path.specs.declared.trace.HopTrace.{HopTrace}
use Rattle.install_plan.specs.declared.written.Written.{Written}
use Rattle.policy_meaning.specs.declared.walking.PortOut.{PortOut}
use Rattle.policy_meaning.specs.declared.walking.Told.{Told}
use Rattle.policy_meaning.specs.declared.walking.Walked.{Walked}
use Rattle.virtual_topology.specs.Rows.{Spot}
use Rattle.virtual_topology.specs.Wires.{outside_of}
use Rattle.virtual_topology.specs.declared.plan.TopologyPlan.{TopologyPlan}
use Rattle.explain_text.specs.declared.finding.Finding.{Finding}
use Rattle.explain_text.specs.declared.finding.Finding.TheVariants.{Hop, Leaf, Out, Tell, Entry, Down}

-- an evaluation, and under it each member that was asked
abbrev pub of_hop : HopTrace → List Finding
of_hop hop = Hop hop.v hop.port ∷ map Leaf hop.leaves

-- a packet that leaves, by the physical port that its port is
abbrev pub of_out : TopologyPlan → PortOut → Option Finding
of_out plan o = option_map (λ (s : Spot). Out s.0 s.1 o.rewrite) (outside_of plan o.v o.port)

-- a member that is told of the packet
abbrev pub of_told : Told → Finding
of_told t = Tell t.member t.reason

-- the entry that a switch that is up uses, if it uses one
abbrev pub of_entry : ℕ → Option Written → List Finding
of_entry switch None = []
of_entry switch (Some w) = Entry switch w.cookie w.entry.priority ∷ []

-- the same of a switch that may be down
abbrev pub of_switch : ℕ → Option (Option Written) → List Finding
of_switch switch None = Down switch ∷ []
of_switch switch (Some used) = of_entry switch used

-- the evaluations, what leaves, who is told, and the entry of the switch
abbrev pub findings : TopologyPlan → List HopTrace → Walked → ℕ → Option (Option Written) → List Finding
findings plan trace walked switch used =
    flat_map of_hop trace
    ++ (filter_map (of_out plan) walked.outs ++ (map of_told walked.told ++ of_switch switch used))
