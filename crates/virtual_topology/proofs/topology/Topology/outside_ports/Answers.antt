use Rattle.std.proofs.Common.{◌≤◌, List, ◌∙◌, length, subst, sym}
use Rattle.virtual_topology.specs.Wires.{Joint}
use Rattle.virtual_topology.proofs.Counted.{few_outside}
use Rattle.virtual_topology.proofs.topology.Topology.outside_ports.Goals as goal

pub returns-clause-few : goal.returns-clause-few
returns-clause-few c =
    let Few : List Joint → Type 0 = λ js. length js ≤ 1024 in
    subst Few (sym (c.rows.ensures ∙ c.self.invariant.outside_is))
    (few_outside c.self.inside.plan c.self.invariant.sound)
