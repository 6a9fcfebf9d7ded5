use Rattle.std.proofs.Common.{◌∙◌, ap}
use Rattle.std.specs.Map.{lookup}
use Rattle.virtual_topology.specs.Rows.{same_spot}
use Rattle.virtual_topology.specs.Wires.{peer_of}
use Rattle.virtual_topology.proofs.topology.Topology.peer.Goals as goal

pub returns : goal.returns
returns c =
    c.get.ensures ∙ (ap (lookup (same_spot (c.args.v, c.args.port))) c.self.invariant.peers_is
    ∙ ap (λ plan. peer_of plan c.args.v c.args.port) c.self.view_is)
