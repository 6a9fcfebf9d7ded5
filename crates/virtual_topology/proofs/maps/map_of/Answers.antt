use Rattle.std.proofs.Common.{arith}
use Rattle.std.specs.HashMap.{get}
use Rattle.virtual_topology.proofs.Steps.{look_step}
use Rattle.virtual_topology.proofs.maps.map_of.Goals as goal

pub loop-left-preserved : goal.loop-left-preserved
loop-left-preserved g c = (
  omega arith,
  look_step g.K.PartialEq.eq g.met.K.Eq.laws.symm c.args.rows.now c.loop-left.left _ _ (omega arith)
      c.loop-left.invariant.0
      (get g.K.PartialEq.eq c.loop-left.map) (get g.K.PartialEq.eq c.insert.new.self) c.loop-left.invariant.1
      c.in_ok-insert.ensures.updates.0,
)
