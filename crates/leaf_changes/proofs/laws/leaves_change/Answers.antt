use Rattle.leaf_changes.proofs.Leaves.{leaves-change}
use Rattle.leaf_changes.proofs.laws.leaves_change.Goals as goal

pub returns : goal.returns
returns c = leaves-change
