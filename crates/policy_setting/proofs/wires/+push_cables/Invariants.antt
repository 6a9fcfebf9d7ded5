use Rattle.std.proofs.Common.{length}
use Rattle.policy_setting.proofs.wires.+push_cables.Given as goal

abbrev pub decreases-push_cables : goal.decreases-push_cables
decreases-push_cables l = length l.ways.now
