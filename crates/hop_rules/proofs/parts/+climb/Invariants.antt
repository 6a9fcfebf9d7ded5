use Rattle.std.proofs.Common.{length}
use Rattle.hop_rules.proofs.parts.+climb.Given as goal

abbrev pub decreases-climb : goal.decreases-climb
decreases-climb g l = length l.levels.now
