use Rattle.std.proofs.Common.{◌-◌, length}
use Rattle.tcp_links.proofs.life.Life.send.Given as goal

abbrev pub decreases-loop-sent : goal.decreases-loop-sent
decreases-loop-sent g l = length l.bytes - l.sent
