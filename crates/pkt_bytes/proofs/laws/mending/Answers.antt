use Rattle.pkt_bytes.proofs.Sums.{mended_right, mended_twice}
use Rattle.pkt_bytes.proofs.laws.mending.Goals as goal

pub returns : goal.returns
returns c = record { at_once = mended_twice; right = mended_right }
