use Rattle.std.proofs.Common.{suc, length, add-one, arith}
use Rattle.level_map.proofs.Rising.{no_pair}
use Rattle.level_map.proofs.Levels.{numbered_more}
use Rattle.level_map.proofs.sorted.renumber.Goals as goal

pub loop-i-preserved : goal.loop-i-preserved
loop-i-preserved c =
    let rs = c.args.ranked.now in
    let so_far = c.loop-i.invariant in
    rw (c.level_of_place.ensures, so_far, add-one c.loop-i.i)
    (numbered_more c.args.size (length rs) 1 rs c.loop-i.i (suc c.loop-i.i) no_pair (omega arith) (omega arith))
