use Rattle.std.proofs.Common.{arith}
use Rattle.std.proofs.Math.Pow.{pow_mono}
use Rattle.level_map.proofs.map.LevelMap.new.Goals as goal

pub invariant_of-result : goal.invariant_of-result
invariant_of-result c =
    let from = pow_mono {i = 2} {j = c.args.bits} c.requires.from in
    let to = pow_mono {i = c.args.bits} {j = 15} c.requires.to in
    record {
      size_from = omega (arith, from, to);
      size_to = omega (arith, from, to);
      rising = rw c.new.ensures.items tt;
    }
