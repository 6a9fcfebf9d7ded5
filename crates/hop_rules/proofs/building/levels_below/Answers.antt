use Rattle.std.proofs.Common.{arith}
use Rattle.hop_rules.proofs.Risings.{can-rise}
use Rattle.hop_rules.proofs.building.levels_below.Goals as goal

pub loop-level-init : goal.loop-level-init
loop-level-init c =
    let b = c.requires in
    let first = c.in_ok-rising.ensures b.0 c.args.ends.now c.args.sizes.now b.1.fabric in
    record {
      count = let n = first.1 in omega arith;
      risen = λ f b. (c.in_ok-rising.ensures f c.args.ends.now c.args.sizes.now b.fabric).0;
    }

pub add_level-requires : goal.add_level-requires
add_level-requires c =
    let b = c.requires in
    let inv = c.loop-level.invariant in (
      b.0,
      can-rise b.0 c.args.ends.now c.args.given.now c.args.sizes.now c.args.hops c.loop-level._level
          c.loop-level.rising b.1 (inv.risen b.0 b.1) inv.count c.loop-level-test.true,
    )

pub loop-level-preserved : goal.loop-level-preserved
loop-level-preserved c =
    let inv = c.loop-level.invariant in
    record {
      count = let n = c.in_ok-add_level.ensures.count in let m = inv.count in omega arith;
      risen = λ f b. c.in_ok-add_level.ensures.risen f
          (can-rise f c.args.ends.now c.args.given.now c.args.sizes.now c.args.hops c.loop-level._level
          c.loop-level.rising b (inv.risen f b) inv.count c.loop-level-test.true);
    }

pub returns-clause-count : goal.returns-clause-count
returns-clause-count c =
    let b = c.requires in
    let p = b.1.positive in
    let n = c.loop-level.invariant.count in
    let end = c.loop-level.auto._level-end in
    let le = c.loop-level-test.false in
    omega arith
