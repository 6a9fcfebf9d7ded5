use Rattle.std.proofs.Common.{get_or}
use Rattle.std.proofs.lemmas.List.{get_or_default}
use Rattle.cv_io.specs.declared.leaf.Leaf.{Leaf}
use Rattle.stats_map.proofs.Adding.{more-more, one-more-there}
use Rattle.stats_map.proofs.sums.add_leaves.Goals as goal

pub loop-leaf-preserved : goal.loop-leaf-preserved
loop-leaf-preserved c =
    let none : Leaf = record { member = 0; kind = 0 } in
    let xs = c.as_slice-leaf-items.result.now in
    let i = c.loop-leaf.leaf-index in
    let x = get_or xs i none in (
      more-more c.args.sums.now.entries c.loop-leaf.sums.entries c.add_leaf.new.sums.entries c.loop-leaf.invariant.0
          c.add_leaf.ensures.more,
      one-more-there xs i x c.loop-leaf.sums.entries c.add_leaf.new.sums.entries c.loop-leaf-test.true
          (get_or_default xs i none x c.loop-leaf-test.true) c.add_leaf.ensures.more c.in_ok-add_leaf.ensures.there
          c.loop-leaf.invariant.1,
    )
