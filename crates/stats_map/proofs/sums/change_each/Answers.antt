use Rattle.std.proofs.Common.{get_or, take, sym, ◌∙◌}
use Rattle.std.specs.List.{list_any}
use Rattle.std.proofs.lemmas.List.{get_or_default}
use Rattle.cv_io.specs.Leaves.{same_leaf}
use Rattle.cv_io.specs.declared.leaf.Leaf.{Leaf}
use Rattle.stats_map.proofs.Happening.{happened-again, happened-first, is-allowed, not-false, not-true}
use Rattle.stats_map.proofs.sums.change_each.Goals as goal
use Rattle.stats_map.proofs.sums.change_each.Goals.{then-is_first, else-is_first}

abbrev no_leaf : Leaf
no_leaf = record { member = 0; kind = 0 }

pub change_one-requires : goal.change_one-requires
change_one-requires c =
    let xs = c.args.leaves.now in
    let i = c.loop-place.place in
    let x = get_or xs i no_leaf in
    let none = not-true (list_any (same_leaf x) (take i xs)) (sym (c.is_first.ensures no_leaf) ∙ c.if-is_first.true) in
    is-allowed c.args.event.now xs i x c.loop-place-test.true (get_or_default xs i no_leaf x c.loop-place-test.true)
    c.args.sums.now.entries c.loop-place.sums.entries c.loop-place.invariant c.requires none

pub loop-place-preserved : goal.loop-place-preserved
loop-place-preserved c =
    let xs = c.args.leaves.now in
    let i = c.loop-place.place in
    let x = get_or xs i no_leaf in
    let is = get_or_default xs i no_leaf x c.loop-place-test.true in
    elim c.if-is_first.branch [
      | then-is_first w ↦
          (let none = not-true (list_any (same_leaf x) (take i xs))
          (sym (c.is_first.ensures no_leaf) ∙ w.if-is_first.true) in
          rw w.sums-is (happened-first c.args.event.now xs i x c.loop-place-test.true is c.args.sums.now.entries
          c.loop-place.sums.entries c.loop-place.invariant w.change_one.new.sums.entries none w.change_one.ensures))
      | else-is_first w ↦
          (let some = not-false (list_any (same_leaf x) (take i xs))
          (sym (c.is_first.ensures no_leaf) ∙ w.if-is_first.false) in
          rw w.sums-is (happened-again c.args.event.now xs i x c.loop-place-test.true is c.args.sums.now.entries
          c.loop-place.sums.entries c.loop-place.invariant some))
    ]
