use Rattle.std.proofs.Common.{refl}
use Rattle.std.specs.Cmp.{IsTotalOrder, nat_cmp_total, on_total, then_total}
use Rattle.cv_io.specs.Leaves.{leaf_cmp}
use Rattle.cv_io.specs.declared.leaf.Leaf.{Leaf}
use Rattle.install_plan.proofs.Copying.{copy-step}
use Rattle.stats_map.proofs.copies.copied_sums.Goals as goal

leaf_total : IsTotalOrder leaf_cmp
leaf_total = then_total (on_total (λ (a : Leaf). a.member) nat_cmp_total)
    (on_total (λ (a : Leaf). a.kind) nat_cmp_total)

pub loop-leaf-preserved : goal.loop-leaf-preserved
loop-leaf-preserved c =
    copy-step leaf_total c.loop-leaf.copied.entries c.insert.new.self.entries c.loop-leaf.leaf-iterator c.next.new.self
    c.args.sums.now.entries c.in-Some.leaf.now c.in-Some.sum.now c.in-Some.sum.now c.in-Some.ensures.steps refl
    c.iter-leaf-items.ensures.ordered c.loop-leaf.invariant c.in_ok-insert.ensures.entries
