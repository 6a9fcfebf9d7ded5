use Rattle.std.proofs.Common.{◌≡◌, false, nat_lt, sym, subst}
use Rattle.std.specs.Prelude.{Some, None}
use Rattle.stats_map.specs.Counting.{is_named}
use Rattle.stats_map.specs.Overlay.{now_of}
use Rattle.stats_map.specs.Pending.{PendingOf}
use Rattle.stats_map.specs.Told.{told}
use Rattle.stats_map.proofs.Laying.{sum-found}
use Rattle.stats_map.proofs.Reporting.{named-none, named-some}
use Rattle.stats_map.proofs.pending.Pending.is_named.Goals as goal

pub returns-in-Some : goal.returns-in-Some
returns-in-Some c =
    let o = c.self.inside.over in
    let leaf = c.args.leaf.now in
    let found = sum-found o.base.now c.self.invariant.ordered.leaves o.sums.entries c.sums.result.now.entries leaf
    (Some c.in-Some.sum.now) c.sums.ensures.entries c.in-Some.ensures in
    subst (λ (z : PendingOf). nat_lt 0 c.in-Some.sum.now.live ≡ is_named (told z.now) leaf) c.self.view_is
    (named-some (now_of o).live (now_of o).sums leaf c.self.invariant.summed c.in-Some.sum.now found)

pub returns-in-None : goal.returns-in-None
returns-in-None c =
    let o = c.self.inside.over in
    let leaf = c.args.leaf.now in
    let found = sum-found o.base.now c.self.invariant.ordered.leaves o.sums.entries c.sums.result.now.entries leaf None
    c.sums.ensures.entries c.in-None.ensures in
    subst (λ (z : PendingOf). false ≡ is_named (told z.now) leaf) c.self.view_is
    (sym (named-none (now_of o).live (now_of o).sums leaf c.self.invariant.summed found))
