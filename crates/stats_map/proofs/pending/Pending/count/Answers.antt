use Rattle.std.proofs.Common.{◌≡◌, ℕ, subst, ◌∙◌}
use Rattle.std.specs.Prelude.{Some, None}
use Rattle.stats_map.specs.Counting.{count}
use Rattle.stats_map.specs.Overlay.{now_of}
use Rattle.stats_map.specs.Pending.{PendingOf}
use Rattle.stats_map.specs.Told.{told}
use Rattle.stats_map.proofs.Laying.{sum-found}
use Rattle.stats_map.proofs.Reporting.{count-bytes, count-packets, none-bytes, none-packets}
use Rattle.stats_map.proofs.pending.Pending.count.Goals as goal

both : {a b c d : ℕ} → a ≡ c → b ≡ d → ◌≡◌ {A = ℕ × ℕ} (a, b) (c, d)
both e f = λ i. (e i, f i)

pub returns-in-Some : goal.returns-in-Some
returns-in-Some c =
    let o = c.self.inside.over in
    let leaf = c.args.leaf.now in
    let found = sum-found o.base.now c.self.invariant.ordered.leaves o.sums.entries c.sums.result.now.entries leaf
    (Some c.in-Some.sum.now) c.sums.ensures.entries c.in-Some.ensures in
    subst (λ (z : PendingOf). ◌≡◌ {A = ℕ × ℕ} c.count.result
    ((count (told z.now) leaf).packets, (count (told z.now) leaf).bytes)) c.self.view_is
    (both (c.count.ensures.packets ∙ count-packets (now_of o).live (now_of o).sums leaf c.self.invariant.summed
    c.in-Some.sum.now found)
    (c.count.ensures.bytes ∙ count-bytes (now_of o).live (now_of o).sums leaf c.self.invariant.summed c.in-Some.sum.now
    found))

pub returns-in-None : goal.returns-in-None
returns-in-None c =
    let o = c.self.inside.over in
    let leaf = c.args.leaf.now in
    let found = sum-found o.base.now c.self.invariant.ordered.leaves o.sums.entries c.sums.result.now.entries leaf None
    c.sums.ensures.entries c.in-None.ensures in
    subst (λ (z : PendingOf). ◌≡◌ {A = ℕ × ℕ} (0, 0)
    ((count (told z.now) leaf).packets, (count (told z.now) leaf).bytes)) c.self.view_is
    (both (none-packets (now_of o).live (now_of o).sums leaf c.self.invariant.summed found)
    (none-bytes (now_of o).live (now_of o).sums leaf c.self.invariant.summed found))
