use Rattle.std.proofs.Common.{◌≡◌, ℕ, sym, subst}
use Rattle.stats_map.specs.Counting.{count}
use Rattle.stats_map.specs.Told.{HeldOf, told}
use Rattle.stats_map.proofs.Reporting.{none-bytes, none-packets}
use Rattle.stats_map.proofs.counts.Counts.count.Goals as goal

both : {a b c d : ℕ} → a ≡ c → b ≡ d → ◌≡◌ {A = ℕ × ℕ} (a, b) (c, d)
both e f = λ i. (e i, f i)

pub returns-in-None : goal.returns-in-None
returns-in-None c =
    let none = sym c.in-None.ensures.value in
    let live = c.self.inside.live.entries in
    let sums = c.self.inside.sums.entries in
    subst (λ (z : HeldOf). ◌≡◌ {A = ℕ × ℕ} (0, 0)
    ((count (told z) c.args.leaf.now).packets, (count (told z) c.args.leaf.now).bytes)) c.self.view_is
    (both (none-packets live sums c.args.leaf.now c.self.invariant none)
    (none-bytes live sums c.args.leaf.now c.self.invariant none))
