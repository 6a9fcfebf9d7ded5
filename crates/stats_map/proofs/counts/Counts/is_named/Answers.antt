use Rattle.std.proofs.Common.{◌≡◌, nat_lt, sym, subst}
use Rattle.stats_map.specs.Counting.{is_named}
use Rattle.stats_map.specs.Told.{HeldOf, told}
use Rattle.stats_map.proofs.Reporting.{named-some}
use Rattle.stats_map.proofs.counts.Counts.is_named.Goals as goal

pub returns-in-Some : goal.returns-in-Some
returns-in-Some c =
    subst (λ (z : HeldOf). nat_lt 0 c.in-Some.sum.now.live ≡ is_named (told z) c.args.leaf.now) c.self.view_is
    (named-some c.self.inside.live.entries c.self.inside.sums.entries c.args.leaf.now c.self.invariant c.in-Some.sum.now
    (sym c.in-Some.ensures.value))
