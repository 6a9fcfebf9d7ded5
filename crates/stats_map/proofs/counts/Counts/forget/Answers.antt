use Rattle.std.proofs.Common.{◌≡◌, subst}
use Rattle.stats_map.specs.Counting.{forgot}
use Rattle.stats_map.specs.InsideSums.{seen}
use Rattle.stats_map.specs.Told.{HeldOf, told}
use Rattle.stats_map.proofs.Reporting.{forgot-seen, forgot-sums}
use Rattle.stats_map.proofs.counts.Counts.forget.Goals as goal

pub invariant_of-self : goal.invariant_of-self
invariant_of-self c = forgot-sums c.self.inside.live.entries c.self.inside.sums.entries c.args.leaf.now c.self.invariant
    c.change_each.new.sums.entries c.change_each.ensures

pub returns : goal.returns
returns c =
    subst (λ (z : HeldOf). seen c.self.inside.live.entries c.change_each.new.sums.entries
    ≡ forgot c.args.leaf.now (told z)) c.self.view_is
    (forgot-seen c.self.inside.live.entries c.self.inside.sums.entries c.args.leaf.now c.self.invariant
    c.change_each.new.sums.entries c.change_each.ensures)
