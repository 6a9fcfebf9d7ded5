use Rattle.std.proofs.Common.{◌≡◌, ℕ, List, subst, sym}
use Rattle.hop_rules.specs.Building.{size_at}
use Rattle.hop_rules.proofs.Risings.{ones-more}
use Rattle.hop_rules.proofs.building.no_hop_sizes.Goals as goal

pub loop-one-preserved : goal.loop-one-preserved
loop-one-preserved c = subst (λ (xs : List ℕ). (k : ℕ)
    → size_at xs k ≡ 1) (sym c.in_ok-push.ensures.items) (ones-more c.loop-one.sizes.items c.loop-one.invariant)
