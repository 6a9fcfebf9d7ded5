use Rattle.std.proofs.Common.{◌∙◌, sym, arith}
use Rattle.hop_rules.specs.Building.{size_at}
use Rattle.hop_rules.proofs.Risings.{greatest-all, greatest-one}
use Rattle.hop_rules.proofs.building.peers_size.Goals as goal

pub loop-exit-init : goal.loop-exit-init
loop-exit-init c = record {
  positive = omega arith;
  greatest = greatest-one (size_at c.args.sizes.now) c.args.exits.now;
}

pub returns : goal.returns
returns c =
    sym (greatest-all (size_at c.args.sizes.now) c.args.exits.now c.loop-exit.exit-index c.loop-exit.greatest
    c.loop-exit-test.false c.loop-exit.invariant.positive) ∙ c.loop-exit.invariant.greatest
