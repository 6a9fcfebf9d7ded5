use Rattle.std.proofs.Common.{rules, subst}
use Rattle.of10_match.specs.Ranges.{IsMatch}
use Rattle.of10_match.proofs.Overlapping.{overlaps_exact}
use Rattle.of10_match.proofs.header.Match.overlaps.Goals as goal

pub returns-then-agree-9-clause-exact : goal.returns-then-agree-9-clause-exact
returns-then-agree-9-clause-exact c =
    overlaps_exact _ c.args.self.now c.args.other.now (subst IsMatch c.self.view_is c.self.invariant)
    (subst IsMatch c.other.view_is c.other.invariant) (search rules)

pub returns-else-agree-9-clause-exact : goal.returns-else-agree-9-clause-exact
returns-else-agree-9-clause-exact c =
    overlaps_exact _ c.args.self.now c.args.other.now (subst IsMatch c.self.view_is c.self.invariant)
    (subst IsMatch c.other.view_is c.other.invariant) (search rules)
