use Rattle.std.proofs.Common.{rules, subst}
use Rattle.of10_match.specs.Ranges.{IsMatch}
use Rattle.of10_match.proofs.Covering.{covers_exact}
use Rattle.of10_match.proofs.header.Match.covers.Goals as goal

pub returns-then-asks-9-clause-exact : goal.returns-then-asks-9-clause-exact
returns-then-asks-9-clause-exact c =
    covers_exact _ c.args.self.now c.args.other.now (subst IsMatch c.self.view_is c.self.invariant)
    (subst IsMatch c.other.view_is c.other.invariant) (search rules)

pub returns-else-asks-9-clause-exact : goal.returns-else-asks-9-clause-exact
returns-else-asks-9-clause-exact c =
    covers_exact _ c.args.self.now c.args.other.now (subst IsMatch c.self.view_is c.self.invariant)
    (subst IsMatch c.other.view_is c.other.invariant) (search rules)
