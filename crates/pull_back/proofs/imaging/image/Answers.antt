use Rattle.std.proofs.Common.{sym, subst}
use Rattle.of10_match.specs.Normal.{IsNormal}
use Rattle.pull_back.specs.Pulls.{IsImage}
use Rattle.pull_back.proofs.Exactness.{image_holds}
use Rattle.pull_back.proofs.Normality.{normal-image}
use Rattle.pull_back.proofs.imaging.image.Goals as goal

pub returns-clause-holds : goal.returns-clause-holds
returns-clause-holds c n =
    subst (IsImage c.args.rewrite.now c.args.m.now) (sym c.known_after.ensures)
    (image_holds c.args.rewrite.now c.args.m.now n)

pub returns-clause-normal : goal.returns-clause-normal
returns-clause-normal c n = subst IsNormal (sym c.known_after.ensures) (normal-image c.args.rewrite.now c.args.m.now n)
