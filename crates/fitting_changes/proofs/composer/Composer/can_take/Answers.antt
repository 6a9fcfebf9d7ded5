use Rattle.std.proofs.Common.{subst}
use Rattle.incr_compile.specs.Trees.{tree_of}
use Rattle.fitting_changes.specs.Composers.{CanTake}
use Rattle.fitting_changes.proofs.Composers.{can-take}
use Rattle.fitting_changes.proofs.composer.Composer.can_take.Goals as goal

pub returns : goal.returns
returns c t =
    subst (λ z. CanTake c.args.delta.now (tree_of z)) c.self.view_is
    (can-take c.self.inside.shape c.self.inside.size (tree_of c.self.inside.compiled) c.args.delta.now c.self.invariant
    (c.fits.ensures t))
