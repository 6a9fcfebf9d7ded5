use Rattle.std.proofs.Common.{ap, subst, sym, ◌∙◌}
use Rattle.incr_compile.specs.Trees.{tree_of}
use Rattle.fitting_changes.specs.Composers.{IsComposed}
use Rattle.fitting_changes.proofs.composer.Composer.copy.Goals as goal

pub known-requires : goal.known-requires
known-requires c =
    subst (IsComposed c.self.inside.shape c.self.inside.size) (sym c.in_ok-compiled.ensures) c.self.invariant

pub returns : goal.returns
returns c = ap tree_of c.known.ensures ∙ (c.in_ok-compiled.ensures ∙ ap tree_of c.self.view_is)
