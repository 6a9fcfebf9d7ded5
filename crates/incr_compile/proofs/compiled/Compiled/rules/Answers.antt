use Rattle.std.proofs.Common.{ap, subst, ◌∙◌}
use Rattle.std.proofs.lemmas.Result.{IfOk-weaker}
use Rattle.policy_meaning.specs.Order.{IsListing}
use Rattle.incr_compile.specs.Compiling.{rules_held}
use Rattle.incr_compile.specs.Trees.{IsTree, made_in, tree_of}
use Rattle.incr_compile.proofs.Applied.{listed-scratch}
use Rattle.incr_compile.proofs.compiled.Compiled.rules.Goals as goal

pub returns-clause-scratch : goal.returns-clause-scratch
returns-clause-scratch c sizes rules o =
    IfOk-weaker c.listed.result _ _ (λ list l.
    listed-scratch sizes rules (tree_of c.args.self.now) list
    (subst (λ z. IsTree (tree_of z)) c.self.view_is c.self.invariant.0) o
    (subst (λ z. IsListing z list) (c.from_vec.ensures ∙ c.in_ok-rules.ensures
    ∙ ap rules_held (c.made.ensures ∙ ap (λ z. made_in (tree_of z)) c.self.view_is)) l))
    c.listed.ensures
