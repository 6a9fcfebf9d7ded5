use Rattle.std.proofs.Common.{◌≢◌, subst, sym}
use Rattle.policy_expr.specs.Policy.{members_of, policy_of}
use Rattle.policy_meaning.specs.LeafFact.{EachPair}
use Rattle.incr_compile.specs.Compiling.{IsBuilt}
use Rattle.incr_compile.specs.Trees.{tree_of}
use Rattle.incr_compile.proofs.Built.{once-tree}
use Rattle.incr_compile.proofs.compiled.Compiled.build.Goals as goal

pub invariant_of-result : goal.invariant_of-result
invariant_of-result g c =
    let b : IsBuilt c.args.tables.now c.args.ports.now (policy_of c.args.expr.now)
    (tree_of c.in_ok-build_tree.field-0) = c.in_ok-build_tree.ensures.built in (
      b.is_tree,
      once-tree (tree_of c.in_ok-build_tree.field-0)
          (subst (λ z. EachPair (λ i j. i ≢ j) (members_of z)) (sym b.policy) c.requires.once),
    )
