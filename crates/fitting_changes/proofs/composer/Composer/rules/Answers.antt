use Rattle.std.proofs.Common.{IfOk, subst, sym}
use Rattle.std.specs.Prelude.{IsPermutation}
use Rattle.policy_meaning.specs.Order.{IsListing}
use Rattle.policy_meaning.specs.Rules.{rules_of}
use Rattle.incr_compile.specs.Compiling.{IsOf, policy_in, rules_at}
use Rattle.incr_compile.specs.Trees.{tree_of}
use Rattle.fitting_changes.proofs.composer.Composer.rules.Goals as goal

pub returns-clause-listed : goal.returns-clause-listed
returns-clause-listed c = subst (λ z. IfOk c.rules.result (IsListing (rules_at (tree_of z)))) c.self.view_is
    c.rules.ensures.listed

pub returns-clause-scratch : goal.returns-clause-scratch
returns-clause-scratch c sizes rules o =
    subst (λ z. IfOk c.rules.result (IsPermutation (rules_of sizes rules (policy_in (tree_of z))))) c.self.view_is
    (c.rules.ensures.scratch sizes rules (subst (λ z. IsOf sizes rules (tree_of z)) (sym c.self.view_is) o))
