use Rattle.std.proofs.Common.{List, suc, subst, sym}
use Rattle.std.specs.Prelude.{IsPermutation}
use Rattle.policy_meaning.specs.Hops.{node}
use Rattle.policy_meaning.specs.declared.rule.Rule.{Rule}
use Rattle.hop_rules.proofs.Changing.{rules-are}
use Rattle.hop_rules.proofs.Fitting.{node-fits}
use Rattle.hop_rules.proofs.Scratch.{from-scratch}
use Rattle.hop_rules.proofs.laws.nodes_are_from_scratch.Goals as goal

pub returns-clause-scratch : goal.returns-clause-scratch
returns-clause-scratch c f n at exits rules below held links once given nodes whole =
    subst (λ (z : List Rule). IsPermutation z (node f (suc n) at.v at.port)) (sym (rules-are held))
    (from-scratch f n at exits rules below held links once given nodes whole)

pub returns-clause-fit : goal.returns-clause-fit
returns-clause-fit c f own n v port = node-fits f own n v port
