use Rattle.std.proofs.Common.{◌++◌, Option, subst, sym}
use Rattle.std.specs.Prelude.{IsPermutation, option_to_list}
use Rattle.std.proofs.lemmas.Result.{on_ok_weaker}
use Rattle.policy_meaning.specs.declared.rule.Rule.{Rule}
use Rattle.random_changes.proofs.Holding.{put-one}
use Rattle.random_changes.proofs.hops.put.Goals as goal

pub returns-in_ok-copy-in-Some : goal.returns-in_ok-copy-in-Some
returns-in_ok-copy-in-Some c =
    on_ok_weaker c.push.result
    (λ e. subst (λ (o : Option Rule). IsPermutation c.push.new.self (option_to_list o ++ c.args.held.now))
    (sym c.in-Some.is)
    (put-one c.args.held.now c.push.new.self c.in-Some.rule c.in_ok-copy-in-Some.field-0 c.in_ok-copy-in-Some.ensures
    e))
    c.push.ensures.pushed
