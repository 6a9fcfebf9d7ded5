use Rattle.std.proofs.Common.{rules, IfSome}
use Rattle.std.specs.Prelude.{IfOk, Option}
use Rattle.of10_match.specs.Ranges.{IsMatch}
use Rattle.policy_meaning.specs.declared.rule.Rule.{Rule}
use Rattle.op_compose.proofs.Telling.{none_at, holds_at, normal_at, on_ok, on_both_ok}
use Rattle.op_compose.proofs.joining.join.Goals as goal

pub returns-clause-none : goal.returns-clause-none
returns-clause-none g c n =
    let m : IfOk c.pair.result (λ (o : Option Rule). IfSome o (λ (r : Rule). IsMatch r.m)) = search rules in
    on_both_ok c.pair.result _ _ _
    (λ o e i. none_at c.args.op c.args.size c.args.a.now c.args.b.now o e c.requires.joins n i) c.pair.ensures m

pub returns-clause-holds : goal.returns-clause-holds
returns-clause-holds g c n =
    on_ok c.pair.result _ _ (λ o e. holds_at c.args.op c.args.size c.args.a.now c.args.b.now o e c.requires.joins n)
    c.pair.ensures

pub returns-clause-normal : goal.returns-clause-normal
returns-clause-normal g c p q =
    on_ok c.pair.result _ _ (λ o e. normal_at c.args.op c.args.size c.args.a.now c.args.b.now o e p q) c.pair.ensures
