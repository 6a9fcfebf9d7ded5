use Rattle.std.proofs.Common.{List, length, ap, sym, subst, ◌∙◌, arith}
use Rattle.policy_meaning.specs.Switches.{SwitchOf}
use Rattle.switch_meaning.proofs.Items.{some_injective}
use Rattle.composed_tables.specs.Rules.{AreRulesOf, RulesOf}
use Rattle.composed_tables.proofs.composed.Composed.build.Goals as goal

pub invariant_of-result : goal.invariant_of-result
invariant_of-result g c =
    let switches = ap (λ (z : List SwitchOf). length z) c.in_ok-switches.ensures in
    let fit = c.requires.fits.switches in
    let count = c.in_ok-tables.ensures.count in
    let few = c.requires.few in
    (c.in_ok-rules.ensures.tied, (omega (arith, switches, fit), omega (arith, count, few)))

pub returns-clause-of : goal.returns-clause-of
returns-clause-of g c = record {
  wiring = c.in_ok-wiring.ensures;
  switches = c.in_ok-switches.ensures;
  rules = λ r e. subst (AreRulesOf c.args.setting.now) (some_injective e) c.in_ok-rules.ensures.rules;
  tables = c.in_ok-tables.ensures.now;
  count = c.in_ok-tables.ensures.count;
}

pub returns-clause-plan : goal.returns-clause-plan
returns-clause-plan g c r e = ap (λ (z : RulesOf). z.hops.plan) (sym (some_injective e)) ∙ c.in_ok-rules.ensures.plan
