use Rattle.std.specs.Prelude.{IfSome}
use Rattle.std.proofs.Common.{Option, length, refl, ap, sym, subst, ◌∙◌}
use Rattle.agreement.specs.Entries.{entries_of}
use Rattle.switch_meaning.proofs.Items.{some_injective}
use Rattle.switch_tables.specs.Turning.{HaveNow}
use Rattle.switch_tables.proofs.Outcomes.{on-err}
use Rattle.composed_tables.specs.Composing.{ComposedOf}
use Rattle.composed_tables.specs.Rules.{AreRulesOf, AreTied, RulesOf}
use Rattle.composed_tables.proofs.composed.Composed.restore.Goals as goal

pub invariant_of-self : goal.invariant_of-self
invariant_of-self g c = (
  subst (λ (z : Option RulesOf). IfSome z AreTied) (sym c.put_rules.ensures) c.in_ok-rules.ensures.tied,
  c.self.invariant.1,
)

pub returns-clause-of : goal.returns-clause-of
returns-clause-of g c =
    let s = c.args.setting.now in
    let o = c.requires.of in
    record {
      wiring = ap (λ (z : ComposedOf). z.wiring) c.self.view_is ∙ o.wiring;
      switches = ap (λ (z : ComposedOf). z.switches) c.self.view_is ∙ o.switches;
      rules = λ r e. subst (AreRulesOf s) (some_injective (sym c.put_rules.ensures ∙ e)) c.in_ok-rules.ensures.rules;
      tables = subst (HaveNow (entries_of s)) (sym (ap (λ (z : ComposedOf). z.tables) c.self.view_is)) o.tables;
      count = ap (λ (z : ComposedOf). length z.tables) c.self.view_is ∙ o.count;
    }

pub returns-clause-plan : goal.returns-clause-plan
returns-clause-plan g c r e = ap (λ (z : RulesOf). z.hops.plan) (sym (some_injective (sym c.put_rules.ensures ∙ e)))
    ∙ c.in_ok-rules.ensures.plan

pub returns-in_err-rules-clause-memory : goal.returns-in_err-rules-clause-memory
returns-in_err-rules-clause-memory g c = on-err c.from_residual.result _ refl
