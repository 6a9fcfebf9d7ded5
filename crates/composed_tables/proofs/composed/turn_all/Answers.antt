use Rattle.std.proofs.Common.{sym, subst}
use Rattle.switch_tables.proofs.Outcomes.{on-err}
use Rattle.composed_tables.specs.Composing.{AreExact, rules_in}
use Rattle.composed_tables.proofs.After.{same-kept}
use Rattle.composed_tables.proofs.composed.turn_all.Goals as goal

pub returns-in_err-deltas-clause-memory : goal.returns-in_err-deltas-clause-memory
returns-in_err-deltas-clause-memory g c = on-err c.from_residual.result _ (same-kept c.args.tables.now)

pub returns-in_err-batches-clause-memory : goal.returns-in_err-batches-clause-memory
returns-in_err-batches-clause-memory g c =
    on-err c.from_residual-in_err-batches.result _ c.in_err-batches.ensures.memory

pub returns-clause-moved : goal.returns-clause-moved
returns-clause-moved g c =
    let e = c.in_ok-deltas.ensures in
    record {
      tied = e.tied;
      plan = e.plan;
      rules = e.rules;
      deltas = c.as_slice.result.now;
      exact = λ before after of ch. subst (AreExact before.network.switches (rules_in before) (rules_in after))
          (sym c.as_slice.ensures) (e.exact before after of ch);
      count = c.in_ok-batches.ensures.count;
      turned = c.in_ok-batches.ensures.turned;
    }

pub returns-in_err-deltas-clause-steps : goal.returns-in_err-deltas-clause-steps
returns-in_err-deltas-clause-steps g c before after of ch = c.apply.ensures.steps before after of ch

pub returns-in_err-batches-clause-steps : goal.returns-in_err-batches-clause-steps
returns-in_err-batches-clause-steps g c before after of ch = c.apply.ensures.steps before after of ch

pub returns-clause-steps : goal.returns-clause-steps
returns-clause-steps g c before after of ch = c.apply.ensures.steps before after of ch
