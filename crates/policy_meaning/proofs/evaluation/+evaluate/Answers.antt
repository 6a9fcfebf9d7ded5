use Rattle.std.proofs.Common.{◌≡◌, IfOk, slice_get, subst}
use Rattle.policy_expr.specs.Policy.{policy_of}
use Rattle.policy_meaning.specs.Networks.{table_meaning as table_meaning_of}
use Rattle.policy_meaning.specs.declared.meaning.Meaning.{Meaning}
use Rattle.policy_meaning.proofs.Evaluating.{chain-evaluated, shift-evaluated}
use Rattle.policy_meaning.proofs.evaluation.+evaluate.Goals as goal

pub returns-in_ok-second-in-Seq : goal.returns-in_ok-second-in-Seq
returns-in_ok-second-in-Seq t c =
    subst (λ (z : Meaning). IfOk c.passes_on.result (λ meaning. meaning ≡ z))
    (rw (c.in-Seq.is, ← c.deref-in-Seq.ensures, ← c.deref-in-Seq-2.ensures)
    (chain-evaluated (λ i. table_meaning_of (slice_get c.args.tables.now i)) (policy_of c.deref-in-Seq.result.now)
    (policy_of c.deref-in-Seq-2.result.now) c.args.header.now c.in_ok-first-in-Seq.first
    c.in_ok-second-in-Seq.second c.in-Pass.rewrite c.in_ok-first-in-Seq.ensures c.in-Pass.is
    (rw (← c.apply.ensures) c.in_ok-second-in-Seq.ensures)))
    c.passes_on.ensures

pub returns-in_ok-second-in-Over : goal.returns-in_ok-second-in-Over
returns-in_ok-second-in-Over t c =
    rw (c.in-Over.is, ← c.deref-in-Over.ensures, ← c.deref-in-Over-2.ensures)
    (shift-evaluated (λ i. table_meaning_of (slice_get c.args.tables.now i)) (policy_of c.deref-in-Over.result.now)
    (policy_of c.deref-in-Over-2.result.now) c.args.header.now c.in_ok-first-in-Over.first
    c.in_ok-second-in-Over.second c.first_touched.result c.in_ok-first-in-Over.ensures
    c.in_ok-second-in-Over.ensures c.first_touched.ensures)
