use Rattle.std.proofs.Common.{◌∙◌}
use Rattle.policy_expr.proofs.SizeLemmas.{sum_measured, concat_measured}
use Rattle.policy_expr.proofs.expr.Expr.+size_and_rest.Goals as goal

pub returns-in-Par-clause-size : goal.returns-in-Par-clause-size
returns-in-Par-clause-size t c =
    rw (c.in-Par.is, ← c.deref.ensures, ← c.deref-in-Par.ensures)
    (c.size_sum.ensures ∙ sum_measured _ _ _ _ _ _ (record {
      left = c.size_and_rest-a.ensures.size;
      between = c.size_and_rest-a.ensures.rest;
      right = c.size_and_rest-b.ensures.size;
    }))

pub returns-in-Seq-clause-size : goal.returns-in-Seq-clause-size
returns-in-Seq-clause-size t c =
    rw (c.in-Seq.is, ← c.deref-in-Seq.ensures, ← c.deref-in-Seq-2.ensures)
    (c.size_concat.ensures ∙ concat_measured _ _ _ _ _ _ (record {
      left = c.size_and_rest-a-in-Seq.ensures.size;
      between = c.size_and_rest-a-in-Seq.ensures.rest;
      right = c.size_and_rest-b-in-Seq.ensures.size;
    }))
