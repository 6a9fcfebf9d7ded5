use Rattle.policy_expr.specs.Policy.{policy_of}
use Rattle.policy_meaning.proofs.NodeSteps.{parallel-size, sequential-size}
use Rattle.policy_meaning.proofs.scratch.+expression_size.Goals as goal

pub returns-in-Par : goal.returns-in-Par
returns-in-Par t c =
    rw (c.in-Par.is, ← c.deref.ensures, ← c.deref-in-Par.ensures)
    (parallel-size c.args.tables.now c.requires (policy_of c.deref.result.now) (policy_of c.deref-in-Par.result.now)
    c.expression_size.result c.expression_size-in-Par.result c.size_sum.result c.expression_size.ensures
    c.expression_size-in-Par.ensures c.size_sum.ensures)

pub returns-in-Seq : goal.returns-in-Seq
returns-in-Seq t c =
    rw (c.in-Seq.is, ← c.deref-in-Seq.ensures, ← c.deref-in-Seq-2.ensures)
    (sequential-size c.args.tables.now c.requires (policy_of c.deref-in-Seq.result.now)
    (policy_of c.deref-in-Seq-2.result.now) c.expression_size-in-Seq.result c.expression_size-in-Seq-2.result
    c.size_concat.result c.expression_size-in-Seq.ensures c.expression_size-in-Seq-2.ensures c.size_concat.ensures)
