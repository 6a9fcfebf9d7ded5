use Rattle.std.proofs.Common.{◌∙◌, ap}
use Rattle.std.proofs.lemmas.Result.{IfOk-weaker}
use Rattle.exact_gate.specs.Finding.{Reaches}
use Rattle.exact_gate.specs.Standing.{stands_in}
use Rattle.exact_gate.proofs.Pooled.{pool_reaches}
use Rattle.exact_gate.proofs.pool.Pool.reached.Goals as goal

pub returns : goal.returns
returns c =
    let k = c.args.key.now in
    IfOk-weaker c.reached.result (Reaches k c.self.inside.finder) _
    (λ keys r e s t. pool_reaches k c.self.inside.buckets.entries c.self.inside.finder c.self.inside.next keys
    c.self.invariant.0 c.self.invariant.1 r e (ap (λ xs. stands_in xs e) c.self.view_is ∙ s) t) c.reached.ensures
