use Rattle.std.proofs.Common.{◌≡◌, ◌∙◌, ◌+◌, ℕ, Ok, [], ◌∷◌, ap, subst, drop, map}
use Rattle.std.specs.List.{enumerate_from}
use Rattle.std.proofs.lemmas.List.{map-append}
use Rattle.policy_expr.specs.Policy.{policy_of}
use Rattle.virtual_topology.proofs.Steps.{numbered_at}
use Rattle.policies.specs.Exprs.{expr_of, exprs_of}
use Rattle.policies.proofs.Expressions.{all_next, all_read}
use Rattle.policies.proofs.Numbered.{none_left}
use Rattle.policies.proofs.switch_exprs.exprs.Goals as goal

pub loop-v-preserved : goal.loop-v-preserved
loop-v-preserved c =
    let es = enumerate_from 0 c.args.virtuals.now in
    all_next (expr_of c.args.members.now) (drop c.loop-v.v es) (drop (c.loop-v.v + 1) es)
    (c.loop-v.v, c.index-virtuals-v.result)
    (map policy_of c.loop-v.exprs) (map policy_of c.push.new.self) (policy_of c.in_ok-expr.field-0)
    (exprs_of c.args.virtuals.now c.args.members.now)
    (numbered_at c.args.virtuals.now c.loop-v.v c.index-virtuals-v.result c.loop-v-test.true c.index-virtuals-v.is)
    (subst (λ (k : ℕ). expr_of c.args.members.now (k, c.index-virtuals-v.result) ≡ Ok (policy_of c.in_ok-expr.field-0))
    c.in_ok-number.ensures c.in_ok-expr.ensures.read)
    (ap (map policy_of) c.in_ok-push.ensures.pushed ∙ map-append policy_of c.loop-v.exprs (c.in_ok-expr.field-0 ∷ []))
    c.loop-v.invariant

pub returns-clause-read : goal.returns-clause-read
returns-clause-read c =
    all_read (expr_of c.args.members.now) (drop c.loop-v.v (enumerate_from 0 c.args.virtuals.now))
    (map policy_of c.loop-v.exprs) (exprs_of c.args.virtuals.now c.args.members.now)
    (none_left c.args.virtuals.now c.loop-v.v c.loop-v-test.false) c.loop-v.invariant
