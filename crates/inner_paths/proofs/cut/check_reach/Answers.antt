use Rattle.std.proofs.Common.{◌≡◌, ◌<◌, ◌∙◌, length, ap, subst, sym, arith}
use Rattle.std.proofs.lemmas.Result.{err_from_is_err_and}
use Rattle.std.specs.List.{range_with_len}
use Rattle.virtual_topology.proofs.Checks.{ended, passed_on, stopped_at}
use Rattle.inner_paths.specs.declared.fault.PathFault.TheVariants.{Memory}
use Rattle.inner_paths.specs.Cuts.{cut_of}
use Rattle.virtual_topology.specs.declared.plan.TopologyPlan.{TopologyPlan}
use Rattle.inner_paths.proofs.Rows.{range_at, range_long}
use Rattle.inner_paths.proofs.cut.check_reach.Goals as goal

pub returns-in_err-check_virtual : goal.returns-in_err-check_virtual
returns-in_err-check_virtual c =
    let p = err_from_is_err_and c.from_residual.result c.from_residual.ensures.1 in
    let n = length c.args.topology.now.virtuals in
    let all : c.len-count.result ≡ n = c.len-count.ensures
    ∙ ap (λ (plan : TopologyPlan). length plan.virtuals) c.plan.ensures.plan in
    rw (p.1, p.2) (stopped_at Memory (cut_of c.args.topology.now) (range_with_len 0 n) c.loop-v.v c.loop-v.v _
    (range_at n c.loop-v.v (subst (λ k. c.loop-v.v < k) all c.loop-v-test.true)) c.in_err-check_virtual.ensures
    c.loop-v.invariant)

pub loop-v-preserved : goal.loop-v-preserved
loop-v-preserved c =
    let n = length c.args.topology.now.virtuals in
    let all : c.len-count.result ≡ n = c.len-count.ensures
    ∙ ap (λ (plan : TopologyPlan). length plan.virtuals) c.plan.ensures.plan in
    let lt : c.loop-v.v < n = subst (λ k. c.loop-v.v < k) all c.loop-v-test.true in
    passed_on (cut_of c.args.topology.now) (range_with_len 0 n) c.loop-v.v c.loop-v.v
    (subst (λ k. c.loop-v.v < k) (sym (range_long n)) lt) (range_at n c.loop-v.v lt) c.in_ok-check_virtual.ensures
    c.loop-v.invariant

pub returns : goal.returns
returns c =
    let n = length c.args.topology.now.virtuals in
    let all : c.len-count.result ≡ n = c.len-count.ensures
    ∙ ap (λ (plan : TopologyPlan). length plan.virtuals) c.plan.ensures.plan in
    ended (cut_of c.args.topology.now) (range_with_len 0 n) c.loop-v.v
    (omega (arith, range_long n, all, c.loop-v-test.false)) c.loop-v.invariant
