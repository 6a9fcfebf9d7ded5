use Rattle.std.proofs.Common.{◌∙◌, Result, Ok, Err, OnErr}
use Rattle.exact_gate.specs.InsideLogs.{present}
use Rattle.exact_gate.proofs.States.{changed-same, earlier-kept, passing-difference, pool-present, present-kept}
use Rattle.exact_gate.proofs.States.{same-sym, same-trans}
use Rattle.exact_gate.proofs.state.change.Goals as goal

-- what holds whatever the answer
after_err : {X E : Type 0} (r : Result X E) (P : Type 0) → P → OnErr r P
after_err (Ok x) P p = tt
after_err (Err e) P p = p

pub returns-in_err-delta-clause-memory : goal.returns-in_err-delta-clause-memory
returns-in_err-delta-clause-memory c =
    after_err c.from_residual-in_err-delta.result _ (λ e. c.in_ok-settle.ensures.candidates e
    ∙ present-kept c.settle.new.state c.make.new.pool c.make.new.log c.make.ensures.same e)

pub returns-in_err-delta-clause-memory_before : goal.returns-in_err-delta-clause-memory_before
returns-in_err-delta-clause-memory_before c =
    after_err c.from_residual-in_err-delta.result _ (λ e. c.in_ok-settle.ensures.before e
    ∙ earlier-kept c.settle.new.state c.make.new.pool c.make.new.log c.make.ensures.same e)

pub returns-clause-after : goal.returns-clause-after
returns-clause-after c =
    let old = present c.args.state.now in
    let pool = c.settle.new.state.pool in
    changed-same pool c.make.new.pool old (present c.keep_last.new.state) c.args.gone.now c.args.come.now
    (same-trans old (present c.settle.new.state) pool c.in_ok-settle.ensures.candidates
    (pool-present c.settle.new.state c.in_ok-settle.ensures.settled)) c.keep_last.ensures.candidates
    c.in_ok-delta.ensures.after

pub returns-clause-gone : goal.returns-clause-gone
returns-clause-gone c =
    let old = present c.args.state.now in
    let pool = c.settle.new.state.pool in
    passing-difference pool c.make.new.pool old (present c.keep_last.new.state) c.in_ok-delta.delta.gone
    (same-sym old pool (same-trans old (present c.settle.new.state) pool c.in_ok-settle.ensures.candidates
    (pool-present c.settle.new.state c.in_ok-settle.ensures.settled))) c.keep_last.ensures.candidates
    c.in_ok-delta.ensures.gone

pub returns-clause-come : goal.returns-clause-come
returns-clause-come c =
    let old = present c.args.state.now in
    let pool = c.settle.new.state.pool in
    passing-difference c.make.new.pool pool (present c.keep_last.new.state) old c.in_ok-delta.delta.come
    c.keep_last.ensures.candidates
    (same-sym old pool (same-trans old (present c.settle.new.state) pool c.in_ok-settle.ensures.candidates
    (pool-present c.settle.new.state c.in_ok-settle.ensures.settled))) c.in_ok-delta.ensures.come
