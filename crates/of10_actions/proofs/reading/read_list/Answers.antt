use Rattle.std.proofs.Common.{◌≡◌, ◌+◌, ◌∷◌, [], ◌++◌, Ok, Err, drop, sym, ap, ◌∙◌, arith}
use Rattle.std.proofs.lemmas.Result.{err_from_is_err_and}
use Rattle.of10_actions.specs.Kinds.{length_of}
use Rattle.of10_actions.specs.Reading.{action_at, actions_at, reading}
use Rattle.of10_actions.proofs.Lists.{goes_on, within, fails, is_done, gives_fault, read_is_spelled, span, tail_slice}
use Rattle.of10_actions.proofs.Lists.{with_front}
use Rattle.of10_actions.proofs.reading.read_list.Goals as goal

pub returns-in_err-action-clause-reading : goal.returns-in_err-action-clause-reading
returns-in_err-action-clause-reading c =
    let p = err_from_is_err_and c.from_residual-in_err-action.result c.from_residual-in_err-action.ensures.1 in
    let bytes = c.args.bytes.now in
    let at = c.loop-at.at in
    let read : action_at at (drop at bytes) ≡ Err c.in_err-action.field-0.0 =
    ap (action_at at) (sym (tail_slice bytes at)) ∙ sym c.in_err-action.ensures in
    rw (p.1, p.2) (gives_fault c.in_err-action.field-0.0 (reading bytes)
    (fails c.loop-at.list bytes at c.in_err-action.field-0.0 (reading bytes) c.loop-at-test.true read
    c.loop-at.invariant.so_far))

pub loop-at-preserved : goal.loop-at-preserved
loop-at-preserved c =
    let bytes = c.args.bytes.now in
    let at = c.loop-at.at in
    let action = c.in_ok-action.action in
    let read : action_at at (drop at bytes) ≡ Ok action = ap (action_at at) (sym (tail_slice bytes at))
    ∙ sym c.in_ok-action.ensures in
    let long : c.from-at.result ≡ span action = c.from-at.ensures ∙ c.length.ensures ∙ ap length_of c.kind.ensures in
    let so_far : with_front (c.loop-at.list ++ action ∷ [])
    (actions_at 0 (at + span action) (drop (at + span action) bytes)) ≡ reading bytes =
    goes_on c.loop-at.list bytes at action (reading bytes) c.loop-at-test.true read c.loop-at.invariant.so_far in
    rw (c.in_ok-push.ensures.pushed, long)
    (record { within = within bytes at action c.loop-at-test.true read; so_far = so_far })

pub returns-clause-reading : goal.returns-clause-reading
returns-clause-reading c = is_done c.loop-at.list c.args.bytes.now c.loop-at.at (reading c.args.bytes.now)
    c.loop-at-test.false c.loop-at.invariant.so_far

pub returns-clause-found : goal.returns-clause-found
returns-clause-found c =
    let read : Ok c.loop-at.list ≡ reading c.args.bytes.now =
    is_done c.loop-at.list c.args.bytes.now c.loop-at.at (reading c.args.bytes.now) c.loop-at-test.false
    c.loop-at.invariant.so_far in
    let found = read_is_spelled c.args.bytes.now c.loop-at.list (λ i. omega (arith, c.type_inv.bytes i)) (sym read) in
    (found.0, found.1.0)
