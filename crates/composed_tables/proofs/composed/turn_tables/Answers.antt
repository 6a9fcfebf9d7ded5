use Rattle.std.proofs.Common.{◌≡◌, ℕ, List, length, map, ap, sym, subst, ◌∙◌, arith}
use Rattle.std.specs.List.{range_with_len, refill}
use Rattle.std.proofs.lemmas.List.FromFn.{length-map-range_with_len}
use Rattle.exact_gate.specs.declared.delta.GateDelta.{GateDelta}
use Rattle.switch_tables.specs.Tables.{SwitchTableOf}
use Rattle.switch_tables.specs.Turning.{AreKept}
use Rattle.switch_tables.proofs.Outcomes.{on-err}
use Rattle.composed_tables.specs.Placing.{entry_delta}
use Rattle.composed_tables.proofs.After.{refilled, same-kept, turned-lent}
use Rattle.composed_tables.proofs.composed.turn_tables.Goals as goal

pub change_all-requires-clause-deltas : goal.change_all-requires-clause-deltas
change_all-requires-clause-deltas c =
    let f = entry_delta c.args.wiring.now c.args.switches.now c.args.deltas.now in
    let items = ap (λ (z : List GateDelta). length z) c.as_slice.ensures in
    let all = ap (λ (z : List GateDelta). length z) c.in_ok-all.ensures in
    let long = length-map-range_with_len f 0 c.len-count.result in
    let lent = ap (λ (z : List SwitchTableOf). length z) c.as_mut_slice.ensures.value in
    let count = c.len-count.ensures in
    omega (arith, items, all, long, lent, count)

pub change_all-requires-clause-ups : goal.change_all-requires-clause-ups
change_all-requires-clause-ups c =
    let lent = ap (λ (z : List SwitchTableOf). length z) c.as_mut_slice.ensures.value in
    let ups = c.requires.ups in
    omega (arith, lent, ups)

pub returns-in_err-all-clause-memory : goal.returns-in_err-all-clause-memory
returns-in_err-all-clause-memory c = on-err c.from_residual.result _ (same-kept c.args.tables.now)

pub returns-in_err-batches-clause-long : goal.returns-in_err-batches-clause-long
returns-in_err-batches-clause-long c =
    let tables = c.args.tables.now in
    let new = c.change_all.new.tables in
    let lent : c.as_mut_slice.result.now ≡ tables = c.as_mut_slice.ensures.value in
    let long = c.in_err-batches.ensures.long ∙ ap (λ (z : List SwitchTableOf). length z) lent in
    ap (λ (z : List SwitchTableOf). length z) (refilled tables new long) ∙ long

pub returns-in_err-batches-clause-memory : goal.returns-in_err-batches-clause-memory
returns-in_err-batches-clause-memory c =
    let tables = c.args.tables.now in
    let new = c.change_all.new.tables in
    let lent : c.as_mut_slice.result.now ≡ tables = c.as_mut_slice.ensures.value in
    let long = c.in_err-batches.ensures.long ∙ ap (λ (z : List SwitchTableOf). length z) lent in
    on-err c.from_residual-in_err-batches.result _
    (subst (λ (z : List SwitchTableOf). AreKept tables z) (sym (refilled tables new long))
    (subst (λ (z : List SwitchTableOf). AreKept z new) lent c.in_err-batches.ensures.memory))

pub returns-clause-long : goal.returns-clause-long
returns-clause-long c =
    let tables = c.args.tables.now in
    let new = c.change_all.new.tables in
    let lent : c.as_mut_slice.result.now ≡ tables = c.as_mut_slice.ensures.value in
    let long = c.in_ok-batches.ensures.long ∙ ap (λ (z : List SwitchTableOf). length z) lent in
    ap (λ (z : List SwitchTableOf). length z) (refilled tables new long) ∙ long

pub returns-clause-count : goal.returns-clause-count
returns-clause-count c = c.in_ok-batches.ensures.count
    ∙ ap (λ (z : List SwitchTableOf). length z) c.as_mut_slice.ensures.value

pub returns-clause-turned : goal.returns-clause-turned
returns-clause-turned c =
    let tables = c.args.tables.now in
    let new = c.change_all.new.tables in
    let f = entry_delta c.args.wiring.now c.args.switches.now c.args.deltas.now in
    let lent : c.as_mut_slice.result.now ≡ tables = c.as_mut_slice.ensures.value in
    let long = c.in_ok-batches.ensures.long ∙ ap (λ (z : List SwitchTableOf). length z) lent in
    let deltas = c.as_slice.ensures
    ∙ (c.in_ok-all.ensures ∙ ap (λ (k : ℕ). map f (range_with_len 0 k)) c.len-count.ensures) in
    turned-lent tables c.as_mut_slice.result.now new (refill (length tables) tables new) c.as_slice.result.now
    (map f (range_with_len 0 (length tables))) c.args.next c.in_ok-batches.batches lent (refilled tables new long)
    deltas c.in_ok-batches.ensures.turned
