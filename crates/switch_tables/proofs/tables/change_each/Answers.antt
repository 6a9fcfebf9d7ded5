use Rattle.std.proofs.Common.{ℕ, ◌+◌, ◌<◌, List, length, refl, sym, subst, ◌∙◌, arith}
use Rattle.std.proofs.lemmas.Option.{slice_get_read}
use Rattle.switch_tables.specs.Tables.{CanGoBack}
use Rattle.switch_tables.specs.Turning.{AreTurned, IsTurnedAt}
use Rattle.switch_tables.specs.declared.tables.SwitchBatch.{SwitchBatch}
use Rattle.switch_tables.proofs.Each.{count-more, each-more, rest-more, row-more, same-kept-at, turned-back}
use Rattle.switch_tables.proofs.Each.{turned-more, ups-more}
use Rattle.switch_tables.proofs.Outcomes.{on-err}
use Rattle.switch_tables.proofs.tables.change_each.Goals as goal

pub returns-in_err-push-clause-memory : goal.returns-in_err-push-clause-memory
returns-in_err-push-clause-memory c =
    let base = c.args.tables.now in
    let cur = c.loop-n.tables in
    let new = c.change_nth.new.tables in
    let n = c.loop-n.n in
    let d = c.index-deltas-n.result in
    let e = c.in_ok-batch.ensures in
    on-err c.from_residual-in_err-push.result _ (record {
      back = each-more base cur new n e.others c.loop-n.invariant.rest (λ m x y. CanGoBack x y) c.loop-n.invariant.back
          (λ x y p q. turned-back d.gone d.come c.loop-n.cookie x y c.in_ok-batch.batch (e.turned x y p q));
      rest = λ m le. same-kept-at m base new (rest-more base cur new n e.others c.loop-n.invariant.rest m le);
    })

pub loop-n-preserved : goal.loop-n-preserved
loop-n-preserved c =
    let base = c.args.tables.now in
    let cur = c.loop-n.tables in
    let new = c.change_nth.new.tables in
    let n = c.loop-n.n in
    let next = c.args.next in
    let old = c.loop-n.batches in
    let rows = c.push.new.self in
    let d = c.index-deltas-n.result in
    let e = c.in_ok-batch.ensures in
    let i = c.loop-n.invariant in
    let pushed = c.in_ok-push.ensures.pushed in
    let test = c.loop-n-test.true in
    let long = c.requires.deltas in
    let wide = c.requires.ups in
    let within : n < length c.args.deltas.now = omega arith in
    let at = slice_get_read c.args.deltas.now (length c.args.deltas.now) n d refl within c.index-deltas-n.is in
    record {
      long = e.long ∙ i.long;
      far = refl;
      count = count-more old rows _ n pushed i.count;
      cookie_is = row-more next c.loop-n.cookie c.after_batch-cookie.result old rows _ pushed
          c.after_batch-cookie.ensures i.cookie_is;
      ups_are = ups-more c.args.ups.now old rows n _ c.in_ok-batch.batch pushed i.ups_are (omega arith);
      turned = subst (λ (z : List SwitchBatch). AreTurned (n + 1) c.args.deltas.now next base new z) (sym pushed)
          (turned-more old _ c.args.deltas.now next base cur new n i.count e.others i.rest d at
          (subst (λ (k : ℕ). IsTurnedAt n d k cur new c.in_ok-batch.batch) i.cookie_is e.turned) i.turned);
      back = each-more base cur new n e.others i.rest (λ m x y. CanGoBack x y) i.back
          (λ x y p q. turned-back d.gone d.come c.loop-n.cookie x y c.in_ok-batch.batch (e.turned x y p q));
      rest = rest-more base cur new n e.others i.rest;
    }

pub returns-clause-turned : goal.returns-clause-turned
returns-clause-turned c n d b lt f g =
    let test = c.loop-n-test.false in
    let low : n < c.loop-n.n = omega arith in
    c.loop-n.invariant.turned n d b low f g
