use Rattle.std.proofs.Common.{◌∙◌, ◌++◌, [], ◌∷◌, ap, append-nil, append_assoc, subst, sym, take}
use Rattle.std.proofs.lemmas.List.{take_all, take_more}
use Rattle.install_plan.specs.declared.written.Written.{Written}
use Rattle.shared_rows.specs.Rows.{Rise, by_key}
use Rattle.shared_rows.proofs.Put.{risen}
use Rattle.shared_rows.proofs.Sorting.{sorted_again, sorted_rises}
use Rattle.told_batches.proofs.told.put_all.Goals as goal

pub loop-row-init : goal.loop-row-init
loop-row-init c rise = sym (ap by_key (append-nil c.args.rows) ∙ risen c.args.rows rise)

pub loop-row-preserved : goal.loop-row-preserved
loop-row-preserved c rise =
    let now = c.loop-row in
    let rows = c.args.rows in
    let come = c.args.come.now in
    let before = now.invariant rise in
    let so_far = rows ++ take now.row-index come in
    let one = c.row-item.result in
    let up = subst Rise (sym before) (sorted_rises so_far) in
    c.in_ok-all.ensures up
    ∙ ((λ i. by_key (before i ++ c.in_ok-copy.ensures i ∷ []))
    ∙ (sorted_again so_far (one ∷ [])
    ∙ ap by_key (append_assoc rows (take now.row-index come) (one ∷ [])
    ∙ ap (λ xs. rows ++ xs) (sym (take_more come now.row-index one c.loop-row-test.true
    ∙ ap (λ (w : Written). take now.row-index come ++ w ∷ []) (sym c.row-item.is))))))

pub returns : goal.returns
returns c rise =
    let last = c.loop-row in
    last.invariant rise ∙ ap (λ xs. by_key (c.args.rows ++ xs))
    (take_all last.row-index c.args.come.now c.loop-row-test.false)
