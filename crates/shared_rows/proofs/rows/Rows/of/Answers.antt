use Rattle.std.proofs.Common.{◌∙◌, ◌++◌, [], ◌∷◌, ap, subst, sym}
use Rattle.shared_rows.specs.Rows.{Rise, by_key}
use Rattle.shared_rows.proofs.Sorting.{sorted_again, sorted_rises}
use Rattle.shared_rows.proofs.rows.Rows.of.Goals as goal

pub loop-row-preserved : goal.loop-row-preserved
loop-row-preserved c =
    let now = c.loop-row in
    let rise = subst Rise (sym now.invariant) (sorted_rises now.yielded) in
    c.in_ok-all.ensures rise
    ∙ (ap (λ rows. by_key (rows ++ c.in-Some.row ∷ [])) now.invariant
    ∙ sorted_again now.yielded (c.in-Some.row ∷ []))
