use Rattle.std.proofs.Common.{◌∙◌, ◌++◌, ap}
use Rattle.shared_rows.specs.Rows.{by_key}
use Rattle.shared_rows.proofs.Put.{risen}
use Rattle.shared_rows.proofs.Sorting.{sorted_rises}
use Rattle.told_batches.proofs.change.change_of.Goals as goal

-- rows by key that are put by key stay as they are
pub returns-clause-standing : goal.returns-clause-standing
returns-clause-standing c =
    let after = c.append.new.self in
    let is = c.in_ok-append.ensures.appended ∙ ap (λ ws. c.args.parted.staying ++ ws) c.in_ok-copy.ensures in
    c.in_ok-standing.ensures
    ∙ (ap by_key c.in_ok-sorted.ensures ∙ (risen (by_key after) (sorted_rises after) ∙ ap by_key is))
