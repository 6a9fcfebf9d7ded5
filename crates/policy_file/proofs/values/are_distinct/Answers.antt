use Rattle.std.proofs.Common.{◌==◌, ◌∙◌, length, ap}
use Rattle.std.proofs.lemmas.Map.Views.{btree_set_len-from_list}
use Rattle.std.specs.Ordering.{eq_by_cmp}
use Rattle.policy_file.proofs.Distinct.{counted_once}
use Rattle.policy_file.proofs.values.are_distinct.Goals as goal

pub returns : goal.returns
returns g c =
    let xs = c.args.items.now in
    ap (λ n. n == length xs) (c.len.ensures.len
    ∙ btree_set_len-from_list g.met.T.Ord.total xs c.in_ok-set.set c.in_ok-set.ensures)
    ∙ counted_once (eq_by_cmp g.T.Ord.cmp) xs
