use Rattle.std.proofs.Common.{◌≡◌, ◌+◌, ◌∷◌, subst, List, drop}
use Rattle.std.specs.List.{enumerate_from}
use Rattle.std.proofs.lemmas.Result.{err_from_is_err_and}
use Rattle.toml.specs.Data.{Data}
use Rattle.toml.specs.View.{table_view, view}
use Rattle.policy_file.specs.Listed.{items}
use Rattle.policy_file.specs.Plans.{items_of}
use Rattle.policy_file.proofs.ItemSteps.{items_stopped}
use Rattle.policies.proofs.Numbered.{rest_viewed}
use Rattle.policy_file.proofs.item_reader.read_items.Goals as goal

pub returns-in_err-add_item : goal.returns-in_err-add_item
returns-in_err-add_item g c =
    let p = err_from_is_err_and c.from_residual.result c.from_residual.ensures.1 in
    let reads = g.R.ItemReader.reads c.args.reader.now in
    let kind = c.args.kind in
    let n = c.loop-number.number in
    let x = c.index-values-number.result in
    let step = subst (λ (ds : List Data). drop n (enumerate_from 0 ds)
    ≡ (n, view x) ∷ drop (n + 1) (enumerate_from 0 ds)) c.items-values.ensures
    (rest_viewed view c.items-values.result.now n x c.index-values-number.is c.loop-number-test.true) in
    rw (p.1, p.2) (items_stopped reads kind c.loop-number.list
    (drop n (enumerate_from 0 (items (table_view c.args.file.now) kind)))
    (drop (n + 1) (enumerate_from 0 (items (table_view c.args.file.now) kind))) (n, view x)
    (items_of reads kind (table_view c.args.file.now)) _ step c.in_err-add_item.ensures c.loop-number.invariant)
