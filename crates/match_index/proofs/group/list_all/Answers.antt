use Rattle.std.proofs.Common.{◌≡◌, ◌∙◌, ap, sym, refl, map, rules, Bool, List, ◌++◌}
use Rattle.std.specs.Map.Iter.{deref}
use Rattle.std.proofs.lemmas.Map.Iter.{iter_end}
use Rattle.indexmap.specs.IndexMap.{values}
use Rattle.match_index.specs.Items.{ids_of}
use Rattle.match_index.specs.Questions.{asks}
use Rattle.match_index.specs.declared.item.Item.{Item}
use Rattle.match_index.proofs.Lists.{joined, joined_buckets, joined_pushed, listed_more}
use Rattle.match_index.proofs.group.list_all.Goals as goal

pub loop-bucket-preserved : goal.loop-bucket-preserved
loop-bucket-preserved c =
    let p : Item → Bool = asks c.args.question.now in
    let so_far : List Item = joined (map deref c.loop-bucket.yielded) in
    c.in_ok-list_among.ensures
    ∙ (listed_more p c.args.ids.now.items c.loop-bucket.ids.items (ids_of p c.as_slice.result.now) so_far
    c.as_slice.result.now c.loop-bucket.invariant refl
    ∙ ap (λ xs. c.args.ids.now.items ++ ids_of p xs) (ap (λ xs. so_far ++ xs) c.as_slice.ensures
    ∙ sym (joined_pushed deref c.loop-bucket.yielded c.in-Some.bucket)))

pub returns : goal.returns
returns c =
    let e : map deref c.loop-bucket.yielded ≡ values c.args.buckets.now = search (rules, iter_end) in
    c.loop-bucket.invariant ∙ ap (λ xs. c.args.ids.now.items ++ ids_of (asks c.args.question.now) xs)
    (ap joined e ∙ joined_buckets c.args.buckets.now.entries)
