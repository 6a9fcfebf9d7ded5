use Rattle.std.proofs.Common.{◌≡◌, ◌∙◌, ap, sym, subst, subst₂, map, rules, Bool, List, ◌++◌, Option}
use Rattle.std.specs.Map.Iter.{deref}
use Rattle.std.proofs.lemmas.Map.Iter.{iter_end}
use Rattle.indexmap.specs.IndexMap.{values}
use Rattle.match_index.specs.Items.{IsTop}
use Rattle.match_index.specs.Questions.{asks}
use Rattle.match_index.specs.declared.item.Item.{Item}
use Rattle.match_index.proofs.Lists.{joined, joined_buckets, joined_pushed}
use Rattle.match_index.proofs.Tops.{top_both}
use Rattle.match_index.proofs.group.top_of_all.Goals as goal

pub loop-bucket-preserved : goal.loop-bucket-preserved
loop-bucket-preserved c =
    let p : Item → Bool = asks c.args.question.now in
    let so_far : List Item = joined (map deref c.loop-bucket.yielded) in
    let P : Option Item → List Item → Type 0 = λ o xs. IsTop p xs o in
    subst₂ P (sym c.before-top.ensures) (ap (λ xs. so_far ++ xs) c.as_slice.ensures
    ∙ sym (joined_pushed deref c.loop-bucket.yielded c.in-Some.bucket))
    (top_both p so_far c.as_slice.result.now c.loop-bucket.top c.top_among.result c.loop-bucket.invariant
    c.top_among.ensures)

pub returns : goal.returns
returns c =
    let e : map deref c.loop-bucket.yielded ≡ values c.args.buckets.now = search (rules, iter_end) in
    let P : List Item → Type 0 = λ xs. IsTop (asks c.args.question.now) xs c.loop-bucket.top in
    subst P (ap joined e ∙ joined_buckets c.args.buckets.now.entries) c.loop-bucket.invariant
