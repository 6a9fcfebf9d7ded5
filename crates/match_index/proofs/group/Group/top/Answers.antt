use Rattle.std.proofs.Common.{List, Some, None, refl, ap, subst}
use Rattle.match_index.specs.Items.{IsTop}
use Rattle.match_index.specs.Questions.{asks}
use Rattle.match_index.specs.declared.item.Item.{Item}
use Rattle.match_index.proofs.Asked.{top_at}
use Rattle.match_index.proofs.group.Group.top.Goals as goal

pub returns-in-Some-get : goal.returns-in-Some-get
returns-in-Some-get c =
    let P : List Item → Type 0 = λ xs. IsTop (asks c.args.question.now) xs c.top_among.result in
    subst P (ap (λ g. g.items) c.self.view_is)
    (top_at c.self.inside.shape c.args.question.now c.in-Some.place c.self.inside.buckets.entries
    (Some c.in-Some-get.bucket.now) c.top_among.result c.self.invariant c.in-Some.ensures
    c.in-Some-get.ensures.value
    (subst P c.as_slice.ensures c.top_among.ensures))

pub returns-in-None-get : goal.returns-in-None-get
returns-in-None-get c =
    let P : List Item → Type 0 = λ xs. IsTop (asks c.args.question.now) xs None in
    subst P (ap (λ g. g.items) c.self.view_is)
    (top_at c.self.inside.shape c.args.question.now c.in-Some.place c.self.inside.buckets.entries None None
    c.self.invariant c.in-Some.ensures c.in-None-get.ensures.value refl)
