use Rattle.std.proofs.Common.{◌≡◌, ◌∙◌, ◌++◌, List, ℕ, OnOk, Some, None, sym, ap, subst}
use Rattle.match_index.specs.Items.{ids_of}
use Rattle.match_index.specs.Questions.{asks}
use Rattle.match_index.proofs.Asked.{ids_at}
use Rattle.match_index.proofs.Lists.{append_none}
use Rattle.match_index.proofs.group.Group.list.Goals as goal

pub returns-in-Some-get : goal.returns-in-Some-get
returns-in-Some-get c =
    let p = asks c.args.question.now in
    let P : List ℕ
    → Type 0 = λ ns. OnOk c.list_among.result (c.list_among.new.ids.items ≡ c.args.ids.now.items ++ ns) in
    subst P
    (ap (λ xs. ids_of p xs) c.as_slice.ensures
    ∙ (ids_at c.self.inside.shape c.args.question.now c.in-Some.place c.self.inside.buckets.entries
    (Some c.in-Some-get.bucket.now) c.self.invariant c.in-Some.ensures c.in-Some-get.ensures.value
    ∙ ap (λ g. ids_of p g.items) c.self.view_is))
    c.list_among.ensures

pub returns-in-None-get : goal.returns-in-None-get
returns-in-None-get c =
    let p = asks c.args.question.now in
    sym (append_none c.args.ids.now.items)
    ∙ ap (λ ns. c.args.ids.now.items ++ ns)
    (ids_at c.self.inside.shape c.args.question.now c.in-Some.place c.self.inside.buckets.entries None c.self.invariant
    c.in-Some.ensures c.in-None-get.ensures.value
    ∙ ap (λ g. ids_of p g.items) c.self.view_is)
