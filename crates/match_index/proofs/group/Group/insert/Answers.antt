use Rattle.std.proofs.Common.{◌≡◌, ◌∙◌, ◌++◌, ◌∷◌, [], List, OnOk, sym, ap, subst, arith, count_by}
use Rattle.std.specs.List.{All}
use Rattle.of10_match.specs.Fields.{MatchOf}
use Rattle.of10_match.specs.Same.{same_match}
use Rattle.indexmap.proofs.CallerLemmas.{insert_entry-new}
use Rattle.match_index.specs.InsideGroups.{IsBucket, in_buckets}
use Rattle.match_index.specs.Items.{AddsTo}
use Rattle.match_index.specs.declared.item.Item.{Item}
use Rattle.match_index.proofs.Buckets.{bucket_added, bucket_new}
use Rattle.match_index.proofs.Lists.{none_from}
use Rattle.match_index.proofs.group.Group.insert.Goals as goal

pub invariant_of-self : goal.invariant_of-self
invariant_of-self c = c.push_at.ensures.buckets c.self.inside.shape c.self.invariant

entries_are : (c : goal.Joined-branch-3)
    → c.insert.new.self.entries ≡ c.self.inside.buckets.entries ++ (c.args.item.normal, c.args.item ∷ []) ∷ []
entries_are c =
    c.in_ok-insert-in-None.ensures.entries
    ∙ (insert_entry-new same_match c.self.inside.buckets c.args.item.normal c.in_ok-of-in-None.field-0
    (none_from _ c.in-None.ensures.found)
    ∙ ap (λ xs. c.self.inside.buckets.entries ++ (c.args.item.normal, xs) ∷ []) c.in_ok-of-in-None.ensures)

pub invariant_of-self-in-None : goal.invariant_of-self-in-None
invariant_of-self-in-None c =
    let P : List (MatchOf × List Item) → Type 0 = All (IsBucket c.self.inside.shape) in
    record {
      each = subst P (sym (entries_are c))
          (bucket_new c.self.inside.shape c.args.item c.self.inside.buckets.entries c.self.invariant.each
          (c.requires.shape ∙ ap (λ g. g.shape) (sym c.self.view_is)) c.requires.in_range);
      once = c.insert.ensures.unique;
    }

pub returns-in-Some-clause-added : goal.returns-in-Some-clause-added
returns-in-Some-clause-added c =
    let P : List Item
    → Type 0 = λ xs. OnOk c.push_at.result (AddsTo c.args.item xs (in_buckets c.push_at.new.buckets.entries)) in
    subst P (ap (λ g. g.items) c.self.view_is) c.push_at.ensures.added

pub returns-in_ok-insert-in-None-clause-added : goal.returns-in_ok-insert-in-None-clause-added
returns-in_ok-insert-in-None-clause-added c p =
    let a = bucket_added c.args.item c.args.item.normal c.self.inside.buckets.entries p in
    let is : count_by p (in_buckets c.insert.new.self.entries)
    ≡ count_by p (in_buckets (c.self.inside.buckets.entries ++ (c.args.item.normal, c.args.item ∷ []) ∷ [])) =
    ap (λ bs. count_by p (in_buckets bs)) (entries_are c) in
    let was : count_by p (in_buckets c.self.inside.buckets.entries) ≡ count_by p c.args.self.now.items =
    ap (λ g. count_by p g.items) c.self.view_is in
    omega (arith, a, is, was)
