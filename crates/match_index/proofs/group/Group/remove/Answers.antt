use Rattle.std.proofs.Common.{◌≡◌, ◌∙◌, ap, sym, true≢false, count_by, arith}
use Rattle.std.specs.List.{list_any}
use Rattle.match_index.specs.InsideGroups.{in_buckets}
use Rattle.match_index.specs.Items.{same_item}
use Rattle.match_index.proofs.Asked.{has_in}
use Rattle.match_index.proofs.Buckets.{bucket_items}
use Rattle.match_index.proofs.Lists.{none_from}
use Rattle.match_index.proofs.group.Group.remove.Goals as goal

pub invariant_of-self : goal.invariant_of-self
invariant_of-self c = c.drop_empty.ensures.buckets c.self.inside.shape
    (c.remove_at.ensures.buckets c.self.inside.shape c.self.invariant)

pub returns-in-Some : goal.returns-in-Some
returns-in-Some c p =
    let there = ap (λ g. list_any (same_item c.args.item.now) g.items) c.self.view_is ∙ c.requires in
    let taken = c.remove_at.ensures.taken c.self.inside.shape c.self.invariant there p in
    let same = c.drop_empty.ensures.items p in
    let was : count_by p (in_buckets c.self.inside.buckets.entries) ≡ count_by p c.args.self.now.items =
    ap (λ g. count_by p g.items) c.self.view_is in
    omega (arith, taken, same, was)

pub returns-in_default : goal.returns-in_default
returns-in_default c =
    let there = ap (λ g. list_any (same_item c.args.item.now) g.items) c.self.view_is ∙ c.requires in
    let none = none_from _ c.in_default.ensures.found in
    absurd
    (true≢false (sym there
    ∙ (has_in c.self.inside.shape c.args.item.now c.self.inside.buckets.entries c.self.invariant
    ∙ ap (λ o. list_any (same_item c.args.item.now) (bucket_items o)) none)))
