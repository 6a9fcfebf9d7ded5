use Rattle.std.proofs.Common.{◌≡◌, ◌∙◌, ◌++◌, List, true, sym, ap, subst, find, map, Option}
use Rattle.std.specs.Prelude.{◌==◌, IsPermutation, option_to_list}
use Rattle.std.specs.List.{IsDistinct, list_any}
use Rattle.match_index.specs.Items.{AddsTo, has_id, same_item}
use Rattle.match_index.specs.declared.item.Item.{Item}
use Rattle.exact_gate.specs.InsideBuckets.{is_exact}
use Rattle.switch_meaning.proofs.Members.{IsIn}
use Rattle.exact_gate.proofs.Finding.{adds-removed, exact-removed, find-its, in-exact, item-in, open-removed}
use Rattle.exact_gate.proofs.finder.Finder.remove.Goals as goal

-- what is taken out from under the id of an item that is there
taken : (xs ys : List Item) (i : Item) → IsDistinct ◌==◌ (map (λ (e : Item). e.id) xs) → IsIn i xs
    → IsPermutation xs (option_to_list (find (has_id i.id) xs) ++ ys) → AddsTo i ys xs
taken xs ys i d s m =
    let P : Option Item → Type 0 = λ o. IsPermutation xs (option_to_list o ++ ys) in
    adds-removed xs ys i (subst P (find-its xs i d s) m)

module _ (all : List Item) (value : List Item) (i : Item) (view : all ≡ value)
    (there : list_any (same_item i) value ≡ true) where
  in_all : IsIn i all
  in_all = item-in all i (ap (list_any (same_item i)) view ∙ there)

pub invariant_of-self : goal.invariant_of-self
invariant_of-self c =
    let i : Item = record { id = c.args.id; rank = c.args.key.now.priority; normal = c.args.key.now.m } in
    let all = c.self.inside.all.items in
    let exact = c.self.inside.exact.items in
    let here = in_all all c.args.self.now i c.self.view_is c.requires in
    let x : is_exact i ≡ true = sym c.is_one_header.ensures ∙ c.if-is_one_header.true in
    exact-removed all c.remove.new.self.items exact c.remove-then-is_one_header.new.self.items i c.self.invariant
    (taken all c.remove.new.self.items i c.len.ensures.once here c.remove.ensures.items)
    (taken exact c.remove-then-is_one_header.new.self.items i c.len-2.ensures.once
    (in-exact all exact i c.self.invariant here x) c.remove-then-is_one_header.ensures.items)
    x

pub invariant_of-self-else-is_one_header : goal.invariant_of-self-else-is_one_header
invariant_of-self-else-is_one_header c =
    let i : Item = record { id = c.args.id; rank = c.args.key.now.priority; normal = c.args.key.now.m } in
    let all = c.self.inside.all.items in
    let here = in_all all c.args.self.now i c.self.view_is c.requires in
    open-removed all c.remove.new.self.items c.self.inside.exact.items i c.self.invariant
    (taken all c.remove.new.self.items i c.len.ensures.once here c.remove.ensures.items)
    (sym c.is_one_header.ensures ∙ c.if-is_one_header.false)

pub returns-then-is_one_header : goal.returns-then-is_one_header
returns-then-is_one_header c =
    let i : Item = record { id = c.args.id; rank = c.args.key.now.priority; normal = c.args.key.now.m } in
    let all = c.self.inside.all.items in
    let A : List Item → Type 0 = AddsTo i c.remove.new.self.items in
    subst A c.self.view_is (taken all c.remove.new.self.items i c.len.ensures.once
    (in_all all c.args.self.now i c.self.view_is c.requires) c.remove.ensures.items)

pub returns-else-is_one_header : goal.returns-else-is_one_header
returns-else-is_one_header c =
    let i : Item = record { id = c.args.id; rank = c.args.key.now.priority; normal = c.args.key.now.m } in
    let all = c.self.inside.all.items in
    let A : List Item → Type 0 = AddsTo i c.remove.new.self.items in
    subst A c.self.view_is (taken all c.remove.new.self.items i c.len.ensures.once
    (in_all all c.args.self.now i c.self.view_is c.requires) c.remove.ensures.items)
