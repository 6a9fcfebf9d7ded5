use Rattle.std.proofs.Common.{◌≡◌, ◌∙◌, ◌++◌, ℕ, List, Option, Some, None, find, is_some, option_to_list, refl, sym, ap}
use Rattle.std.proofs.Common.{subst, arith, nat_eq}
use Rattle.std.specs.Prelude.{IsPermutation}
use Rattle.std.specs.List.{list_any}
use Rattle.std.specs.Map.{lookup, values_of}
use Rattle.indexmap.specs.IndexMap.{swap_remove_entry}
use Rattle.std.proofs.lemmas.List.Sorted.{IsPermutation-refl}
use Rattle.match_index.specs.InsideGroups.{SameItems, in_groups}
use Rattle.match_index.specs.Items.{IndexOf, has_id}
use Rattle.match_index.specs.declared.item.Item.{Item}
use Rattle.match_index.proofs.Holds.{AreIds, IsTaken, any_find, held_find, held_taken, ids_taken, left_grouped}
use Rattle.match_index.proofs.Holds.{left_late, taken_there, values_taken}
use Rattle.match_index.proofs.index.Index.remove.Goals as goal

-- what is taken out, where the entries are as a removal leaves them
taken_from : (id : ℕ) (held rest : List (ℕ × Item)) (item : Item) → Some item ≡ lookup (nat_eq id) held
    → rest ≡ swap_remove_entry (nat_eq id) held → IsTaken held rest item
taken_from id held rest item e r = let T : List (ℕ × Item)
    → Type 0 = λ es. IsTaken held es item in subst T (sym r) (held_taken id held item (sym e))

-- what a removal says of the items
found_id : (id : ℕ) (held : List (ℕ × Item)) (o : Option Item) → AreIds held → o ≡ lookup (nat_eq id) held
    → find (has_id id) (values_of held) ≡ o
found_id id held o a e = sym (held_find id held a) ∙ sym e

any_id : (id : ℕ) (held : List (ℕ × Item)) (o : Option Item) (i : IndexOf) → AreIds held → o ≡ lookup (nat_eq id) held
    → values_of held ≡ i.items → is_some o ≡ list_any (has_id id) i.items
any_id id held o i a e v = sym (any_find (has_id id) (values_of held) ∙ ap is_some (found_id id held o a e))
    ∙ ap (list_any (has_id id)) v

permuted_id : (id : ℕ) (held rest : List (ℕ × Item)) (o : Option Item) (i : IndexOf) → AreIds held
    → o ≡ lookup (nat_eq id) held → values_of held ≡ i.items
    → IsPermutation (values_of held) (option_to_list o ++ values_of rest)
    → IsPermutation i.items (option_to_list (find (has_id id) i.items) ++ values_of rest)
permuted_id id held rest o i a e v h =
    let Q : Option Item → Type 0 = λ f. IsPermutation (values_of held) (option_to_list f ++ values_of rest) in
    let P : List Item → Type 0 = λ xs. IsPermutation xs (option_to_list (find (has_id id) xs) ++ values_of rest) in
    subst P v (subst Q (sym (found_id id held o a e)) h)

pub remove_from-requires : goal.remove_from-requires
remove_from-requires c =
    let t = taken_from c.args.id c.self.inside.held.entries c.swap_remove.new.self.entries c.in-Some.item
    c.in-Some.ensures.value c.swap_remove.ensures.entries in
    taken_there c.self.inside.held.entries c.swap_remove.new.self.entries c.self.inside.late.items
    c.self.inside.groups.items c.in-Some.item t c.self.invariant.0.same (sym c.if-not-take_out.ensures.found)

pub invariant_of-self : goal.invariant_of-self
invariant_of-self c =
    let held = c.self.inside.held.entries in
    let rest = c.swap_remove.new.self.entries in
    let t = taken_from c.args.id held rest c.in-Some.item c.in-Some.ensures.value c.swap_remove.ensures.entries in
    let S : List Item
    → Type 0 = λ late. SameItems (values_of rest) (late ++ in_groups c.remove_from.new.groups.items) in
    let spare = c.swap_remove.ensures.room.0 in
    let room = c.take_out.ensures.room in
    let room_held = c.self.invariant.1 in
    let room_late = c.self.invariant.2 in (
      record {
        ids = ids_taken held rest c.in-Some.item t c.self.invariant.0.ids;
        once = c.swap_remove.ensures.unique;
        same = subst S (sym (c.if-not-take_out.ensures.missing refl))
            (left_grouped held rest c.self.inside.late.items c.self.inside.groups.items c.remove_from.new.groups.items
            c.in-Some.item t c.self.invariant.0.same c.remove_from.ensures);
      },
      omega arith,
      omega arith,
    )

pub invariant_of-self-else-not-take_out : goal.invariant_of-self-else-not-take_out
invariant_of-self-else-not-take_out c =
    let held = c.self.inside.held.entries in
    let rest = c.swap_remove.new.self.entries in
    let t = taken_from c.args.id held rest c.in-Some.item c.in-Some.ensures.value c.swap_remove.ensures.entries in
    let spare = c.swap_remove.ensures.room.0 in
    let room = c.take_out.ensures.room in
    let room_held = c.self.invariant.1 in
    let room_late = c.self.invariant.2 in (
      record {
        ids = ids_taken held rest c.in-Some.item t c.self.invariant.0.ids;
        once = c.swap_remove.ensures.unique;
        same = left_late held rest c.self.inside.late.items c.take_out.new.items.items c.self.inside.groups.items
            c.in-Some.item t c.self.invariant.0.same (c.if-not-take_out.ensures.taken refl);
      },
      omega arith,
      omega arith,
    )

pub returns-then-not-take_out-clause-found : goal.returns-then-not-take_out-clause-found
returns-then-not-take_out-clause-found c =
    any_id c.args.id c.self.inside.held.entries (Some c.in-Some.item) c.args.self.now c.self.invariant.0.ids
    c.in-Some.ensures.value (ap (λ i. i.items) c.self.view_is)

pub returns-then-not-take_out-clause-items : goal.returns-then-not-take_out-clause-items
returns-then-not-take_out-clause-items c =
    let t = taken_from c.args.id c.self.inside.held.entries c.swap_remove.new.self.entries c.in-Some.item
    c.in-Some.ensures.value c.swap_remove.ensures.entries in
    permuted_id c.args.id c.self.inside.held.entries c.swap_remove.new.self.entries (Some c.in-Some.item)
    c.args.self.now c.self.invariant.0.ids c.in-Some.ensures.value (ap (λ i. i.items) c.self.view_is)
    (values_taken c.self.inside.held.entries c.swap_remove.new.self.entries c.in-Some.item t)

pub returns-else-not-take_out-clause-found : goal.returns-else-not-take_out-clause-found
returns-else-not-take_out-clause-found c =
    any_id c.args.id c.self.inside.held.entries (Some c.in-Some.item) c.args.self.now c.self.invariant.0.ids
    c.in-Some.ensures.value (ap (λ i. i.items) c.self.view_is)

pub returns-else-not-take_out-clause-items : goal.returns-else-not-take_out-clause-items
returns-else-not-take_out-clause-items c =
    let t = taken_from c.args.id c.self.inside.held.entries c.swap_remove.new.self.entries c.in-Some.item
    c.in-Some.ensures.value c.swap_remove.ensures.entries in
    permuted_id c.args.id c.self.inside.held.entries c.swap_remove.new.self.entries (Some c.in-Some.item)
    c.args.self.now c.self.invariant.0.ids c.in-Some.ensures.value (ap (λ i. i.items) c.self.view_is)
    (values_taken c.self.inside.held.entries c.swap_remove.new.self.entries c.in-Some.item t)

pub returns-in-None-clause-found : goal.returns-in-None-clause-found
returns-in-None-clause-found c = any_id c.args.id c.self.inside.held.entries None c.args.self.now c.self.invariant.0.ids
    c.in-None.ensures.value (ap (λ i. i.items) c.self.view_is)

pub returns-in-None-clause-items : goal.returns-in-None-clause-items
returns-in-None-clause-items c =
    let held = c.self.inside.held.entries in
    let P : List (ℕ × Item) → Type 0 = λ es. IsPermutation (values_of held) (values_of es) in
    permuted_id c.args.id held c.swap_remove.new.self.entries None c.args.self.now c.self.invariant.0.ids
    c.in-None.ensures.value (ap (λ i. i.items) c.self.view_is)
    (subst P (sym (c.in-None.ensures.unchanged)) (IsPermutation-refl (values_of held)))
