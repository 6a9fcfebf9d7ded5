use Rattle.std.proofs.Common.{◌≡◌, ◌∙◌, ◌++◌, ◌∷◌, [], ◌==◌, List, ℕ, Result, Ok, OnOk, is_ok, if◌then◌else◌, sym, ap}
use Rattle.std.proofs.Common.{subst, subst₂, nat_eq, arith}
use Rattle.std.specs.List.{list_any, IsDistinct}
use Rattle.std.specs.Map.{keys_of, values_of}
use Rattle.indexmap.proofs.CallerLemmas.{insert_entry-new}
use Rattle.match_index.specs.InsideGroups.{AreKept}
use Rattle.match_index.specs.Items.{has_id}
use Rattle.match_index.specs.declared.item.Item.{Item}
use Rattle.match_index.proofs.Holds.{absent, put_late}
use Rattle.match_index.proofs.Lists.{map-both}
use Rattle.match_index.proofs.index.Index.put.Goals as goal

-- what stands after a success
after_ok : {X E : Type 0} (r : Result X E) (x : X) → r ≡ Ok x → (P : Type 0) → OnOk r P → P
after_ok r x e P h = let Q : Result _ _ → Type 0 = λ o. OnOk o P in subst Q e h

if_ok : {X E Y : Type 0} (r : Result X E) (x : X) → r ≡ Ok x → (a b : Y) → (if is_ok r then a else b) ≡ a
if_ok r x e a b = ap (λ o. if is_ok o then a else b) e

pub invariant_of-self : goal.invariant_of-self
invariant_of-self c =
    let held = c.self.inside.held.entries in
    let late = c.self.inside.late.items in
    let x = c.of.result in
    let new_id = ap (λ i. list_any (has_id c.args.id) i.items) c.self.view_is ∙ c.requires.new_id in
    let none = absent c.args.id held c.self.invariant.0.ids new_id in
    let entries : c.insert.new.self.entries ≡ held ++ (c.args.id, x) ∷ [] =
    after_ok c.insert.result c.unwrap.result c.unwrap.ensures _ c.insert.ensures.entries
    ∙ insert_entry-new nat_eq c.self.inside.held c.args.id x none in
    let late_is : c.push.new.self.items ≡ late ++ x ∷ [] =
    c.push.ensures.items ∙ (if_ok c.push.result c.unwrap-2.result c.unwrap-2.ensures _ _
    ∙ ap (λ y. late ++ y ∷ []) (c.of-2.ensures ∙ sym c.of.ensures)) in
    let D : List (ℕ × Item) → Type 0 = λ h. IsDistinct ◌==◌ (keys_of h) in
    let K : List (ℕ × Item) → List Item → Type 0 = λ h l. AreKept h l c.self.inside.groups.items in
    let kept = put_late held late c.self.inside.groups.items c.args.id x (sym (ap (λ (y : Item). y.id) c.of.ensures))
    (subst D entries c.insert.ensures.unique) c.self.invariant.0 in
    let spare = c.insert.ensures.spare in
    let capacity = c.push.ensures.capacity in
    let upper = c.push.ensures.upper_bound in
    let room_held = c.self.invariant.1 in
    let room_late = c.self.invariant.2 in
    (subst₂ K (sym entries) (sym late_is) kept, omega arith, omega arith)

pub returns-clause-items : goal.returns-clause-items
returns-clause-items c =
    let held = c.self.inside.held.entries in
    let new_id = ap (λ i. list_any (has_id c.args.id) i.items) c.self.view_is ∙ c.requires.new_id in
    let none = absent c.args.id held c.self.invariant.0.ids new_id in
    let entries : c.insert.new.self.entries ≡ held ++ (c.args.id, c.of.result) ∷ [] =
    after_ok c.insert.result c.unwrap.result c.unwrap.ensures _ c.insert.ensures.entries
    ∙ insert_entry-new nat_eq c.self.inside.held c.args.id c.of.result none in
    ap values_of entries
    ∙ (map-both (λ (p : ℕ × Item). p.1) held ((c.args.id, c.of.result) ∷ [])
    ∙ (ap (λ x. values_of held ++ x ∷ []) c.of.ensures
    ∙ ap (λ i. i.items ++ record { id = c.args.id; rank = c.args.rank; normal = c.args.m.now } ∷ [])
    c.self.view_is))
