-- Checks of one item after another, and of one kind after another.
use Rattle.std.proofs.Common.{◌≡◌, ℕ, ◌+◌, ◌<◌, ◌≤◌, Option, Some, None, List, ◌∷◌, length, get_or, drop, refl, sym, ap}
use Rattle.std.proofs.Common.{◌∙◌, inl, inr, ◌⊎◌}
use Rattle.std.specs.Option.{option_or}
use Rattle.std.proofs.lemmas.List.{drop_more, drop_all}
use Rattle.virtual_topology.specs.declared.plan.TopologyPlan.{TopologyPlan}
use Rattle.virtual_topology.specs.declared.plan.VirtualItem.{VirtualItem}
use Rattle.virtual_topology.specs.Faults.{crowded, fault_of, first_answer, misplaced, mixed_among, shape_among}
use Rattle.virtual_topology.specs.Faults.{twice_among, unknown_among}
use Rattle.virtual_topology.specs.Places.{uses}
use Rattle.virtual_topology.specs.Rows.{rows}
use Rattle.virtual_topology.specs.Wires.{Joint, link_joints, outside_joints}

-- what a failed check answers
abbrev pub Wanted : {E : Type 0} → E → E → Option E → Type 0
Wanted memory fault o = (fault ≡ memory) ⊎ (o ≡ Some fault)

-- an item with nothing wrong is passed over
pub passed_on : {A E : Type 0} (f : A → Option E) (xs : List A) (i : ℕ) (x : A) → i < length xs
    → drop i xs ≡ x ∷ drop (i + 1) xs → f x ≡ None
    → first_answer f (drop i xs) ≡ first_answer f xs → first_answer f (drop (i + 1) xs) ≡ first_answer f xs
passed_on f xs i x lt there none before =
    sym (ap (first_answer f) there ∙ ap (λ o. option_or o (first_answer f (drop (i + 1) xs))) none) ∙ before

-- one with a fault ends the check
pub stopped_at : {A E : Type 0} (memory : E) (f : A → Option E) (xs : List A) (i : ℕ) (x : A) (fault : E)
    → drop i xs ≡ x ∷ drop (i + 1) xs → Wanted memory fault (f x)
    → first_answer f (drop i xs) ≡ first_answer f xs → Wanted memory fault (first_answer f xs)
stopped_at memory f xs i x fault there (inl none) before = inl none
stopped_at memory f xs i x fault there (inr some) before =
    inr (sym before ∙ (ap (first_answer f) there ∙ ap (λ o. option_or o (first_answer f (drop (i + 1) xs))) some))

-- after the last there is none
pub ended : {A E : Type 0} (f : A → Option E) (xs : List A) (n : ℕ) → length xs ≤ n
    → first_answer f (drop n xs) ≡ first_answer f xs → first_answer f xs ≡ None
ended f xs n all before = sym before ∙ ap (first_answer f) (drop_all n xs all)

-- an item of a list, one place further on
pub next_item : {A : Type 0} (xs : List A) (i : ℕ) (x : A) → i < length xs → x ≡ get_or xs i x
    → drop i xs ≡ x ∷ drop (i + 1) xs
next_item xs i x lt item = drop_more xs i x lt ∙ ap (λ y. y ∷ drop (i + 1) xs) (sym item)

-- one check and then another
pub first_wanted : {E : Type 0} (memory fault : E) (a b : Option E) → Wanted memory fault a
    → Wanted memory fault (option_or a b)
first_wanted memory fault a b (inl none) = inl none
first_wanted memory fault a b (inr some) = inr (ap (λ o. option_or o b) some)

-- three checks before others
before_others : {E : Type 0} (a b c d : Option E)
    → option_or a (option_or b (option_or c d)) ≡ option_or (option_or a (option_or b c)) d
before_others (Some x) b c d = refl
before_others None (Some x) c d = refl
before_others None None c d = refl

-- what is left of the first fault of a plan, once the first kinds aren't there
pub after_shape : (plan : TopologyPlan) → misplaced plan ≡ None
    → fault_of plan ≡ option_or (mixed_among (link_joints plan) (outside_joints plan) plan.virtuals) (crowded plan)
after_shape plan none =
    let left = option_or (mixed_among (link_joints plan) (outside_joints plan) plan.virtuals) (crowded plan) in
    before_others (twice_among (uses plan)) (unknown_among (rows plan) (uses plan))
    (shape_among (rows plan) (uses plan) plan) left
    ∙ ap (λ o. option_or o left) none

pub after_mixed : (plan : TopologyPlan) (links outside : List Joint) (virtuals : List VirtualItem)
    → links ≡ link_joints plan → outside ≡ outside_joints plan → virtuals ≡ plan.virtuals
    → fault_of plan ≡ option_or (mixed_among (link_joints plan) (outside_joints plan) plan.virtuals) (crowded plan)
    → mixed_among links outside virtuals ≡ None → fault_of plan ≡ crowded plan
after_mixed plan links outside virtuals link out virt left none =
    left ∙ ap (λ o. option_or o (crowded plan)) ((λ i. mixed_among (sym link i) (sym out i) (sym virt i)) ∙ none)
