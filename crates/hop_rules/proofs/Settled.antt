-- What is made at a node once a change is settled, and that no rule both went and came.
use Rattle.std.proofs.Common.{◌≡◌, ℕ, zero, suc, ◌==◌, Bool, true, false, not, cond, List, [], ◌∷◌, ◌++◌, map, refl}
use Rattle.std.proofs.Common.{sym, ap, subst, ◌∙◌, append_assoc, arith}
use Rattle.std.specs.Prelude.{Contains, IsPermutation, filter}
use Rattle.std.proofs.lemmas.Grind.{common_steps}
use Rattle.std.proofs.lemmas.List.{map-append}
use Rattle.std.proofs.lemmas.List.Sorted.{IsPermutation-append, IsPermutation-append_comm, IsPermutation-filter_both}
use Rattle.std.proofs.lemmas.List.Sorted.{IsPermutation-map, IsPermutation-sym, IsPermutation-trans}
use Rattle.list_change.specs.Changes.{Apart}
use Rattle.list_change.proofs.Permute.{by-equation}
use Rattle.policy_meaning.specs.declared.rule.Rule.{Rule}
use Rattle.rule_ancestry.specs.Holding.{Held, id_of, is_outside, item_of}
use Rattle.made_rules.specs.Changing.{AreHeld, ChangeOf, IsReady, is_of, settled, was_of}
use Rattle.made_rules.specs.Rules.{is_held_of, rule_of}
use Rattle.made_rules.specs.declared.made.Made.{Made}
use Rattle.made_rules.specs.declared.made.Origin.{Origin}
use Rattle.made_rules.proofs.Ids.{without-all}
use Rattle.hop_rules.proofs.Shown.{any-permuted}

-- ---- ids that are left out in any order
same-filter : {X : Type 0} (p q : X → Bool) → ((x : X) → p x ≡ q x) → (xs : List X) → filter p xs ≡ filter q xs
same-filter p q e [] = refl
same-filter p q e (x ∷ xs) = ap (λ b. cond b (x ∷ filter p xs) (filter p xs)) (e x)
    ∙ ap (λ z. cond (q x) (x ∷ z) z) (same-filter p q e xs)

outside-turned : (us vs : List ℕ) (hs : List (Held Made)) → IsPermutation us vs
    → filter (is_outside us) hs ≡ filter (is_outside vs) hs
outside-turned us vs hs p = same-filter (is_outside us) (is_outside vs)
    (λ h. ap not (any-permuted (λ j. h.id == j) us vs p)) hs

filter-items : (p : Made → Bool) (hs : List (Held Made))
    → map item_of (filter (λ h. p h.item) hs) ≡ filter p (map item_of hs)
filter-items p [] = refl
filter-items p (h ∷ hs) = by (p h.item) ∙ ap (λ z. cond (p h.item) (h.item ∷ z) z) (filter-items p hs)
  where
    by : (b : Bool) → map item_of (cond b (h ∷ filter (λ h. p h.item) hs) (filter (λ h. p h.item) hs))
        ≡ cond b (h.item ∷ map item_of (filter (λ h. p h.item) hs)) (map item_of (filter (λ h. p h.item) hs))
    by true = refl
    by false = refl

ends-first : {X : Type 0} (k c m : List X) → IsPermutation ((k ++ c) ++ m) ((c ++ m) ++ k)
ends-first k c m = IsPermutation-trans _ (k ++ (c ++ m)) _ (by-equation _ _ (append_assoc k c m))
    (IsPermutation-append_comm k (c ++ m))

-- ---- lists that a function made
from-map : {X Y : Type 0} (f : X → Y) (xs : List X) (y : Y) → Contains (map f xs) y
    → (x : X) × Contains xs x × (f x ≡ y)
from-map f [] y (k, below, e) = absurd (omega arith)
from-map f (x ∷ xs) y (zero, below, e) = (x, (0, grind (arith, common_steps), refl), e)
from-map f (x ∷ xs) y (suc k, below, e) =
    let r = from-map f xs y (k, omega arith, e) in
    (r.0, (suc r.1.0, (let l = r.1.1 in grind (arith, common_steps)), r.1.2), r.2)

-- what is made of some names is held
pub found-held : (store : List (Held Made)) (origins : List Origin) (lost : List ℕ)
    → lost ≡ map id_of (filter (is_held_of origins) store) → AreHeld lost store
found-held store origins lost e = record {
  items = filter (is_held_of origins) store;
  rest = filter (λ h. not (is_held_of origins h)) store;
  ids_are = sym e;
  all = IsPermutation-filter_both (is_held_of origins) (λ h. not (is_held_of origins h)) (λ h. refl) store;
}

module _ (before now : List (Held Made)) (lost : List ℕ) (fresh : List Made) (change : ChangeOf)
    (r : IsReady before now lost fresh change) where
  kept-are : (p : Made → Bool) → lost ≡ map id_of (filter (λ h. p h.item) before)
      → IsPermutation r.kept (filter (λ h. not (p h.item)) before)
  kept-are p e =
      let gone = r.going ++ map was_of change.stays in
      let passing = filter (λ (h : Held Made). p h.item) before in
      let others = filter (λ (h : Held Made). not (p h.item)) before in
      IsPermutation-trans _ _ _
      (IsPermutation-sym _ _
      (without-all before gone r.kept r.rises
      (IsPermutation-trans _ _ _ r.was (ends-first r.kept r.going (map was_of change.stays)))))
      (IsPermutation-trans _ _ _ (by-equation _ _ (sym (outside-turned lost (map id_of gone) before r.lost_are)))
      (IsPermutation-trans _ _ _ (by-equation _ _ (ap (λ ids. filter (is_outside ids) before) e))
      (without-all before passing others r.rises
      (IsPermutation-filter_both (λ (h : Held Made). p h.item) (λ (h : Held Made). not (p h.item)) (λ h. refl)
      before))))

  -- what is made once it is settled
  pub settled-items : (p : Made → Bool) → lost ≡ map id_of (filter (λ h. p h.item) before)
      → IsPermutation (map item_of (settled r)) (fresh ++ filter (λ m. not (p m)) (map item_of before))
  settled-items p e =
      let ends = r.coming ++ map is_of change.stays in
      IsPermutation-trans _ _ _ (IsPermutation-map item_of _ _ (ends-first r.kept r.coming (map is_of change.stays)))
      (IsPermutation-trans _ _ _ (by-equation _ _ (map-append item_of ends r.kept))
      (IsPermutation-append _ _ _ _ (IsPermutation-sym _ _ r.made_are)
      (IsPermutation-trans _ _ _ (IsPermutation-map item_of _ _ (kept-are p e))
      (by-equation _ _ (filter-items (λ m. not (p m)) before)))))

  -- no rule both went and came
  pub settled-apart : (gone come : List Rule) → gone ≡ map rule_of (map item_of r.going)
      → come ≡ map rule_of (map item_of r.coming) → Apart gone come
  settled-apart gone come g c x i j =
      let a = from-map rule_of (map item_of r.going) x (subst (λ z. Contains z x) g i) in
      let b = from-map rule_of (map item_of r.coming) x (subst (λ z. Contains z x) c j) in
      let d = from-map item_of r.going a.0 a.1 in
      let e = from-map item_of r.coming b.0 b.1 in
      r.apart d.0 e.0 d.1 e.1 (ap rule_of d.2 ∙ a.2 ∙ sym (ap rule_of e.2 ∙ b.2))
