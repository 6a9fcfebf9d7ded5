-- The tests of equality of entries decide it.
use Rattle.std.proofs.Common.{◌≡◌, ◌&&◌, Bool, List, [], ◌∷◌, refl, ap, sym, ◌∙◌, true, eqb-true, Decides}
use Rattle.std.specs.Prelude.{◌==◌}
use Rattle.std.specs.Cmp.Lexicographic.{pointwise, pointwise_decides}
use Rattle.std.proofs.lemmas.Bool.Decides.{Decides-and, Decides-eqb, Decides-like}
use Rattle.cv_io.specs.contracts.leaf.LeafPartialEq.TheImpl.{ghosts as derived_leaf}
use Rattle.cv_io.specs.Leaves.{same_leaf}
use Rattle.cv_io.specs.declared.leaf.Leaf.{Leaf}
use Rattle.of10_match.specs.Same.{same_match}
use Rattle.of10_match.proofs.Same.{match_decides}
use Rattle.of10_actions.specs.contracts.action.ActionPartialEq.TheImpl.{ghosts as derived_action}
use Rattle.of10_actions.specs.declared.action.Action.{Action}
use Rattle.of10_actions.specs.declared.action.Action.TheVariants.{Output, SetVlanVid, SetVlanPcp, StripVlan, SetDlSrc}
use Rattle.of10_actions.specs.declared.action.Action.TheVariants.{SetDlDst, SetNwSrc, SetNwDst, SetNwTos, SetTpSrc}
use Rattle.of10_actions.specs.declared.action.Action.TheVariants.{SetTpDst, Enqueue}
use Rattle.of10_actions.specs.Same.{same_action}
use Rattle.switch_meaning.specs.Same.{same_entry}
use Rattle.switch_meaning.specs.declared.entry.PhysEntry.{PhysEntry}
use Rattle.switch_meaning.proofs.Items.{split_and}

action-is : (a b : Action) → same_action a b ≡ true → a ≡ b
action-is (Output p n) (Output q m) e = let s = split_and (p == q) (n == m) e in
    λ i. Output (eqb-true p q s.0 i) (eqb-true n m s.1 i)
action-is (SetVlanVid v) (SetVlanVid w) e = ap SetVlanVid (eqb-true v w e)
action-is (SetVlanPcp v) (SetVlanPcp w) e = ap SetVlanPcp (eqb-true v w e)
action-is StripVlan StripVlan e = refl
action-is (SetDlSrc v) (SetDlSrc w) e = ap SetDlSrc (eqb-true v w e)
action-is (SetDlDst v) (SetDlDst w) e = ap SetDlDst (eqb-true v w e)
action-is (SetNwSrc v) (SetNwSrc w) e = ap SetNwSrc (eqb-true v w e)
action-is (SetNwDst v) (SetNwDst w) e = ap SetNwDst (eqb-true v w e)
action-is (SetNwTos v) (SetNwTos w) e = ap SetNwTos (eqb-true v w e)
action-is (SetTpSrc v) (SetTpSrc w) e = ap SetTpSrc (eqb-true v w e)
action-is (SetTpDst v) (SetTpDst w) e = ap SetTpDst (eqb-true v w e)
action-is (Enqueue p n) (Enqueue q m) e = let s = split_and (p == q) (n == m) e in
    λ i. Enqueue (eqb-true p q s.0 i) (eqb-true n m s.1 i)
action-is _ _ e = cc

action-self : (a : Action) → same_action a a ≡ true
action-self (Output p n) = (Decides-and (p == p) (n == n) (Decides-eqb p p) (Decides-eqb n n)).1 (refl, refl)
action-self (SetVlanVid v) = (Decides-eqb v v).1 refl
action-self (SetVlanPcp v) = (Decides-eqb v v).1 refl
action-self StripVlan = refl
action-self (SetDlSrc v) = (Decides-eqb v v).1 refl
action-self (SetDlDst v) = (Decides-eqb v v).1 refl
action-self (SetNwSrc v) = (Decides-eqb v v).1 refl
action-self (SetNwDst v) = (Decides-eqb v v).1 refl
action-self (SetNwTos v) = (Decides-eqb v v).1 refl
action-self (SetTpSrc v) = (Decides-eqb v v).1 refl
action-self (SetTpDst v) = (Decides-eqb v v).1 refl
action-self (Enqueue p n) = (Decides-and (p == p) (n == n) (Decides-eqb p p) (Decides-eqb n n)).1 (refl, refl)

action_decides : (a b : Action) → Decides (same_action a b) (a ≡ b)
action_decides a b = (action-is a b, λ e. ap (same_action a) (sym e) ∙ action-self a)

pub leaf_decides : (a b : Leaf) → Decides (same_leaf a b) (a ≡ b)
leaf_decides a b =
    Decides-like (same_leaf a b) (λ t. λ i. record { member = t.0 i; kind = t.1 i })
    (λ e. (ap (λ (z : Leaf). z.member) e, ap (λ (z : Leaf). z.kind) e))
    (Decides-and (a.member == b.member) (a.kind == b.kind) (Decides-eqb a.member b.member) (Decides-eqb a.kind b.kind))

pub entry_decides : (d e : PhysEntry) → Decides (same_entry d e) (d ≡ e)
entry_decides d e =
    Decides-like (same_entry d e)
    (λ t. λ i. record { m = (t.0) i; priority = (t.1.0) i; actions = (t.1.1.0) i; ancestry = (t.1.1.1) i })
    (λ s. (
      ap (λ (z : PhysEntry). z.m) s,
      (
        ap (λ (z : PhysEntry). z.priority) s,
        (ap (λ (z : PhysEntry). z.actions) s, ap (λ (z : PhysEntry). z.ancestry) s),
      ),
    ))
    (Decides-and (same_match d.m e.m) _ (match_decides d.m e.m)
    (Decides-and (d.priority == e.priority) _ (Decides-eqb d.priority e.priority)
    (Decides-and (pointwise same_action d.actions e.actions) (pointwise same_leaf d.ancestry e.ancestry)
    (pointwise_decides action_decides d.actions e.actions) (pointwise_decides leaf_decides d.ancestry e.ancestry))))

-- the comparisons that a derive wrote

action-derived : (a b : Action) → derived_action.eq a b ≡ same_action a b
action-derived (Output p n) (Output q m) = refl
action-derived (SetVlanVid v) (SetVlanVid w) = refl
action-derived (SetVlanPcp v) (SetVlanPcp w) = refl
action-derived StripVlan StripVlan = refl
action-derived (SetDlSrc v) (SetDlSrc w) = refl
action-derived (SetDlDst v) (SetDlDst w) = refl
action-derived (SetNwSrc v) (SetNwSrc w) = refl
action-derived (SetNwDst v) (SetNwDst w) = refl
action-derived (SetNwTos v) (SetNwTos w) = refl
action-derived (SetTpSrc v) (SetTpSrc w) = refl
action-derived (SetTpDst v) (SetTpDst w) = refl
action-derived (Enqueue p n) (Enqueue q m) = refl
action-derived _ _ = refl

pointwise-same : {A : Type 0} (E F : A → A → Bool) → ((x y : A) → E x y ≡ F x y) → (xs ys : List A)
    → pointwise E xs ys ≡ pointwise F xs ys
pointwise-same E F same [] [] = refl
pointwise-same E F same [] (y ∷ ys) = refl
pointwise-same E F same (x ∷ xs) [] = refl
pointwise-same E F same (x ∷ xs) (y ∷ ys) = λ i. same x y i && pointwise-same E F same xs ys i

-- what a comparison of two entries gives
pub entry-derived : (d e : PhysEntry)
    → (same_match d.m e.m &&
    ((d.priority == e.priority) &&
    (pointwise derived_action.eq d.actions e.actions && pointwise derived_leaf.eq d.ancestry e.ancestry)))
    ≡ same_entry d e
entry-derived d e = λ i. same_match d.m e.m && ((d.priority == e.priority)
    && (pointwise-same derived_action.eq same_action action-derived d.actions e.actions i && pointwise-same
    derived_leaf.eq same_leaf (λ a b. refl) d.ancestry e.ancestry i))
