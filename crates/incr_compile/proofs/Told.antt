-- What is told of a change, and what may be asked of a tree.
use Rattle.std.proofs.Common.{◌≡◌, ℕ, zero, suc, ◌<◌, ◌==◌, Bool, true, false, ◌||◌, List, [], ◌∷◌, ◌++◌, length, map}
use Rattle.std.proofs.Common.{refl, sym, ap, subst, ◌∙◌, arith}
use Rattle.std.specs.Prelude.{Contains, IsPermutation, if◌then◌else◌}
use Rattle.std.specs.List.{AllByRecursion}
use Rattle.std.proofs.lemmas.Grind.{common_steps}
use Rattle.std.proofs.lemmas.List.Sorted.{IsPermutation-map, IsPermutation-trans}
use Rattle.list_change.specs.Changes.{Apart, Changed}
use Rattle.list_change.proofs.Permute.{by-equation}
use Rattle.of10_match.specs.Normal.{IsNormal}
use Rattle.policy_meaning.specs.declared.rule.Rule.{Rule}
use Rattle.rule_ancestry.specs.Holding.{Held, id_of, item_of}
use Rattle.rule_ancestry.proofs.StoreLemmas.{eq-same}
use Rattle.made_rules.specs.Changing.{ChangeOf, IsReady, is_of, settled, was_of}
use Rattle.made_rules.specs.Rules.{rule_of}
use Rattle.made_rules.specs.declared.made.Made.{Made}
use Rattle.made_rules.specs.declared.stay.Stay.{Stay}
use Rattle.made_rules.proofs.Changes.{front, length-map}
use Rattle.incr_compile.specs.Compiling.{Asks, IsByLeaves, IsMemberDelta, member_size, rules_held}
use Rattle.incr_compile.specs.Trees.{CanChange, Changes, ComesFit, IsMemberRule, IsOnce, IsTree, TreeOf, branch}
use Rattle.incr_compile.specs.Trees.{has_member, leaf}
use Rattle.incr_compile.specs.declared.compiled.LeafDelta.{LeafDelta}
use Rattle.incr_compile.specs.declared.tree.MemberChange.{MemberChange}
use Rattle.incr_compile.proofs.TreeLemmas.{or-left}

-- ---- lists that a function made
from-map : {X Y : Type 0} (f : X → Y) (xs : List X) (y : Y) → Contains (map f xs) y
    → (x : X) × Contains xs x × (f x ≡ y)
from-map f [] y (k, below, e) = absurd (omega arith)
from-map f (x ∷ xs) y (zero, below, e) = (x, (0, grind (arith, common_steps), refl), e)
from-map f (x ∷ xs) y (suc k, below, e) =
    let r = from-map f xs y (k, omega arith, e) in
    (r.0, (suc r.1.0, (let l = r.1.1 in grind (arith, common_steps)), r.1.2), r.2)

rules-both : (xs ys : List (Held Made)) → rules_held (xs ++ ys) ≡ rules_held xs ++ rules_held ys
rules-both [] ys = refl
rules-both (x ∷ xs) ys = ap (λ z. x.item.rule ∷ z) (rules-both xs ys)

same-stays : (stays : List Stay) → rules_held (map was_of stays) ≡ rules_held (map is_of stays)
same-stays [] = refl
same-stays (s ∷ stays) = ap (λ z. s.rule ∷ z) (same-stays stays)

permuted-rules : (xs ys : List (Held Made)) → IsPermutation xs ys → IsPermutation (rules_held xs) (rules_held ys)
permuted-rules xs ys p = IsPermutation-map rule_of _ _ (IsPermutation-map item_of xs ys p)

module _ (before now : List (Held Made)) (lost : List ℕ) (fresh : List Made) (change : ChangeOf)
    (r : IsReady before now lost fresh change) where
  -- what is told is what changed
  pub told-changed : (new : List (Held Made)) (gone come : List Rule) → IsPermutation new (settled r)
      → gone ≡ rules_held r.going → come ≡ rules_held r.coming → Changed (rules_held before) (rules_held new) gone come
  told-changed new gone come p g c = record {
    kept = rules_held (r.kept ++ map was_of change.stays);
    was = IsPermutation-trans _ _ _
        (permuted-rules before _ (IsPermutation-trans _ _ _ r.was (front r.kept r.going (map was_of change.stays))))
        (by-equation _ _ (rules-both r.going (r.kept ++ map was_of change.stays)
        ∙ ap (λ z. z ++ rules_held (r.kept ++ map was_of change.stays)) (sym g)));
    is = IsPermutation-trans _ _ _
        (permuted-rules new _ (IsPermutation-trans _ _ _ p (front r.kept r.coming (map is_of change.stays))))
        (by-equation _ _ (rules-both r.coming (r.kept ++ map is_of change.stays)
        ∙ ap (λ z. z ++ rules_held (r.kept ++ map is_of change.stays)) (sym c)
        ∙ ap (λ z. come ++ z) (rules-both r.kept (map is_of change.stays)
        ∙ ap (λ z. rules_held r.kept ++ z) (sym (same-stays change.stays))
        ∙ sym (rules-both r.kept (map was_of change.stays)))));
  }

  -- no rule is in both lists
  pub told-apart : (gone come : List Rule) → gone ≡ rules_held r.going → come ≡ rules_held r.coming → Apart gone come
  told-apart gone come g c x i j =
      let a = from-map rule_of (map item_of r.going) x (subst (λ z. Contains z x) g i) in
      let b = from-map rule_of (map item_of r.coming) x (subst (λ z. Contains z x) c j) in
      let d = from-map item_of r.going a.0 a.1 in
      let e = from-map item_of r.coming b.0 b.1 in
      r.apart d.0 e.0 d.1 e.1 (ap rule_of d.2 ∙ a.2 ∙ sym (ap rule_of e.2 ∙ b.2))

  -- there is room for what goes
  pub gone-count : (left : List Made) → left ≡ map item_of r.going → length left ≡ length change.gone
  gone-count left e = ap (λ (z : List Made). length z) e ∙ length-map item_of r.going ∙ sym (length-map id_of r.going)
      ∙ ap (λ (z : List ℕ). length z) r.gone

-- ---- what may be asked of a tree
absent-fit : (asked : MemberChange) (t : TreeOf) → has_member asked.member t ≡ false → ComesFit asked t
absent-fit asked (leaf i s made) e = λ same. absurd (let z : true ≡ false = sym (eq-same asked.member i same) ∙ e in cc)
absent-fit asked (branch n l r) e = (absent-fit asked l (first _ _ e), absent-fit asked r (second _ _ e))
  where
    first : (a b : Bool) → (a || b) ≡ false → a ≡ false
    first true b f = f
    first false b f = refl

    second : (a b : Bool) → (a || b) ≡ false → b ≡ false
    second true b f = absurd (cc)
    second false b f = f

present-fit : (asked : MemberChange) (t : TreeOf) → IsOnce t → has_member asked.member t ≡ true
    → AllByRecursion (IsMemberRule (member_size asked.member t)) asked.come.items → ComesFit asked t
present-fit asked (leaf i s made) once h a = λ same. a
present-fit asked (branch n l r) once h a =
    by (has_member asked.member l) refl a (λ e b. present-fit asked l once.0 e b)
    (λ e b. present-fit asked r once.1 (or-left _ _ h e) b)
  where
    by : (b : Bool) → has_member asked.member l ≡ b
        → AllByRecursion (IsMemberRule (if b then member_size asked.member l else member_size asked.member r))
        asked.come.items →
        (has_member asked.member l ≡ true → AllByRecursion (IsMemberRule (member_size asked.member l)) asked.come.items
        → ComesFit asked l) →
        (has_member asked.member l ≡ false → AllByRecursion (IsMemberRule (member_size asked.member r)) asked.come.items
        → ComesFit asked r) → ComesFit asked (branch n l r)
    by true e c p q = (p e c, absent-fit asked r (once.2 asked.member e))
    by false e c p q = (absent-fit asked l e, q e c)

pub come-rules : (size : ℕ) (made : List Made) → AllByRecursion IsByLeaves made
    → AllByRecursion (λ (r : Rule). IsNormal r.m) (map rule_of made)
    → AllByRecursion (λ (r : Rule). r.level < size) (map rule_of made) → AllByRecursion (IsMemberRule size) made
come-rules size [] f n b = tt
come-rules size (m ∷ made) f n b = (
  record {
    fit = record { sound = record { normal = n.0; in_range = f.0.in_range }; below = b.0 };
    origins = f.0.origins;
  },
  come-rules size made f.1 n.1 b.1,
)

pub can-change : (delta : LeafDelta) (asked : MemberChange) (t : TreeOf) → IsTree t → IsOnce t
    → has_member delta.member t ≡ true → IsMemberDelta delta t → Asks delta asked
    → AllByRecursion IsByLeaves asked.come.items → CanChange asked t
can-change delta asked t is once h d k f =
    let there : has_member asked.member t ≡ true = subst (λ (i : ℕ). has_member i t ≡ true) (sym k.member) h in
    let normal = subst (λ (z : List Rule). AllByRecursion (λ (r : Rule). IsNormal r.m) z) (sym k.come) d.normal in
    let below =
    subst (λ (i : ℕ). AllByRecursion (λ (r : Rule). r.level < member_size i t) (map rule_of asked.come.items))
    (sym k.member)
    (subst (λ (z : List Rule). AllByRecursion (λ (r : Rule). r.level < member_size delta.member t) z) (sym k.come)
    d.below) in
    record {
      is_tree = is;
      once = once;
      member = there;
      come = present-fit asked t once there (come-rules (member_size asked.member t) asked.come.items f normal below);
    }

-- ---- the members stay
pub same-member : (asked : MemberChange) (t u : TreeOf) → Changes asked t u → (i : ℕ) → has_member i u ≡ has_member i t
same-member asked (leaf i s before) (leaf j k after) c m = ap (λ (x : ℕ). m == x) c.0
same-member asked (branch n l r) (branch o l' r') c m =
    ap (λ b. b || has_member m r') (same-member asked l l' c.2 m)
    ∙ ap (λ b. has_member m l || b) (same-member asked r r' c.3 m)
same-member asked (leaf i s before) (branch o l' r') c m = absurd c
same-member asked (branch n l r) (leaf j k after) c m = absurd c

pub same-once : (asked : MemberChange) (t u : TreeOf) → Changes asked t u → IsOnce t → IsOnce u
same-once asked (leaf i s before) (leaf j k after) c once = tt
same-once asked (branch n l r) (branch o l' r') c once = (
  same-once asked l l' c.2 once.0,
  same-once asked r r' c.3 once.1,
  λ m e. same-member asked r r' c.3 m
      ∙ once.2 m (sym (same-member asked l l' c.2 m) ∙ e),
)
same-once asked (leaf i s before) (branch o l' r') c once = absurd c
same-once asked (branch n l r) (leaf j k after) c once = absurd c
