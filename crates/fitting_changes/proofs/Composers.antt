-- What is known of a compiled expression of a few members, as it is built and through changes.
use Rattle.std.proofs.Common.{◌≡◌, ◌≢◌, ℕ, zero, suc, ◌==◌, ◌<◌, ◌+◌, Bool, true, false, ◌||◌, Result, Ok, Err, OnOk}
use Rattle.std.proofs.Common.{OnErr, if◌then◌else◌, List, [], ◌∷◌, length, get_or, take, refl, sym, ap, subst, ◌∙◌}
use Rattle.std.proofs.Common.{arith}
use Rattle.std.specs.Prelude.{slice_get}
use Rattle.std.specs.List.{AllByRecursion}
use Rattle.of10_match.specs.Normal.{IsNormal}
use Rattle.op_compose.specs.declared.op.Op.{Op}
use Rattle.op_compose.specs.declared.op.Op.TheVariants.{Par, Seq, Over, Hop}
use Rattle.policy_expr.specs.Policy.{Policy, member, members_of, parallel, sequential, override}
use Rattle.policy_meaning.specs.LeafFact.{EachPair}
use Rattle.policy_meaning.specs.Networks.{table_rules, table_size}
use Rattle.policy_meaning.specs.declared.leaf.LeafTable.{LeafTable}
use Rattle.policy_meaning.specs.declared.rule.Rule.{Rule}
use Rattle.policy_meaning.proofs.Lists.{all-map}
use Rattle.list_change.proofs.Permute.{by-equation}
use Rattle.rule_ancestry.proofs.StoreLemmas.{eq-same, eq-other}
use Rattle.incr_compile.specs.Compiling.{IsOf, IsOfTables, MemberChanges, composed_by, member_size, policy_in}
use Rattle.incr_compile.specs.Compiling.{rules_after}
use Rattle.incr_compile.specs.Trees.{TreeOf, branch, has_member, leaf}
use Rattle.incr_compile.specs.declared.compiled.LeafDelta.{LeafDelta}
use Rattle.fitting_changes.specs.declared.shape.Shape.{Shape}
use Rattle.fitting_changes.specs.declared.shape.Shape.TheVariants.{Parallel, Sequential, Override, Mixed}
use Rattle.fitting_changes.specs.Composers.{CanTake, Fits, FitsIn, HasSize, IsComposed, Suits, count_of, policy_by}

-- ---- one item more of which a fact holds

module _ {A : Type 0} (P : A → Type 0) where
  pub one-more : (xs : List A) (i : ℕ) (x : A) → i < length xs → x ≡ get_or xs i x → P x → AllByRecursion P (take i xs)
      → AllByRecursion P (take (i + 1) xs)
  one-more [] i x lt e p a = absurd (omega arith)
  one-more (y ∷ ys) zero x lt e p a =
      let one : 0 + 1 ≡ suc 0 = omega arith in
      subst (λ (n : ℕ). AllByRecursion P (take n (y ∷ ys))) (sym one) (subst P e p, tt)
  one-more (y ∷ ys) (suc i) x lt e p a =
      let next : suc i + 1 ≡ suc (i + 1) = omega arith in
      subst (λ (n : ℕ). AllByRecursion P (take n (y ∷ ys))) (sym next) (a.0, one-more ys i x (omega arith) e p a.1)

-- ---- the members of a tree are those that its expression names

abbrev names : ℕ → Policy → Bool
names i (member j) = i == j
names i (parallel a b) = names i a || names i b
names i (sequential a b) = names i a || names i b
names i (override a b) = names i a || names i b

names-by : (op : Op) (i : ℕ) (a b : Policy) → names i (composed_by op a b) ≡ (names i a || names i b)
names-by Par i a b = refl
names-by Seq i a b = refl
names-by Over i a b = refl
names-by Hop i a b = refl

named : (i : ℕ) (t : TreeOf) → has_member i t ≡ names i (policy_in t)
named i (leaf j s made) = refl
named i (branch n l r) =
    ap (λ b. b || has_member i r) (named i l) ∙ ap (λ b. names i (policy_in l) || b) (named i r)
    ∙ sym (names-by n.op i (policy_in l) (policy_in r))

-- a member of the tree has its size
same-number : (i j : ℕ) → (i == j) ≡ true → i ≡ j
same-number i j e = grind arith

sized : (sizes : ℕ → ℕ) (rules : ℕ → List Rule) (i : ℕ) (t : TreeOf) → IsOf sizes rules t → has_member i t ≡ true
    → member_size i t ≡ sizes i
sized sizes rules i (leaf j s made) o h = o.0 ∙ ap sizes (sym (same-number i j h))
sized sizes rules i (branch n l r) o h = by (has_member i l) refl (sized sizes rules i l o.0)
    (sized sizes rules i r o.1)
  where
    by : (b : Bool) → has_member i l ≡ b → (has_member i l ≡ true → member_size i l ≡ sizes i)
        → (has_member i r ≡ true → member_size i r ≡ sizes i)
        → (if b then member_size i l else member_size i r) ≡ sizes i
    by true e left right = left e
    by false e left right = right (sym (ap (λ b. b || has_member i r) e) ∙ h)

-- ---- each member of a shape is named, once

all-named : (shape : Shape) (i : ℕ) → i < count_of shape → names i (policy_by shape) ≡ true
all-named Parallel zero l = refl
all-named Parallel (suc zero) l = refl
all-named Parallel (suc (suc i)) l = absurd (omega arith)
all-named Sequential zero l = refl
all-named Sequential (suc zero) l = refl
all-named Sequential (suc (suc i)) l = absurd (omega arith)
all-named Override zero l = refl
all-named Override (suc zero) l = refl
all-named Override (suc (suc i)) l = absurd (omega arith)
all-named Mixed zero l = refl
all-named Mixed (suc zero) l = refl
all-named Mixed (suc (suc zero)) l = refl
all-named Mixed (suc (suc (suc zero))) l = refl
all-named Mixed (suc (suc (suc (suc i)))) l = absurd (omega arith)

differ : (a b : ℕ) → a < b → a ≢ b
differ a b l e = omega arith

once : (shape : Shape) → EachPair (λ i j. i ≢ j) (members_of (policy_by shape))
once Parallel = ((differ 0 1 (omega arith), tt), (tt, tt))
once Sequential = ((differ 0 1 (omega arith), tt), (tt, tt))
once Override = ((differ 0 1 (omega arith), tt), (tt, tt))
once Mixed = (
  (differ 0 1 (omega arith), (differ 0 2 (omega arith), (differ 0 3 (omega arith), tt))),
  ((differ 1 2 (omega arith), (differ 1 3 (omega arith), tt)), ((differ 2 3 (omega arith), tt), (tt, tt))),
)

pub named-once : (shape : Shape) (p : Policy) → p ≡ policy_by shape → EachPair (λ i j. i ≢ j) (members_of p)
named-once shape p e = subst (λ (q : Policy). EachPair (λ i j. i ≢ j) (members_of q)) (sym e) (once shape)

-- ---- what is built

sized-table : (size i : ℕ) (ts : List LeafTable) → AllByRecursion (HasSize size) ts → i < length ts
    → table_size (slice_get ts i) ≡ size
sized-table size i [] a l = absurd (omega arith)
sized-table size zero (t ∷ ts) a l = a.0
sized-table size (suc i) (t ∷ ts) a l = sized-table size i ts a.1 (omega arith)

pub built : (shape : Shape) (size : ℕ) (tables : List LeafTable) (ports : List ℕ) (p : Policy) (t : TreeOf)
    → Suits shape size tables
    → IsOfTables tables ports t → policy_in t ≡ p → p ≡ policy_by shape → IsComposed shape size t
built shape size tables ports p t s o e f = record {
  policy = e ∙ f;
  sizes = λ i. table_size (slice_get tables i);
  rules = λ i. table_rules ports (slice_get tables i);
  of = o;
  each = λ i l. sized-table size i tables s.sizes (subst (λ (k : ℕ). i < k) (sym s.count) l);
}

-- ---- what it can take

pub can-take : (shape : Shape) (size : ℕ) (t : TreeOf) (delta : LeafDelta) → IsComposed shape size t
    → Fits shape size delta
    → CanTake delta t
can-take shape size t delta c f =
    let there : has_member delta.member t ≡ true = named delta.member t ∙ ap (names delta.member) c.policy
    ∙ all-named shape delta.member f.member in
    let levels : member_size delta.member t ≡ size = sized c.sizes c.rules delta.member t c.of there
    ∙ c.each delta.member f.member in
    record {
      member = there;
      come = record {
        normal = all-map (FitsIn size) (λ (r : Rule). IsNormal r.m) delta.come (λ r x. x.normal) f.come;
        below = subst (λ (k : ℕ). AllByRecursion (λ (r : Rule). r.level < k) delta.come) (sym levels)
            (all-map (FitsIn size) (λ (r : Rule). r.level < size) delta.come (λ r x. x.below) f.come);
      };
    }

-- ---- after a change

-- the members' rules then
abbrev after-it : LeafDelta → (ℕ → List Rule) → ℕ → List Rule
after-it delta before i = if i == delta.member then rules_after delta (before delta.member) else before i

changes-it : (delta : LeafDelta) (before : ℕ → List Rule) → MemberChanges delta before (after-it delta before)
changes-it delta before = record {
  others = λ i n. ap (λ b. if b then rules_after delta (before delta.member) else before i)
      (eq-other i delta.member (λ e. n (sym e)));
  changed =
      by-equation _ _
      (sym (ap (λ b. if b then rules_after delta (before delta.member) else before delta.member)
      (eq-same delta.member delta.member refl)));
}

after : (shape : Shape) (size : ℕ) (delta : LeafDelta) (old new : TreeOf) → IsComposed shape size old
    → policy_in new ≡ policy_in old
    → ((sizes : ℕ → ℕ) → (rules rules' : ℕ → List Rule) → MemberChanges delta rules rules' → IsOf sizes rules old
    → IsOf sizes rules' new) → IsComposed shape size new
after shape size delta old new c p f = record {
  policy = p ∙ c.policy;
  sizes = c.sizes;
  rules = after-it delta c.rules;
  of = f c.sizes c.rules (after-it delta c.rules) (changes-it delta c.rules) c.of;
  each = c.each;
}

-- so too where memory was wanted, which changed nothing
pub after-any : {A B : Type 0} (r : Result A B) (shape : Shape) (size : ℕ) (delta : LeafDelta) (old new : TreeOf)
    → IsComposed shape size old
    → OnOk r (policy_in new ≡ policy_in old)
    → ((sizes : ℕ → ℕ) → (rules rules' : ℕ → List Rule) → MemberChanges delta rules rules' → IsOf sizes rules old
    → OnOk r (IsOf sizes rules' new))
    → OnErr r (new ≡ old) → IsComposed shape size new
after-any (Ok x) shape size delta old new c p f e = after shape size delta old new c p f
after-any (Err x) shape size delta old new c p f e = subst (IsComposed shape size) (sym e) c
