-- What is kept of a setting can take the change of a member's rules.
use Rattle.std.proofs.Common.{◌≡◌, ◌∙◌, ℕ, ◌<◌, ◌==◌, ◌||◌, Bool, true, false, List, [], ◌∷◌, ◌++◌, length}
use Rattle.std.proofs.Common.{Some, arith, refl, sym, ap, ap₂, subst, eqb-true}
use Rattle.std.specs.Prelude.{Contains, IsPermutation, filter, if◌then◌else◌, option_map, slice_get}
use Rattle.std.specs.List.{AllByRecursion, enumerate_from}
use Rattle.std.proofs.lemmas.List.Elements.{All-from_recursion}
use Rattle.std.proofs.lemmas.List.FromFn.{length-enumerate_from}
use Rattle.std.proofs.lemmas.List.Sorted.{IsPermutation-sym}
use Rattle.agreement.specs.declared.state.Setting.{Setting}
use Rattle.composed_tables.specs.Composing.{ComposedOf, IsOf as IsComposedOf}
use Rattle.composed_tables.specs.Rules.{AreRulesOf, CanTake, IsTreeOf, RulesOf}
use Rattle.incr_compile.specs.Compiling.{IsMemberDelta, IsOf, composed_by, is_apart_from, member_size, policy_in}
use Rattle.incr_compile.specs.Compiling.{rules_after}
use Rattle.incr_compile.specs.Trees.{TreeOf, branch, has_member, leaf, tree_of}
use Rattle.incr_compile.specs.declared.compiled.LeafDelta.{LeafDelta}
use Rattle.incr_compile.specs.declared.tree.Tree.{Tree}
use Rattle.member_state.specs.Leaves.{leaf_of}
use Rattle.member_state.specs.Sound.{IsSoundLeaf}
use Rattle.member_state.proofs.LeafFacts.{leaf_is_sound}
use Rattle.of10_match.specs.Normal.{IsNormal}
use Rattle.op_compose.specs.declared.op.Op.{Op}
use Rattle.op_compose.specs.declared.op.Op.TheVariants.{Hop, Over, Par, Seq}
use Rattle.policy_expr.specs.Policy.{Policy, member, members_of}
use Rattle.policies.specs.Policies.{PolicyOf, plan}
use Rattle.policies.specs.Sound.{IsSound, IsSoundMember as IsSoundItem}
use Rattle.policy_meaning.specs.Best.{IsSound as IsSoundRule}
use Rattle.policy_meaning.specs.Fitting.{IsFittingTable}
use Rattle.policy_meaning.specs.LeafFact.{IsSoundTable}
use Rattle.policy_meaning.specs.LeafRules.{leaf_rules}
use Rattle.policy_meaning.specs.Networks.{ports_of, table_rules, table_size}
use Rattle.policy_meaning.specs.Switches.{SwitchOf as VirtualOf}
use Rattle.policy_meaning.specs.declared.leaf.LeafTable.{LeafTable}
use Rattle.policy_meaning.specs.declared.rule.Rule.{Rule}
use Rattle.policy_meaning.proofs.LeafLemmas.{leaf_rules_are_sound}
use Rattle.policy_meaning.proofs.LevelsBelow.{rules-below}
use Rattle.policy_meaning.proofs.Rising.{all-permuted}
use Rattle.policy_setting.specs.Networks.{virtual_switch}
use Rattle.policy_setting.specs.OfPolicies.{seen}
use Rattle.policy_setting.specs.Settings.{expr_at, holds_at, numbered_switch}
use Rattle.policy_setting.proofs.Parts.{all_first}
use Rattle.policy_setting.proofs.Placing.{switch_at}
use Rattle.virtual_topology.specs.declared.plan.VirtualItem.{VirtualItem}
use Rattle.machine_meaning.specs.Settings.{setting_with}
use Rattle.machine_meaning.specs.Sound.{AreSoundTables}
use Rattle.machine_meaning.specs.States.{State, SwitchOf}
use Rattle.machine_meaning.proofs.Grants.{grant_sound, item_of}
use Rattle.machine_meaning.proofs.Places.{at_place}
use Rattle.machine_meaning.proofs.Unchanged.{all_weaker}
use Rattle.setting_laws.specs.Members.{ChangesAt, RulesChange}
use Rattle.setting_laws.specs.Taking.{ChangesCanBeTaken, ComesFrom, DeltasCanBeTaken}
use Rattle.setting_laws.proofs.Links.{contained}
use Rattle.setting_laws.proofs.Members.{table_there}
use Rattle.setting_laws.proofs.Named.{is_in, is_named}
use Rattle.setting_laws.proofs.Ups.{long_map}

-- members of trees --------------------------------------------------------------------------------------------------

or_none : (b : Bool) → (b || false) ≡ b
or_none true = refl
or_none false = refl

or_joined : (a b c : Bool) → ((a || b) || c) ≡ (a || (b || c))
or_joined true b c = refl
or_joined false b c = refl

in_both : (i : ℕ) (xs ys : List ℕ) → is_in i (xs ++ ys) ≡ (is_in i xs || is_in i ys)
in_both i [] ys = refl
in_both i (x ∷ xs) ys =
    ap (λ b. (i == x) || b) (in_both i xs ys) ∙ sym (or_joined (i == x) (is_in i xs) (is_in i ys))

composed_members : (op : Op) (a b : Policy) → members_of (composed_by op a b) ≡ members_of a ++ members_of b
composed_members Par a b = refl
composed_members Seq a b = refl
composed_members Over a b = refl
composed_members Hop a b = refl

-- a tree has the members of its expression
tree_has : (i : ℕ) (t : TreeOf) → has_member i t ≡ is_in i (members_of (policy_in t))
tree_has i (leaf j size made) = sym (or_none (i == j))
tree_has i (branch n l r) =
    ap₂ (λ (a b : Bool). a || b) (tree_has i l) (tree_has i r)
    ∙ (sym (in_both i (members_of (policy_in l)) (members_of (policy_in r)))
    ∙ ap (is_in i) (sym (composed_members n.op (policy_in l) (policy_in r))))

module _ (sizes : ℕ → ℕ) (rules : ℕ → List Rule) where
  -- a member of a tree has its size there
  sized : (i : ℕ) (t : TreeOf) → IsOf sizes rules t → has_member i t ≡ true → member_size i t ≡ sizes i
  sized i (leaf j size made) h e = h.0 ∙ ap sizes (sym (eqb-true i j e))
  sized i (branch n l r) h e = by (has_member i l) refl e (sized i l h.0) (sized i r h.1)
    where
      by : (b : Bool) → has_member i l ≡ b → (b || has_member i r) ≡ true
          → (has_member i l ≡ true → member_size i l ≡ sizes i) → (has_member i r ≡ true → member_size i r ≡ sizes i)
          → (if b then member_size i l else member_size i r) ≡ sizes i
      by true t e f g = f t
      by false t e f g = g e

-- rules of a table --------------------------------------------------------------------------------------------------

all_contained : {A : Type 0} (xs : List A) → AllByRecursion (Contains xs) xs
all_contained [] = tt
all_contained (x ∷ xs) = (
  (0, omega arith, refl),
  all_weaker (Contains xs) (Contains (x ∷ xs)) (λ y c. contained x y xs c) xs (all_contained xs),
)

contained_so : {A : Type 0} (P : A → Type 0) (xs : List A) → AllByRecursion P xs → (x : A) → Contains xs x → P x
contained_so P xs h x c = subst P c.2 (All-from_recursion P xs h c.0 x c.1)

normal_rules : (ports : List ℕ) (t : LeafTable) → IsSoundTable t
    → AllByRecursion (λ (r : Rule). IsNormal r.m) (leaf_rules ports t)
normal_rules ports t h =
    all_weaker IsSoundRule (λ (r : Rule). IsNormal r.m) (λ r k. k.is_normal) (leaf_rules ports t)
    (leaf_rules_are_sound ports t h)

low_rules : (ports : List ℕ) (t : LeafTable) → IsFittingTable t
    → AllByRecursion (λ (r : Rule). r.level < t.size) (leaf_rules ports t)
low_rules ports t h = rules-below (t ∷ []) (All-from_recursion IsFittingTable (t ∷ []) (h, tt)) ports (member 0)

-- what comes where rules change so are rules that are there then
comes_from : (ports : List ℕ) (t u : LeafTable) (delta : LeafDelta) → delta.member ≡ u.member
    → IsPermutation (rules_after delta (leaf_rules ports t)) (leaf_rules ports u) → ComesFrom ports u delta
comes_from ports t u delta of h = record {
  member = of;
  come =
      all_first (Contains (leaf_rules ports u)) delta.come (filter (is_apart_from delta.gone) (leaf_rules ports t))
      (all-permuted (leaf_rules ports u) (rules_after delta (leaf_rules ports t))
      (IsPermutation-sym (rules_after delta (leaf_rules ports t)) (leaf_rules ports u) h)
      (Contains (leaf_rules ports u))
      (all_contained (leaf_rules ports u)));
}

-- a member's change -------------------------------------------------------------------------------------------------

module _ (p : PolicyOf) (h : IsSound p) (s t : State) (sound : AreSoundTables p s) (after : AreSoundTables p t) (i : ℕ)
    (c : ChangesAt p i s t) (switches : List SwitchOf)
  where
    abbrev before : Setting
    before = setting_with p s.exprs s.members switches

    abbrev v : ℕ
    v = c.item.grant.ports.v

    abbrev table : LeafTable
    table = leaf_of i c.item.grant c.after.kept

    abbrev Comes : LeafDelta → Type 0
    Comes delta = (x : VirtualOf) → slice_get before.network.switches v ≡ Some x → ComesFrom (ports_of x) table delta

    -- the virtual switch of the member
    abbrev item : VirtualItem
    item = (item_of p h i c.item c.there).item

    abbrev x : VirtualOf
    x = virtual_switch (plan p) (expr_at s.exprs v) (holds_at (seen p) v) (v, item)

    x_there : slice_get before.network.switches v ≡ Some x
    x_there =
        switch_at (plan p) s.exprs (seen p) v
        ∙ ap (option_map (λ (y : VirtualItem). virtual_switch (plan p) (expr_at s.exprs v) (holds_at (seen p) v)
        (v, y)))
        (item_of p h i c.item c.there).there

    many_virtuals : length before.network.switches ≡ length p.virtuals
    many_virtuals =
        long_map (numbered_switch (plan p) s.exprs (seen p)) (enumerate_from 0 p.virtuals)
        ∙ length-enumerate_from 0 p.virtuals

    -- its table then
    leaf_after : IsSoundLeaf i c.item.grant c.after.kept
    leaf_after =
        leaf_is_sound i c.item.grant c.after.kept (grant_sound p h i c.item c.there)
        (after.members i c.item c.after c.there c.is).sound

    size_is : table_size (slice_get before.network.tables i) ≡ table.size
    size_is =
        ap table_size (table_there p s.members i c.item c.before c.there c.was)
        ∙ ((sound.members i c.item c.before c.there c.was).size
        ∙ sym (after.members i c.item c.after c.there c.is).size)

    module _ (delta : LeafDelta) (comes : Comes delta) (composed : ComposedOf) (of : IsComposedOf before composed)
        (r : RulesOf) (is : composed.rules ≡ Some r)
      where
        rules : AreRulesOf before r
        rules = of.rules r is

        come : ComesFrom (ports_of x) table delta
        come = comes x x_there

        tree_is : (tree : Tree) → slice_get r.trees v ≡ Some tree → IsTreeOf before.network.tables x tree
        tree_is tree at = rules.trees_are v x tree x_there at

        has : (tree : Tree) → slice_get r.trees v ≡ Some tree → has_member i (tree_of tree) ≡ true
        has tree at =
            tree_has i (tree_of tree)
            ∙ (ap (λ (e : Policy). is_in i (members_of e)) (tree_is tree at).policy
            ∙ is_named p h s.exprs sound.exprs i c.item c.there)

        size_in : (tree : Tree) → slice_get r.trees v ≡ Some tree → member_size i (tree_of tree) ≡ table.size
        size_in tree at =
            sized (λ j. table_size (slice_get before.network.tables j))
            (λ j. table_rules (ports_of x) (slice_get before.network.tables j)) i (tree_of tree)
            (tree_is tree at).tables_are (has tree at)
            ∙ size_is

        comes_in : (tree : Tree) → slice_get r.trees v ≡ Some tree → IsMemberDelta delta (tree_of tree)
        comes_in tree at = record {
          normal =
              all_weaker (Contains (leaf_rules (ports_of x) table)) (λ (r : Rule). IsNormal r.m)
              (λ y k. contained_so (λ (r : Rule). IsNormal r.m) (leaf_rules (ports_of x) table)
              (normal_rules (ports_of x) table leaf_after.sound) y k) delta.come come.come;
          below =
              subst (λ (size : ℕ). AllByRecursion (λ (r : Rule). r.level < size) delta.come)
              (sym (ap (λ (j : ℕ). member_size j (tree_of tree)) come.member ∙ size_in tree at))
              (all_weaker (Contains (leaf_rules (ports_of x) table)) (λ (r : Rule). r.level < table.size)
              (λ y k. contained_so (λ (r : Rule). r.level < table.size) (leaf_rules (ports_of x) table)
              (low_rules (ports_of x) table leaf_after.fits) y k) delta.come come.come);
        }

        pub can_take : CanTake r v delta
        can_take = record {
          there =
              let below = (at_place (IsSoundItem p.virtuals) p.members i c.item h.limits.members c.there).there in
              let count = rules.count in
              omega (arith, below, count, many_virtuals);
          member = λ tree at. subst (λ (j : ℕ). has_member j (tree_of tree) ≡ true) (sym come.member) (has tree at);
          come = comes_in;
        }

    pub change_comes : (delta : LeafDelta) → RulesChange p i s t c switches delta → Comes delta
    change_comes delta r x at =
        comes_from (ports_of x) (leaf_of i c.item.grant c.before.kept) table delta r.member (r.rules x at)

pub deltas_taken : DeltasCanBeTaken
deltas_taken p h s t sound after i c switches composed of delta comes r is =
    can_take p h s t sound after i c switches delta comes composed of r is

pub changes_taken : ChangesCanBeTaken
changes_taken p h s t sound after i c switches composed of delta change r is =
    can_take p h s t sound after i c switches delta (change_comes p h s t sound after i c switches delta change)
    composed of
    r is
