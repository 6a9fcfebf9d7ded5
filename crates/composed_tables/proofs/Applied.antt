-- The composed rules after a change of a member.
use Rattle.std.proofs.Common.{◌≡◌, ◌≢◌, ℕ, ◌<◌, ◌==◌, Bool, true, false, List, [], ◌∷◌, ◌++◌, Option, Some, None}
use Rattle.std.proofs.Common.{length, refl, sym, ap, subst, ◌∙◌, eqb-true}
use Rattle.std.specs.Prelude.{IsPermutation, slice_get}
use Rattle.std.proofs.lemmas.List.Sorted.{IsPermutation-sym, IsPermutation-trans}
use Rattle.agreement.specs.declared.state.Setting.{Setting}
use Rattle.hop_rules.specs.Links.{links}
use Rattle.hop_rules.specs.Tables.{IsHanded, TableOf, is_whole, rules_at as rules_kept}
use Rattle.hop_rules.specs.declared.delta.PortDelta.{PortDelta}
use Rattle.incr_compile.specs.Compiling.{rules_at}
use Rattle.incr_compile.specs.Trees.{IsTree, tree_of}
use Rattle.incr_compile.specs.declared.compiled.LeafDelta.{LeafDelta}
use Rattle.incr_compile.specs.declared.tree.Tree.{Tree}
use Rattle.op_compose.specs.declared.delta.RuleDelta.{RuleDelta}
use Rattle.policy_expr.specs.Sizes.{size_of}
use Rattle.policy_meaning.specs.CentralFact.{EachMember}
use Rattle.policy_meaning.specs.Networks.{ports_of, switch_links, switch_size, table_rules, table_size}
use Rattle.policy_meaning.specs.Switches.{SwitchOf}
use Rattle.policy_meaning.specs.declared.rule.Rule.{Rule}
use Rattle.policy_meaning.proofs.Lists.{all-map}
use Rattle.composed_tables.specs.Composing.{AreExact, Changes, rules_in}
use Rattle.composed_tables.specs.Rules.{ArePortDeltas, AreRulesOf, AreTied, IsChangedAt, IsLaidOut, IsTreeOf, KeepsRest}
use Rattle.composed_tables.specs.Rules.{LeadsToParted, RulesOf}
use Rattle.composed_tables.proofs.Cancelling.{same-after}
use Rattle.composed_tables.proofs.Exact.{parted-exact, whole-exact}
use Rattle.composed_tables.proofs.Kept.{There, beside, within}
use Rattle.composed_tables.proofs.Trees.{sized-of, stays-of}
use Rattle.composed_tables.proofs.Tests.{both, differ}

pub same-rest : (before after : TableOf) → after ≡ before → KeepsRest before after
same-rest before after same = same ∙ (λ i. record before { rules = (sym same i).rules })

module _ (v : ℕ) (delta : LeafDelta) (r r' : RulesOf) (told : RuleDelta) (tied : AreTied r)
    (changed : IsChangedAt v delta r.trees r'.trees told)
    (sizes : r'.sizes ≡ r.sizes) (wholes : r'.whole ≡ r.whole) where
  -- an expression is sound after, since that which changed is, and the others stay
  sound-after : (u : ℕ) (t : Tree) → slice_get r'.trees u ≡ Some t → (b : Bool) → (u == v) ≡ b → IsTree (tree_of t)
  sound-after u t is false e = tied.sound u t (sym (changed.others u e) ∙ is)
  sound-after u t is true e =
      let at : slice_get r'.trees v ≡ Some t = ap (slice_get r'.trees) (sym (eqb-true u v e)) ∙ is in
      let old = beside r'.trees r.trees v t (sym changed.long) at in
      (changed.changed old.item t old.is at).sound

  module _ (rest : KeepsRest r.hops r'.hops) where
    whole-same : (u : ℕ) → is_whole r'.hops u ≡ is_whole r.hops u
    whole-same u = ap (λ (z : TableOf). is_whole z u) rest

    tied-by : ((u : ℕ) (t : Tree) → slice_get r'.trees u ≡ Some t → is_whole r'.hops u ≡ false
        → IsPermutation (rules_at (tree_of t)) (rules_kept r'.hops u)) → AreTied r'
    tied-by each = record {
      kept = ap (λ (z : TableOf). z.lost) rest ∙ tied.kept;
      sizes = ap (λ (z : TableOf). z.sizes) rest ∙ (tied.sizes ∙ sym sizes);
      wholes = ap (λ (z : TableOf). z.whole) rest ∙ (tied.wholes ∙ sym wholes);
      count = ap length sizes ∙ (tied.count ∙ sym changed.long);
      count_whole = ap length wholes ∙ (tied.count_whole ∙ sym changed.long);
      sound = λ u t is. sound-after u t is (u == v) refl;
      each = each;
    }

  -- the table of hops is told of a virtual switch that isn't whole
  pub tied-parted : IsHanded r.hops r'.hops v told.gone told.come → AreTied r'
  tied-parted h = tied-by h.rest (λ u t is w. each u t is w (u == v) refl)
    where
      each : (u : ℕ) (t : Tree) → slice_get r'.trees u ≡ Some t → is_whole r'.hops u ≡ false → (b : Bool) → (u == v) ≡ b
          → IsPermutation (rules_at (tree_of t)) (rules_kept r'.hops u)
      each u t is w false e =
          subst (λ (z : List Rule). IsPermutation (rules_at (tree_of t)) z) (sym (h.others u e))
          (tied.each u t (sym (changed.others u e) ∙ is) (sym (whole-same h.rest u) ∙ w))
      each u t is w true e =
          let same = eqb-true u v e in
          let at : slice_get r'.trees v ≡ Some t = ap (slice_get r'.trees) (sym same) ∙ is in
          let old = beside r'.trees r.trees v t (sym changed.long) at in
          let open-there : is_whole r.hops v ≡ false = ap (is_whole r.hops) (sym same)
          ∙ (sym (whole-same h.rest u) ∙ w) in
          subst (λ (n : ℕ). IsPermutation (rules_at (tree_of t)) (rules_kept r'.hops n)) (sym same)
          (same-after (rules_at (tree_of old.item)) (rules_at (tree_of t)) (rules_kept r.hops v) (rules_kept r'.hops v)
          told.gone told.come
          (tied.each v old.item old.is open-there) (changed.changed old.item t old.is at).rules h.rules)

  -- of a whole one it isn't
  pub tied-whole : is_whole r.hops v ≡ true → r'.hops ≡ r.hops → AreTied r'
  tied-whole whole same = tied-by (same-rest r.hops r'.hops same) (λ u t is w. each u t is w (u == v) refl)
    where
      each : (u : ℕ) (t : Tree) → slice_get r'.trees u ≡ Some t → is_whole r'.hops u ≡ false → (b : Bool) → (u == v) ≡ b
          → IsPermutation (rules_at (tree_of t)) (rules_kept r'.hops u)
      each u t is w false e =
          subst (λ (z : TableOf). IsPermutation (rules_at (tree_of t)) (rules_kept z u)) (sym same)
          (tied.each u t (sym (changed.others u e) ∙ is) (ap (λ (z : TableOf). is_whole z u) (sym same) ∙ w))
      each u t is w true e =
          absurd (both (is_whole r.hops v) whole (ap (is_whole r.hops) (sym (eqb-true u v e))
          ∙ (ap (λ (z : TableOf). is_whole z u) (sym same) ∙ w)))

-- what the compiled expression told to go was there in the table of hops
pub gone-there : (v : ℕ) (delta : LeafDelta) (r : RulesOf) (trees : List Tree) (told : RuleDelta) → AreTied r
    → IsChangedAt v delta r.trees trees told
    → is_whole r.hops v ≡ false → v < length r.trees
    → (kept : List Rule) × IsPermutation (rules_kept r.hops v) (told.gone ++ kept)
gone-there v delta r trees told tied changed parted there =
    let old = within r.trees v there in
    let new = beside r.trees trees v old.item changed.long old.is in
    let c = (changed.changed old.item new.item old.is new.is).rules in (
      c.kept,
      IsPermutation-trans (rules_kept r.hops v) (rules_at (tree_of old.item)) (told.gone ++ c.kept)
          (IsPermutation-sym (rules_at (tree_of old.item)) (rules_kept r.hops v) (tied.each v old.item old.is parted))
          c.was,
    )

-- ---- of the setting after

module _ (v : ℕ) (delta : LeafDelta) (s s' : Setting) (c : Changes v delta s s') where
  pub same-switches : s'.network.switches ≡ s.network.switches
  same-switches = ap (λ (z : Setting). z.network.switches) c.rest

  back-at : (u : ℕ) (x : SwitchOf) → slice_get s'.network.switches u ≡ Some x → slice_get s.network.switches u ≡ Some x
  back-at u x at = ap (λ (z : List SwitchOf). slice_get z u) (sym same-switches) ∙ at

  size-same : (o : Option SwitchOf) → switch_size s.network.tables o ≡ switch_size s'.network.tables o
  size-same None = refl
  size-same (Some x) = λ i. size_of (λ m. (sym (c.sizes m)) i) x.expr

  pub laid-after : (t : TableOf) (rules : List (List Rule)) → IsLaidOut s t → IsLaidOut s' (record t { rules = rules })
  laid-after t rules l = record {
    hops = l.hops ∙ sym (ap (λ (z : Setting). z.hops) c.rest);
    count = l.count ∙ ap length (sym same-switches);
    sizes = λ u. l.sizes u ∙ (size-same (slice_get s.network.switches u)
        ∙ ap (λ (z : List SwitchOf). switch_size s'.network.tables (slice_get z u)) (sym same-switches));
    links_are = λ u. l.links_are u ∙ ap (λ (z : List SwitchOf). switch_links (slice_get z u)) (sym same-switches);
    leads = λ u. all-map (LeadsToParted s.network) (LeadsToParted s'.network) (links t.plan u)
        (λ k f. record {
          to = f.to;
          there = ap (λ (z : List SwitchOf). slice_get z k.peer.v) same-switches
              ∙ f.there;
          parted = f.parted;
        }) (l.leads u);
    whole = λ u x at. l.whole u x (back-at u x at);
    ports = λ u x at w. l.ports u x (back-at u x at) w;
  }

  module _ (r r' : RulesOf) (told : RuleDelta) (of : AreRulesOf s r)
      (changed : IsChangedAt v delta r.trees r'.trees told) (rest : KeepsRest r.hops r'.hops) where
    tree-after : (u : ℕ) (x : SwitchOf) (t : Tree) → slice_get s'.network.switches u ≡ Some x
        → slice_get r'.trees u ≡ Some t → (b : Bool) → (u == v) ≡ b
        → IsTreeOf s'.network.tables x t
    tree-after u x t at is false e =
        let old = back-at u x at in
        let f = of.trees_are u x t old (sym (changed.others u e) ∙ is) in
        let sizes = λ (i : ℕ). table_size (slice_get s.network.tables i) in
        let sizes' = λ (i : ℕ). table_size (slice_get s'.network.tables i) in
        let rules = λ (i : ℕ). table_rules (ports_of x) (slice_get s.network.tables i) in
        let rules' = λ (i : ℕ). table_rules (ports_of x) (slice_get s'.network.tables i) in
        let apart : u ≢ v = differ u v e in
        record {
          policy = f.policy;
          tables_are = stays-of sizes sizes' rules rules' (tree_of t) c.sizes
              (subst (EachMember (λ i. rules' i ≡ rules i)) (sym f.policy) (c.others u x apart old)) f.tables_are;
        }
    tree-after u x t at is true e =
        let same = eqb-true u v e in
        let old = ap (slice_get s.network.switches) (sym same) ∙ back-at u x at in
        let is' : slice_get r'.trees v ≡ Some t = ap (slice_get r'.trees) (sym same) ∙ is in
        let one = beside r'.trees r.trees v t (sym changed.long) is' in
        let f = of.trees_are v x one.item old one.is in
        let ch = changed.changed one.item t one.is is' in
        let sizes = λ (i : ℕ). table_size (slice_get s.network.tables i) in
        let sizes' = λ (i : ℕ). table_size (slice_get s'.network.tables i) in
        let rules = λ (i : ℕ). table_rules (ports_of x) (slice_get s.network.tables i) in
        let rules' = λ (i : ℕ). table_rules (ports_of x) (slice_get s'.network.tables i) in
        record {
          policy = ch.policy ∙ f.policy;
          tables_are = sized-of sizes sizes' rules' (tree_of t) c.sizes
              (ch.members sizes rules rules' (c.changed x old) f.tables_are);
        }

    pub rules-after : AreRulesOf s' r'
    rules-after = record {
      count = changed.long ∙ (of.count ∙ ap length (sym same-switches));
      trees_are = λ u x t at is. tree-after u x t at is (u == v) refl;
      laid_out = subst (IsLaidOut s') (sym rest) (laid-after r.hops r'.hops.rules of.laid_out);
    }

-- ---- all of it

module _ (v : ℕ) (delta : LeafDelta) (r r' : RulesOf) (told : RuleDelta) (tied : AreTied r)
    (changed : IsChangedAt v delta r.trees r'.trees told)
    (sizes : r'.sizes ≡ r.sizes) (wholes : r'.whole ≡ r.whole) (there : v < length r.trees) (s s' : Setting)
    (of : AreRulesOf s r) (c : Changes v delta s s') where
  here : There s.network.switches v
  here = within s.network.switches v (subst (λ (n : ℕ). v < n) of.count there)

  pub exact-parted : is_whole r.hops v ≡ false → IsHanded r.hops r'.hops v told.gone told.come
      → (deltas : List PortDelta) → ArePortDeltas r.hops r'.hops deltas
      → AreExact s.network.switches (rules_in s) (rules_in s') deltas
  exact-parted w h deltas d =
      parted-exact v delta s s' c r r' tied (tied-parted v delta r r' told tied changed sizes wholes h) of
      (rules-after v delta s s' c r r' told of changed h.rest) told changed here.item here.is
      (sym (of.laid_out.whole v here.item here.is) ∙ w) deltas d

  pub exact-whole : is_whole r.hops v ≡ true → r'.hops ≡ r.hops
      → AreExact s.network.switches (rules_in s) (rules_in s')
      (record { v = v; port = 0; gone = told.gone; come = told.come } ∷ [])
  exact-whole w same =
      whole-exact v delta s s' c r r' tied (tied-whole v delta r r' told tied changed sizes wholes w same) of
      (rules-after v delta s s' c r r' told of changed (same-rest r.hops r'.hops same)) told changed here.item here.is
      (sym (of.laid_out.whole v here.item here.is) ∙ w) same
