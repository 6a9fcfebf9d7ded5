-- The rules that are kept are those of the setting from scratch.
use Rattle.std.proofs.Common.{◌≡◌, ℕ, ◌<◌, false, List, Option, Some, None, length, get_or, ◌⊎◌, ◌≤◌, inl, inr, sym}
use Rattle.std.proofs.Common.{subst, ◌∙◌, arith}
use Rattle.std.specs.Prelude.{IsPermutation, slice_get}
use Rattle.std.specs.List.{AllByRecursion}
use Rattle.std.proofs.lemmas.List.Sorted.{IsPermutation-sym, IsPermutation-trans}
use Rattle.std.proofs.lemmas.Option.{slice_get_cases, slice_get_within}
use Rattle.agreement.specs.declared.state.Setting.{Setting}
use Rattle.hop_rules.specs.Links.{links}
use Rattle.hop_rules.specs.Tables.{fabric, is_whole, port_rules, rules_at as rules_kept}
use Rattle.incr_compile.specs.Compiling.{rules_at}
use Rattle.incr_compile.specs.Trees.{tree_of}
use Rattle.incr_compile.specs.declared.tree.Tree.{Tree}
use Rattle.policy_expr.specs.Policy.{Policy}
use Rattle.policy_meaning.specs.Hops.{node}
use Rattle.policy_meaning.specs.Networks.{fabric_of, ports_of, switch_rules, table_rules, table_size}
use Rattle.policy_meaning.specs.Rules.{rules_of}
use Rattle.policy_meaning.specs.Switches.{SwitchOf}
use Rattle.policy_meaning.specs.declared.network.Link.{Link}
use Rattle.policy_meaning.specs.declared.network.Network.{Network}
use Rattle.policy_meaning.proofs.Lists.{all-map}
use Rattle.composed_tables.specs.Rules.{AreRulesOf, AreSound, AreTied, AreTreesOf, LeadsToParted, RulesOf}
use Rattle.composed_tables.proofs.Nodes.{node-same}
use Rattle.composed_tables.proofs.Trees.{from-scratch}

pub record There {A : Type 0} (xs : List A) (n : ℕ) : Type 0 where
  pub item : A
  pub is : slice_get xs n ≡ Some item

pub within : {A : Type 0} (xs : List A) (n : ℕ) → n < length xs → There xs n
within {A} xs n lt = by (slice_get_cases xs n).1
  where
    by : ((x : A) × (n < length xs) × (slice_get xs n ≡ Some x) × (get_or xs n x ≡ x))
        ⊎ ((length xs ≤ n) × (slice_get xs n ≡ None)) → There xs n
    by (inl c) = record { item = c.0; is = c.2 }
    by (inr c) = absurd (let le = c.0 in omega arith)

-- where one list has an item, another one of its length has one
pub beside : {A B : Type 0} (xs : List A) (ys : List B) (n : ℕ) (x : A) → length ys ≡ length xs
    → slice_get xs n ≡ Some x → There ys n
beside xs ys n x e at = within ys n (let lt = slice_get_within xs n x at in omega arith)

-- the rules of a compiled expression
pub rules-of-tree : (net : Network) (trees : List Tree) → AreSound trees → AreTreesOf net trees
    → (v : ℕ) (x : SwitchOf) (t : Tree)
    → slice_get net.switches v ≡ Some x → slice_get trees v ≡ Some t
    → IsPermutation (rules_at (tree_of t)) (switch_rules net.tables (Some x))
rules-of-tree net trees sound are v x t at is =
    let f = are v x t at is in
    let sizes = λ (i : ℕ). table_size (slice_get net.tables i) in
    let rules = λ (i : ℕ). table_rules (ports_of x) (slice_get net.tables i) in
    subst (λ (e : Policy). IsPermutation (rules_at (tree_of t)) (rules_of sizes rules e)) f.policy
    (from-scratch sizes rules (tree_of t) (sound v t is) f.tables_are)

module _ (s : Setting) (r : RulesOf) (tied : AreTied r) (of : AreRulesOf s r) where
  pub tree-rules : (v : ℕ) (x : SwitchOf) (t : Tree) → slice_get s.network.switches v ≡ Some x
      → slice_get r.trees v ≡ Some t
      → IsPermutation (rules_at (tree_of t)) (switch_rules s.network.tables (Some x))
  tree-rules v x t at is = rules-of-tree s.network r.trees tied.sound of.trees_are v x t at is

  -- a virtual switch that isn't all of its physical switch
  abbrev pub Parted : ℕ → Type 0
  Parted v = (x : SwitchOf) × (slice_get s.network.switches v ≡ Some x) × (x.whole ≡ false)

  closed : (v : ℕ) → Parted v → AllByRecursion (λ (l : Link). Parted l.peer.v) ((fabric r.hops).links v)
  closed v p = all-map (LeadsToParted s.network) (λ (l : Link). Parted l.peer.v) (links r.hops.plan v)
      (λ l f. (f.to, f.there, f.parted)) (of.laid_out.leads v)

  pub kept-rules : (v : ℕ) → Parted v → IsPermutation ((fabric r.hops).rules v) ((fabric_of s.network).rules v)
  kept-rules v p =
      let t = beside s.network.switches r.trees v p.0 of.count p.1 in
      let open-there : is_whole r.hops v ≡ false = of.laid_out.whole v p.0 p.1 ∙ p.2 in
      subst (λ (o : Option SwitchOf). IsPermutation (rules_kept r.hops v) (switch_rules s.network.tables o)) (sym p.1)
      (IsPermutation-trans (rules_kept r.hops v) (rules_at (tree_of t.item)) (switch_rules s.network.tables (Some p.0))
      (IsPermutation-sym (rules_at (tree_of t.item)) (rules_kept r.hops v) (tied.each v t.item t.is open-there))
      (tree-rules v p.0 t.item p.1 t.is))

  -- the rules of a port
  pub port-rules-are : (v port : ℕ) → Parted v
      → IsPermutation (port_rules r.hops (record { v = v; port = port })) (node (fabric_of s.network) s.hops v port)
  port-rules-are v port p =
      subst (λ (n : ℕ). IsPermutation (port_rules r.hops (record { v = v; port = port }))
      (node (fabric_of s.network) n v port)) of.laid_out.hops
      (node-same (fabric r.hops) (fabric_of s.network) of.laid_out.sizes of.laid_out.links_are Parted closed kept-rules
      r.hops.hops v port p)
