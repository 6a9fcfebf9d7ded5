-- The steps of a change of a setting are those at the expression that changed, and those through hops.
use Rattle.std.proofs.Common.{◌≡◌, ◌≢◌, ℕ, zero, suc, ◌+◌, ◌<◌, ◌≤◌, ◌==◌, false, List, [], ◌∷◌, ◌++◌, Some, length}
use Rattle.std.proofs.Common.{take, refl, sym, ap, subst, ◌∙◌, arith}
use Rattle.std.specs.Prelude.{slice_get, slice_index_or, sum_by, IsPermutation}
use Rattle.std.specs.List.{AllByRecursion}
use Rattle.std.proofs.lemmas.List.Sums.{sum_by-take-le, sum_by_more, sum_by_more_le}
use Rattle.std.proofs.lemmas.Option.{get_or_from_slice_get, slice_get_within}
use Rattle.agreement.specs.declared.state.Setting.{Setting}
use Rattle.hop_rules.specs.Counts.{change_steps}
use Rattle.hop_rules.specs.Links.{ends, links}
use Rattle.hop_rules.specs.Tables.{IsHanded, TableOf, fabric, is_whole, own_ports, rules_at as rules_kept}
use Rattle.incr_compile.specs.Compiling.{IsOf, MemberChanges, policy_in}
use Rattle.incr_compile.specs.Costs.{steps_of}
use Rattle.incr_compile.specs.Trees.{tree_of}
use Rattle.incr_compile.specs.declared.compiled.LeafDelta.{LeafDelta}
use Rattle.incr_compile.specs.declared.tree.Tree.{Tree}
use Rattle.list_change.specs.Changes.{Apart}
use Rattle.list_change.proofs.Permute.{by-equation}
use Rattle.op_compose.specs.declared.delta.RuleDelta.{RuleDelta}
use Rattle.policy_expr.specs.Policy.{Policy}
use Rattle.policy_meaning.specs.Hops.{Fabric}
use Rattle.policy_meaning.specs.Networks.{fabric_of, ports_of, table_rules, table_size}
use Rattle.policy_meaning.specs.Switches.{SwitchOf}
use Rattle.policy_meaning.specs.declared.network.Link.{Link}
use Rattle.policy_meaning.specs.declared.network.Place.{Place}
use Rattle.policy_meaning.specs.declared.rule.Rule.{Rule}
use Rattle.policy_meaning.proofs.Lists.{all-map}
use Rattle.composed_tables.specs.Composing.{Changes}
use Rattle.composed_tables.specs.Rules.{AreRulesOf, AreTied, IsChangedAt, IsLaidOut, LeadsToParted, RulesOf}
use Rattle.composed_tables.specs.Steps.{expression_steps, hop_steps, setting_steps}
use Rattle.composed_tables.proofs.Applied.{gone-there, rules-after, same-switches, tied-parted}
use Rattle.composed_tables.proofs.HopSteps.{AreAlike, steps-alike}
use Rattle.composed_tables.proofs.Kept.{beside, kept-rules, within}
use Rattle.composed_tables.proofs.Places.{PartedIn, ends-parted, places-parted, ports-same}
use Rattle.composed_tables.proofs.Tests.{differ, more-spent, spent-first}

-- ---- sums
module _ {X : Type 0} (f : X → ℕ) (xs : List X) (v : ℕ) (x : X) (at : slice_get xs v ≡ Some x) (s0 s1 s2 : ℕ) where
  pub spent-more : s1 ≤ s0 + sum_by f (take v xs) → s2 ≤ s1 + f x → s2 ≤ s0 + sum_by f (take (v + 1) xs)
  spent-more far now =
      let e : sum_by f (take (v + 1) xs) ≡ sum_by f (take v xs) + f x =
      subst (λ (y : X). sum_by f (take (v + 1) xs) ≡ sum_by f (take v xs) + f y) (get_or_from_slice_get xs v x x at)
      (sum_by_more f xs v x (slice_get_within xs v x at)) in
      omega (arith, e, far, now)

  pub spent-within : s1 ≤ s0 + sum_by f (take v xs) → s2 ≤ s1 + f x → s2 ≤ s0 + sum_by f xs
  spent-within far now =
      let e = spent-more far now in
      let le = sum_by-take-le f xs (v + 1) in
      omega (arith, e, le)

  pub spent-one : s1 ≤ s0 + f x → s1 ≤ s0 + sum_by f xs
  spent-one now =
      let le : sum_by f (take v xs) + f x ≤ sum_by f xs =
      subst (λ (y : X). sum_by f (take v xs) + f y ≤ sum_by f xs) (get_or_from_slice_get xs v x x at)
      (sum_by_more_le f xs v x (slice_get_within xs v x at)) in
      omega (arith, le, now)

pub spent-all : {X : Type 0} (f : X → ℕ) (xs : List X) (v s0 s1 : ℕ) → s1 ≤ s0 + sum_by f (take v xs)
    → s1 ≤ s0 + sum_by f xs
spent-all f xs v s0 s1 far = let le = sum_by-take-le f xs v in omega (arith, le, far)

-- ---- a table in which a virtual switch has other rules
pub put : List (List Rule) → ℕ → List Rule → List (List Rule)
put [] zero r = r ∷ []
put [] (suc n) r = [] ∷ put [] n r
put (x ∷ xs) zero r = r ∷ xs
put (x ∷ xs) (suc n) r = x ∷ put xs n r

put-here : (xs : List (List Rule)) (n : ℕ) (r : List Rule) → slice_index_or (put xs n r) n [] ≡ r
unfolding put
put-here [] zero r = refl
put-here [] (suc n) r = put-here [] n r
put-here (x ∷ xs) zero r = refl
put-here (x ∷ xs) (suc n) r = put-here xs n r

put-there : (xs : List (List Rule)) (n : ℕ) (r : List Rule) (m : ℕ) → m ≢ n
    → slice_index_or (put xs n r) m [] ≡ slice_index_or xs m []
unfolding put
put-there [] zero r zero ne = absurd (ne refl)
put-there [] zero r (suc m) ne = refl
put-there [] (suc n) r zero ne = refl
put-there [] (suc n) r (suc m) ne = put-there [] n r m (λ e. ne (ap suc e))
put-there (x ∷ xs) zero r zero ne = absurd (ne refl)
put-there (x ∷ xs) zero r (suc m) ne = refl
put-there (x ∷ xs) (suc n) r zero ne = refl
put-there (x ∷ xs) (suc n) r (suc m) ne = put-there xs n r m (λ e. ne (ap suc e))

abbrev pub with-rules : TableOf → ℕ → List Rule → TableOf
with-rules t v rules = record t { rules = put t.rules v rules }

pub rules-here : (t : TableOf) (v : ℕ) (rules : List Rule) → rules_kept (with-rules t v rules) v ≡ rules
rules-here t v rules = put-here t.rules v rules

pub rules-there : (t : TableOf) (v : ℕ) (rules : List Rule) (u : ℕ) → (u == v) ≡ false
    → rules_kept (with-rules t v rules) u ≡ rules_kept t u
rules-there t v rules u ne = put-there t.rules v rules u (differ u v ne)

pub handed-with : (t : TableOf) (v : ℕ) (gone come kept rules : List Rule)
    → IsPermutation (rules_kept t v) (gone ++ kept) → rules ≡ come ++ kept
    → IsHanded t (with-rules t v rules) v gone come
handed-with t v gone come kept rules was is = record {
  rules = record {
    kept = kept;
    was = was;
    is = by-equation (rules_kept (with-rules t v rules) v) (come ++ kept) (rules-here t v rules ∙ is);
  };
  others = rules-there t v rules;
  rest = refl;
}

-- ---- a table beside the fabric of its setting
pub alike : (s : Setting) (t : TableOf) → IsLaidOut s t → (rules : ℕ → List Rule)
    → ((v : ℕ) → PartedIn s.network.switches v → IsPermutation (rules_kept t v) (rules v))
    → AreAlike (PartedIn s.network.switches) (fabric t)
    (record { rules = rules; sizes = (fabric_of s.network).sizes; links = (fabric_of s.network).links })
alike s t l rules same = record {
  sizes = l.sizes;
  links_are = l.links_are;
  closed = λ v p. all-map (LeadsToParted s.network) (λ (k : Link). PartedIn s.network.switches k.peer.v)
      (links t.plan v) (λ k f. (f.to, f.there, f.parted)) (l.leads v);
  rules = same;
}

pub hops-alike : (s : Setting) (t t' : TableOf) → IsLaidOut s t → length t.whole ≡ length s.network.switches
    → (g g' : Fabric)
    → AreAlike (PartedIn s.network.switches) (fabric t) g → AreAlike (PartedIn s.network.switches) (fabric t') g'
    → change_steps (fabric t) (fabric t') (ends t.plan) (own_ports t) t.hops ≡ hop_steps t.plan s g g'
hops-alike s t t' l long g g' a b =
    let same = ports-same s t l long in
    steps-alike (PartedIn s.network.switches) (ends t.plan) (ends-parted t.plan s.network l.leads) (fabric t) g
    (fabric t') g' a b (own_ports t)
    (subst (AllByRecursion (λ (p : Place). PartedIn s.network.switches p.v)) (sym same)
    (places-parted t.plan s l.count)) t.hops
    ∙ (λ i. change_steps g g' (ends t.plan) (same i) (l.hops i))

-- ---- a change of a member
module _ (v : ℕ) (delta : LeafDelta) (s s' : Setting) (c : Changes v delta s s') (r : RulesOf) (of : AreRulesOf s r)
    (there : v < length r.trees) where
  -- at the expression of the virtual switch
  pub tree-spent : (s0 s1 : ℕ)
      → ((t : Tree) → slice_get r.trees v ≡ Some t → (sizes : ℕ → ℕ) (before after : ℕ → List Rule)
      → MemberChanges delta before after → IsOf sizes before (tree_of t)
      → s1 ≤ s0 + steps_of sizes before after (policy_in (tree_of t)))
      → s1 ≤ s0 + sum_by (expression_steps s.network.tables s'.network.tables) s.network.switches
  tree-spent s0 s1 h =
      let t = within r.trees v there in
      let x = beside r.trees s.network.switches v t.item (sym of.count) t.is in
      let f = of.trees_are v x.item t.item x.is t.is in
      let sizes = λ (i : ℕ). table_size (slice_get s.network.tables i) in
      let rules = λ (i : ℕ). table_rules (ports_of x.item) (slice_get s.network.tables i) in
      let rules' = λ (i : ℕ). table_rules (ports_of x.item) (slice_get s'.network.tables i) in
      spent-one (expression_steps s.network.tables s'.network.tables) s.network.switches v x.item x.is s0 s1 s1
      (subst (λ (e : Policy). s1 ≤ s0 + steps_of sizes rules rules' e) f.policy
      (h t.item t.is sizes rules rules' (c.changed x.item x.is) f.tables_are))

  -- that is within all
  pub tree-within : (s0 s1 : ℕ)
      → s1 ≤ s0 + sum_by (expression_steps s.network.tables s'.network.tables) s.network.switches
      → s1 ≤ s0 + setting_steps r.hops.plan s s'
  tree-within s0 s1 le =
      spent-first s0 s1 (sum_by (expression_steps s.network.tables s'.network.tables) s.network.switches)
      (hop_steps r.hops.plan s (fabric_of s.network) (fabric_of s'.network)) le

  module _ (trees : List Tree) (told : RuleDelta) (tied : AreTied r) (changed : IsChangedAt v delta r.trees trees told)
    where
      pub told-apart : Apart told.gone told.come
      told-apart =
          let t = within r.trees v there in
          let u = beside r.trees trees v t.item changed.long t.is in
          (changed.changed t.item u.item t.is u.is).apart

      module _ (parted : is_whole r.hops v ≡ false) where
        pub kept : (kept : List Rule) × IsPermutation (rules_kept r.hops v) (told.gone ++ kept)
        kept = gone-there v delta r trees told tied changed parted there

        -- a table that the change makes of this one
        abbrev pub table-after : TableOf
        table-after = with-rules r.hops v (told.come ++ kept.0)

        pub handed : IsHanded r.hops table-after v told.gone told.come
        handed = handed-with r.hops v told.gone told.come kept.0 (told.come ++ kept.0) kept.1 refl

        abbrev pub rules-now : RulesOf
        rules-now = record { trees = trees; sizes = r.sizes; whole = r.whole; hops = table-after }

        tied-now : AreTied rules-now
        tied-now = tied-parted v delta r rules-now told tied changed refl refl handed

        of-now : AreRulesOf s' rules-now
        of-now = rules-after v delta s s' c r rules-now told of changed handed.rest

        pub hops-spent : change_steps (fabric r.hops) (fabric table-after) (ends r.hops.plan) (own_ports r.hops)
            r.hops.hops
            ≡ hop_steps r.hops.plan s (fabric_of s.network) (fabric_of s'.network)
        hops-spent =
            hops-alike s r.hops table-after of.laid_out (ap length tied.wholes ∙ (tied.count_whole ∙ of.count))
            (fabric_of s.network) (fabric_of s'.network)
            (alike s r.hops of.laid_out (fabric_of s.network).rules (kept-rules s r tied of))
            (subst (λ (z : List SwitchOf). AreAlike (PartedIn z) (fabric table-after) (fabric_of s'.network))
            (same-switches v delta s s' c)
            (alike s' table-after of-now.laid_out (fabric_of s'.network).rules
            (kept-rules s' rules-now tied-now of-now)))

        -- at the expression and through hops
        pub all-spent : (s0 s1 s2 : ℕ)
            → s1 ≤ s0 + sum_by (expression_steps s.network.tables s'.network.tables) s.network.switches
            → ((after : TableOf) → IsHanded r.hops after v told.gone told.come → Apart told.gone told.come
            → s2 ≤ s1 + change_steps (fabric r.hops) (fabric after) (ends r.hops.plan) (own_ports r.hops) r.hops.hops)
            → s2 ≤ s0 + setting_steps r.hops.plan s s'
        all-spent s0 s1 s2 le h =
            let more : s2 ≤ s1 + hop_steps r.hops.plan s (fabric_of s.network) (fabric_of s'.network) =
            subst (λ (n : ℕ). s2 ≤ s1 + n) hops-spent (h table-after handed told-apart) in
            more-spent s0 s1 s2 (sum_by (expression_steps s.network.tables s'.network.tables) s.network.switches)
            (hop_steps r.hops.plan s (fabric_of s.network) (fabric_of s'.network)) le more
