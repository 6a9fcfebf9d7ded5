-- The steps in which virtual switches are handed over one after the other.
use Rattle.std.proofs.Common.{◌≡◌, ◌≢◌, ℕ, zero, suc, ◌+◌, ◌<◌, ◌≤◌, ◌==◌, ◌-◌, ◌⊎◌, inl, inr, Bool, true, false, List}
use Rattle.std.proofs.Common.{[], ◌∷◌, Option, Some, None, length, take, refl, sym, ap, subst, ◌∙◌, arith, eqb-true}
use Rattle.std.specs.Prelude.{slice_get, Contains, IsPermutation}
use Rattle.std.proofs.lemmas.Bool.{cases_lt}
use Rattle.std.proofs.lemmas.List.{append-nil}
use Rattle.std.proofs.lemmas.List.Sorted.{IsPermutation-sym, IsPermutation-trans}
use Rattle.agreement.specs.declared.state.Setting.{Setting}
use Rattle.hop_rules.specs.Counts.{change_steps}
use Rattle.hop_rules.specs.Links.{ends}
use Rattle.hop_rules.specs.Tables.{IsHanded, TableOf, fabric, is_whole, own_ports, rules_at as rules_kept}
use Rattle.incr_compile.specs.Compiling.{rules_at}
use Rattle.incr_compile.specs.Trees.{tree_of}
use Rattle.incr_compile.specs.declared.tree.Tree.{Tree}
use Rattle.list_change.specs.Changes.{Apart}
use Rattle.list_change.proofs.Permute.{by-equation}
use Rattle.policy_meaning.specs.Networks.{switch_rules}
use Rattle.policy_meaning.specs.Switches.{SwitchOf}
use Rattle.policy_meaning.specs.declared.rule.Rule.{Rule}
use Rattle.virtual_topology.specs.declared.plan.TopologyPlan.{TopologyPlan}
use Rattle.composed_tables.specs.Rules.{AreRulesOf, AreSound, IsLaidOut, KeepsRest, RulesOf}
use Rattle.composed_tables.specs.Steps.{HasFirst, first_fabric, first_steps, hop_steps}
use Rattle.composed_tables.proofs.Kept.{beside, rules-of-tree}
use Rattle.composed_tables.proofs.Spending.{alike, handed-with, hops-alike, rules-here, rules-there, with-rules}
use Rattle.composed_tables.proofs.Tests.{differ, spent-up}

-- ---- the first items of a list
module _ {X : Type 0} where
  take-within : (xs : List X) (n k : ℕ) → k < n → slice_get (take n xs) k ≡ slice_get xs k
  take-within [] zero k lt = refl
  take-within [] (suc n) k lt = refl
  take-within (x ∷ xs) zero k lt = absurd (omega arith)
  take-within (x ∷ xs) (suc n) zero lt = refl
  take-within (x ∷ xs) (suc n) (suc k) lt = take-within xs n k (omega arith)

  take-past : (xs : List X) (n k : ℕ) → n ≤ k → slice_get (take n xs) k ≡ None
  take-past [] zero k le = refl
  take-past [] (suc n) k le = refl
  take-past (x ∷ xs) zero k le = refl
  take-past (x ∷ xs) (suc n) zero le = absurd (omega arith)
  take-past (x ∷ xs) (suc n) (suc k) le = take-past xs n k (omega arith)

  take-next : (xs : List X) (n k : ℕ) → k ≢ n → slice_get (take n xs) k ≡ slice_get (take (n + 1) xs) k
  take-next xs n k ne = by (cases_lt k n)
    where
      by : (k < n) ⊎ (n ≤ k) → slice_get (take n xs) k ≡ slice_get (take (n + 1) xs) k
      by (inl lt) = take-within xs n k lt ∙ sym (take-within xs (n + 1) k (omega arith))
      by (inr le) = take-past xs n k le ∙ sym (take-past xs (n + 1) k (let far : n + 1 ≤ k = omega arith in far))

-- no rule is in an empty list
nowhere : (x : Rule) → Contains [] x → ⊥
nowhere x i = let lt = i.1 in omega arith

next-of : (u v : ℕ) → u ≡ v → u < v + 1
next-of u v e = omega arith

-- ---- steps so far
module _ (plan : TopologyPlan) (s : Setting) where
  abbrev one : ℕ → ℕ
  one n = hop_steps plan s (first_fabric s.network n) (first_fabric s.network (n + 1))

  first-next : (n : ℕ) → first_steps plan s (n + 1) ≡ first_steps plan s n + one n
  first-next n = ap (first_steps plan s) (let e : n + 1 ≡ suc n = omega arith in e)

  first-plus : (n k : ℕ) → first_steps plan s n ≤ first_steps plan s (n + k)
  first-plus n zero = subst (λ (m : ℕ). first_steps plan s n ≤ first_steps plan s m)
      (let e : n ≡ n + 0 = omega arith in e) (omega arith)
  first-plus n (suc k) =
      let le = first-plus n k in
      let next = first-next (n + k) in
      let far : first_steps plan s n ≤ first_steps plan s (n + k + 1) = omega (arith, le, next) in
      subst (λ (m : ℕ). first_steps plan s n ≤ first_steps plan s m) (let e : n + k + 1 ≡ n + suc k = omega arith in e)
      far

  first-up : (n m : ℕ) → n ≤ m → first_steps plan s n ≤ first_steps plan s m
  first-up n m le =
      subst (λ (k : ℕ). first_steps plan s n ≤ first_steps plan s k) (let e : n + (m - n) ≡ m = omega arith in e)
      (first-plus n (m - n))

  module _ (n s0 s1 s2 : ℕ) where
    pub first-more : s1 ≤ s0 + first_steps plan s n → s2 ≤ s1 + one n → s2 ≤ s0 + first_steps plan s (n + 1)
    first-more far now = let e = first-next n in omega (arith, e, far, now)

    pub first-within : (m : ℕ) → n < m → s1 ≤ s0 + first_steps plan s n → s2 ≤ s1 + one n
        → s2 ≤ s0 + first_steps plan s m
    first-within m lt far now =
        let e = first-more far now in
        let le = first-up (n + 1) m (omega arith) in
        omega (arith, e, le)

  -- those of the first are within those of all
  pub first-all : (n m s0 s1 : ℕ) → n ≤ m → s1 ≤ s0 + first_steps plan s n → s1 ≤ s0 + first_steps plan s m
  first-all n m s0 s1 le far = spent-up s0 s1 (first_steps plan s n) (first_steps plan s m) far (first-up n m le)

-- ---- a table of a setting stays one with other rules
pub laid-rules : (s : Setting) (t : TableOf) (rules : List (List Rule)) → IsLaidOut s t
    → IsLaidOut s (record t { rules = rules })
laid-rules s t rules l = record {
  hops = l.hops;
  count = l.count;
  sizes = l.sizes;
  links_are = l.links_are;
  leads = l.leads;
  whole = l.whole;
  ports = l.ports;
}

pub laid-rest : (s : Setting) (t t' : TableOf) → KeepsRest t t' → IsLaidOut s t → IsLaidOut s t'
laid-rest s t t' rest l = subst (IsLaidOut s) (sym rest) (laid-rules s t t'.rules l)

module _ (s : Setting) (trees : List Tree) (sound : AreSound trees) where
  -- one virtual switch is handed over
  module _ (r : RulesOf) (trees-are : r.trees ≡ trees) (of : AreRulesOf s r) (long : length r.whole ≡ length r.trees)
      (wholes : r.hops.whole ≡ r.whole) (v : ℕ) (has : HasFirst s v r.hops)
      (none : rules_kept r.hops v ≡ []) (tree : Tree) (is : slice_get r.trees v ≡ Some tree) (come : List Rule)
      (same : IsPermutation (rules_at (tree_of tree)) come) where
    sound-all : AreSound r.trees
    sound-all = subst AreSound (sym trees-are) sound

    abbrev after : TableOf
    after = with-rules r.hops v come

    has-next : HasFirst s (v + 1) after
    has-next u x at w = by (u == v) refl
      where
        by : (b : Bool) → (u == v) ≡ b → IsPermutation (rules_kept after u) ((first_fabric s.network (v + 1)).rules u)
        by false e =
            subst (λ (z : List Rule). IsPermutation z ((first_fabric s.network (v + 1)).rules u))
            (sym (rules-there r.hops v come u e))
            (subst (λ (o : Option SwitchOf). IsPermutation (rules_kept r.hops u) (switch_rules s.network.tables o))
            (take-next s.network.switches v u (differ u v e)) (has u x at w))
        by true e =
            let q = eqb-true u v e in
            let there : slice_get r.trees u ≡ Some tree = ap (slice_get r.trees) q ∙ is in
            let kept : rules_kept after u ≡ come = ap (rules_kept after) q ∙ rules-here r.hops v come in
            let first : slice_get (take (v + 1) s.network.switches) u ≡ Some x =
            take-within s.network.switches (v + 1) u (next-of u v q) ∙ at in
            subst (λ (z : List Rule). IsPermutation z ((first_fabric s.network (v + 1)).rules u)) (sym kept)
            (subst (λ (o : Option SwitchOf). IsPermutation come (switch_rules s.network.tables o)) (sym first)
            (IsPermutation-trans come (rules_at (tree_of tree)) (switch_rules s.network.tables (Some x))
            (IsPermutation-sym (rules_at (tree_of tree)) come same)
            (rules-of-tree s.network r.trees sound-all of.trees_are u x tree at there)))

    next-spent : change_steps (fabric r.hops) (fabric after) (ends r.hops.plan) (own_ports r.hops) r.hops.hops
        ≡ hop_steps r.hops.plan s (first_fabric s.network v) (first_fabric s.network (v + 1))
    next-spent =
        hops-alike s r.hops after of.laid_out (ap length wholes ∙ (long ∙ of.count)) (first_fabric s.network v)
        (first_fabric s.network (v + 1))
        (alike s r.hops of.laid_out (first_fabric s.network v).rules (λ u p. has u p.0 p.1 p.2))
        (alike s after (laid-rules s r.hops after.rules of.laid_out) (first_fabric s.network (v + 1)).rules
        (λ u p. has-next u p.0 p.1 p.2))

    pub handing-spent : (gone : List Rule) → gone ≡ [] → (s0 s1 : ℕ)
        → ((t : TableOf) → IsHanded r.hops t v gone come → Apart gone come
        → s1 ≤ s0 + change_steps (fabric r.hops) (fabric t) (ends r.hops.plan) (own_ports r.hops) r.hops.hops)
        → s1 ≤ s0 + hop_steps r.hops.plan s (first_fabric s.network v) (first_fabric s.network (v + 1))
    handing-spent gone nothing s0 s1 h =
        let handed : IsHanded r.hops after v [] come =
        handed-with r.hops v [] come [] come (by-equation (rules_kept r.hops v) [] none) (sym (append-nil come)) in
        let apart : Apart [] come = λ x i j. nowhere x i in
        subst (λ (n : ℕ). s1 ≤ s0 + n) next-spent
        (h after (subst (λ (z : List Rule). IsHanded r.hops after v z come) (sym nothing) handed)
        (subst (λ (z : List Rule). Apart z come) (sym nothing) apart))

  -- the first have been handed over
  pub first-handed : (r : RulesOf) → r.trees ≡ trees → AreRulesOf s r → (v : ℕ) (t : TableOf)
      → ((u : ℕ) (tree : Tree) → u < v → slice_get trees u ≡ Some tree → is_whole r.hops u ≡ false
      → IsPermutation (rules_at (tree_of tree)) (rules_kept t u))
      → ((u : ℕ) → v ≤ u → rules_kept t u ≡ []) → HasFirst s v t
  first-handed r trees-are of v t done none u x at w = by (cases_lt u v)
    where
      by : (u < v) ⊎ (v ≤ u) → IsPermutation (rules_kept t u) ((first_fabric s.network v).rules u)
      by (inl lt) =
          let k = beside s.network.switches r.trees u x of.count at in
          let there : slice_get trees u ≡ Some k.item = ap (λ (z : List Tree). slice_get z u) (sym trees-are) ∙ k.is in
          let first : slice_get (take v s.network.switches) u ≡ Some x = take-within s.network.switches v u lt ∙ at in
          subst (λ (o : Option SwitchOf). IsPermutation (rules_kept t u) (switch_rules s.network.tables o)) (sym first)
          (IsPermutation-trans (rules_kept t u) (rules_at (tree_of k.item)) (switch_rules s.network.tables (Some x))
          (IsPermutation-sym (rules_at (tree_of k.item)) (rules_kept t u)
          (done u k.item lt there (of.laid_out.whole u x at ∙ w)))
          (rules-of-tree s.network r.trees (subst AreSound (sym trees-are) sound) of.trees_are u x k.item at k.is))
      by (inr le) =
          by-equation (rules_kept t u) ((first_fabric s.network v).rules u)
          (none u le
          ∙ sym (ap (λ (o : Option SwitchOf). switch_rules s.network.tables o)
          (take-past s.network.switches v u le)))
