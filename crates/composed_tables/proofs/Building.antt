-- The table of hops, as rules are handed over for the first time.
use Rattle.std.proofs.Common.{◌≡◌, ℕ, ◌+◌, ◌<◌, ◌≤◌, ◌^◌, ◌*◌, ◌==◌, ◌⊎◌, inl, inr, zero, suc, Bool, true, false, List}
use Rattle.std.proofs.Common.{[], ◌∷◌, ◌++◌, Some, length, map, get_or, refl, sym, ap, subst, ◌∙◌, arith, eqb-true}
use Rattle.std.specs.Prelude.{IsPermutation, slice_get, slice_index_or}
use Rattle.std.specs.List.{AllByRecursion}
use Rattle.std.proofs.lemmas.Bool.{cases_lt}
use Rattle.std.proofs.lemmas.List.{append-nil}
use Rattle.std.proofs.lemmas.List.Sorted.{IsPermutation-refl, IsPermutation-trans}
use Rattle.hop_rules.specs.Tables.{IsHanded, MayCome, TableOf, empty_table, fabric, is_whole, rules_at as rules_kept}
use Rattle.incr_compile.specs.Compiling.{rules_at}
use Rattle.incr_compile.specs.Trees.{tree_of}
use Rattle.incr_compile.specs.declared.tree.Tree.{Tree}
use Rattle.list_change.specs.Changes.{Changed}
use Rattle.list_change.proofs.Permute.{by-equation}
use Rattle.policy_meaning.specs.Hops.{Fabric, hop_size, peers_size}
use Rattle.policy_meaning.specs.declared.rule.Rule.{Rule}
use Rattle.policy_meaning.proofs.Lists.{all-map}
use Rattle.virtual_topology.specs.declared.plan.TopologyPlan.{TopologyPlan}
use Rattle.composed_tables.specs.Rules.{IsEmptyTable, IsFitting, IsHandedOver, KeepsRest}
use Rattle.composed_tables.proofs.Cancelling.{same-after}
use Rattle.composed_tables.proofs.Tests.{below-differ, both, from-past, past-differ}

abbrev no-rules : List Rule
no-rules = []

-- all that comes to nothing is there after
own-handed : (before after come : List Rule) → before ≡ [] → Changed before after [] come → IsPermutation come after
own-handed before after come none c =
    same-after [] come before after [] come (by-equation [] before (sym none))
    (record { kept = []; was = IsPermutation-refl []; is = by-equation come (come ++ []) (sym (append-nil come)) }) c

pub handed-over : (v : ℕ) (trees : List Tree) (before after : TableOf) (come : List Rule) → rules_kept before v ≡ []
    → IsHanded before after v [] come
    → ((t : Tree) → slice_get trees v ≡ Some t → IsPermutation (rules_at (tree_of t)) come)
    → IsHandedOver v trees before after
handed-over v trees before after come none h is = record {
  rest = h.rest;
  others = h.others;
  own = λ t at w. IsPermutation-trans (rules_at (tree_of t)) come (rules_kept after v) (is t at)
      (own-handed (rules_kept before v) (rules_kept after v) come none h.rules);
}

-- of a whole virtual switch nothing is handed over
pub whole-over : (v : ℕ) (trees : List Tree) (t : TableOf) → is_whole t v ≡ true → IsHandedOver v trees t t
whole-over v trees t w = record {
  rest = refl;
  others = λ u e. refl;
  own = λ tree at f. absurd (both (is_whole t v) w f);
}

below-or-at : (m n : ℕ) → m < n + 1 → (m < n) ⊎ (m ≡ n)
below-or-at m n lt = by (cases_lt m n)
  where
    by : (m < n) ⊎ (n ≤ m) → (m < n) ⊎ (m ≡ n)
    by (inl f) = inl f
    by (inr f) = inr (omega arith)

apart-number : (m n : ℕ) → (m ≡ n → ⊥) → (m == n) ≡ false
apart-number m n f = by (m == n) refl
  where
    by : (b : Bool) → (m == n) ≡ b → (m == n) ≡ false
    by true e = absurd (f (eqb-true m n e))
    by false e = e

-- one virtual switch more
module _ (v : ℕ) (trees : List Tree) (first before after : TableOf) (rest : KeepsRest first before)
    (h : IsHandedOver v trees before after) where
  pub rest-more : KeepsRest first after
  rest-more = h.rest ∙ (λ i. record (rest i) { rules = after.rules })

  whole-as : (u : ℕ) → is_whole before u ≡ is_whole first u
  whole-as u = ap (λ (z : TableOf). is_whole z u) rest

  pub done-more : ((u : ℕ) (t : Tree) → u < v → slice_get trees u ≡ Some t → is_whole first u ≡ false
      → IsPermutation (rules_at (tree_of t)) (rules_kept before u))
      → (u : ℕ) (t : Tree) → u < v + 1 → slice_get trees u ≡ Some t → is_whole first u ≡ false
      → IsPermutation (rules_at (tree_of t)) (rules_kept after u)
  done-more done u t lt at w = by (below-or-at u v lt)
    where
      by : (u < v) ⊎ (u ≡ v) → IsPermutation (rules_at (tree_of t)) (rules_kept after u)
      by (inl l) = subst (λ (z : List Rule). IsPermutation (rules_at (tree_of t)) z)
          (sym (h.others u (apart-number u v (below-differ u v l)))) (done u t l at w)
      by (inr e) =
          subst (λ (n : ℕ). IsPermutation (rules_at (tree_of t)) (rules_kept after n)) (sym e)
          (h.own t (ap (slice_get trees) (sym e) ∙ at) (ap (is_whole before) (sym e) ∙ (whole-as u ∙ w)))

  pub none-more : ((u : ℕ) → v ≤ u → rules_kept before u ≡ []) → (u : ℕ) → v + 1 ≤ u → rules_kept after u ≡ []
  none-more none u le = h.others u (apart-number u v (past-differ u v le)) ∙ none u (from-past u v le)

-- nothing was handed over yet
pub none-kept : (sizes : List ℕ) (v : ℕ) → slice_index_or (map (λ (n : ℕ). no-rules) sizes) v no-rules ≡ no-rules
none-kept [] v = refl
none-kept (n ∷ ns) zero = refl
none-kept (n ∷ ns) (suc v) = none-kept ns v

-- fabrics with the same sizes and links have the same sizes over hops
module _ (f g : Fabric) (sizes : (v : ℕ) → f.sizes v ≡ g.sizes v) (links : (v : ℕ) → f.links v ≡ g.links v) where
  pub over-hops : (n v : ℕ) → hop_size f n v ≡ hop_size g n v
  over-hops zero v = refl
  over-hops (suc n) v = λ i. sizes v i * peers_size (λ w. over-hops n w i) (links v i)

-- rules whose levels are below the size of a virtual switch, and whose matches are normal, may come
pub may-come : (t : TableOf) (sizes : List ℕ) (v size : ℕ) → sizes ≡ t.sizes → v < length t.sizes
    → size ≡ get_or sizes v 1 → (come : List Rule)
    → AllByRecursion (IsFitting size) come → AllByRecursion (MayCome t v) come
may-come t sizes v size same lt is come a =
    let there : v < length sizes = subst (λ (z : List ℕ). v < length z) (sym same) lt in
    let e : size ≡ (fabric t).sizes v = is ∙ ap (λ (z : List ℕ). get_or z v 1) same in
    all-map (IsFitting size) (MayCome t v) come
    (λ r f. record { below = subst (λ (n : ℕ). r.level < n) e f.below; normal = f.normal }) a

-- a table without rules, made of copies, is one of what they are copies of
module _ (plan plan' : TopologyPlan) (sizes sizes' : List ℕ) (hops : ℕ) (whole whole' : List Bool) (p : plan' ≡ plan)
    (s : sizes' ≡ sizes) (w : whole' ≡ whole) where
  copied : empty_table plan' sizes' hops whole' ≡ empty_table plan sizes hops whole
  copied = λ i. empty_table (p i) (s i) hops (w i)

  pub copied-fits : ((v : ℕ) → hop_size (fabric (empty_table plan sizes hops whole)) hops v < 2 ^ 64) → (v : ℕ)
      → hop_size (fabric (empty_table plan' sizes' hops whole')) hops v < 2 ^ 64
  copied-fits f v = subst (λ (z : TableOf). hop_size (fabric z) hops v < 2 ^ 64) (sym copied) (f v)

  module _ (t : TableOf) (is : t ≡ record (empty_table plan' sizes' hops whole')
      { rules = map (λ (n : ℕ). no-rules) sizes' }) where
    pub copied-empty : IsEmptyTable sizes whole t
    copied-empty = record {
      kept = ap (λ (z : TableOf). z.lost) is;
      sizes_are = ap (λ (z : TableOf). z.sizes) is ∙ s;
      wholes = ap (λ (z : TableOf). z.whole) is ∙ w;
      none = λ v. ap (λ (z : TableOf). rules_kept z v) is ∙ none-kept sizes' v;
    }

    pub copied-plan : t.plan ≡ plan
    copied-plan = ap (λ (z : TableOf). z.plan) is ∙ p

    pub copied-hops : t.hops ≡ hops
    copied-hops = ap (λ (z : TableOf). z.hops) is
