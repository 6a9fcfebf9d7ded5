-- What is known of the rules of a virtual switch stays known through changes.
use Rattle.std.proofs.Common.{◌≡◌, ℕ, zero, suc, ◌==◌, ◌*◌, ◌^◌, ◌<◌, ◌≤◌, Bool, false, List, [], ◌∷◌, ◌++◌, Option}
use Rattle.std.proofs.Common.{Some, length, refl, ap, subst, sym, ◌∙◌, arith}
use Rattle.std.specs.Prelude.{IsPermutation, map, option_to_list, slice_get, slice_index_or}
use Rattle.std.specs.List.{AllByRecursion, remove}
use Rattle.std.proofs.lemmas.List.Sorted.{IsPermutation-append_comm, IsPermutation-append_right, IsPermutation-refl}
use Rattle.std.proofs.lemmas.List.Sorted.{IsPermutation-remove, IsPermutation-sym, IsPermutation-to_front}
use Rattle.std.proofs.lemmas.List.Sorted.{IsPermutation-trans}
use Rattle.std.proofs.lemmas.Nat.{mul-le}
use Rattle.std.proofs.lemmas.Option.{get_or_from_slice_get, slice_get_within}
use Rattle.list_change.specs.Changes.{Apart, Changed}
use Rattle.list_change.proofs.Came.{came-ordered, what-came}
use Rattle.made_rules.specs.Coming.{is_rule}
use Rattle.made_rules.proofs.SameRules.{rule_decides}
use Rattle.policy_meaning.specs.Hops.{Fabric, hop_size, peers_size}
use Rattle.policy_meaning.specs.declared.network.Link.{Link}
use Rattle.policy_meaning.specs.declared.rule.Rule.{Rule}
use Rattle.policy_meaning.proofs.Lists.{all-map}
use Rattle.virtual_topology.specs.declared.plan.TopologyPlan.{TopologyPlan}
use Rattle.hop_rules.specs.Tables.{IsHanded, MayCome, TableOf, empty_table, fabric, is_whole, rules_at}
use Rattle.fitting_changes.specs.Composers.{FitsIn}
use Rattle.random_changes.specs.Holding.{AreHeld, IsHolding}

-- ---- lists that are the same in other orders stay so through the same change

put-behind : (xs ys : List Rule) → Changed xs (xs ++ ys) [] ys
put-behind xs ys = record { kept = xs; was = IsPermutation-refl xs; is = IsPermutation-append_comm xs ys }

none-apart : (ys : List Rule) → Apart [] ys
none-apart ys x i j = absurd (let h = i.1 in omega arith)

-- what is the same behind a list is the same
cancel : (xs ys zs : List Rule) → IsPermutation (xs ++ ys) (xs ++ zs) → IsPermutation ys zs
cancel xs ys zs p =
    IsPermutation-trans _ _ _
    (IsPermutation-sym _ _ (what-came is_rule rule_decides xs (xs ++ ys) [] ys (put-behind xs ys) (none-apart ys)))
    (IsPermutation-trans _ _ _ (came-ordered is_rule rule_decides xs xs (xs ++ ys) (xs ++ zs) (IsPermutation-refl xs) p)
    (what-came is_rule rule_decides xs (xs ++ zs) [] zs (put-behind xs zs) (none-apart zs)))

same-after : (xs ys us vs gone come : List Rule) → IsPermutation xs us → Changed xs ys gone come
    → Changed us vs gone come → IsPermutation ys vs
same-after xs ys us vs gone come m c d =
    let kept : IsPermutation c.kept d.kept =
    cancel gone c.kept d.kept (IsPermutation-trans (gone ++ c.kept) us (gone ++ d.kept)
    (IsPermutation-trans (gone ++ c.kept) xs us (IsPermutation-sym xs (gone ++ c.kept) c.was) m) d.was) in
    IsPermutation-trans ys (come ++ c.kept) vs c.is
    (IsPermutation-trans (come ++ c.kept) (come ++ d.kept) vs (IsPermutation-append_right come c.kept d.kept kept)
    (IsPermutation-sym vs (come ++ d.kept) d.is))

-- ---- a table after a change

-- after a change of its rules
pub holds-after : (t t' : TableOf) (v : ℕ) (gone come held held' : List Rule) → IsHolding t v held
    → IsHanded t t' v gone come
    → Changed held held' gone come → IsHolding t' v held'
holds-after t t' v gone come held held' i h d = record {
  kept = ap (λ (u : TableOf). u.lost) h.rest ∙ i.kept;
  there = subst (λ (ss : List ℕ). v < length ss) (sym (ap (λ (u : TableOf). u.sizes) h.rest)) i.there;
  size = ap (λ (u : TableOf). slice_index_or u.sizes v 1) h.rest ∙ i.size;
  parted = ap (λ (u : TableOf). is_whole u v) h.rest ∙ i.parted;
  rules = same-after (rules_at t v) (rules_at t' v) held held' gone come i.rules h.rules d;
}

-- after a change of the rules of another
pub others-hold : (t t' : TableOf) (v u : ℕ) (gone come held : List Rule) → (u == v) ≡ false → IsHanded t t' v gone come
    → IsHolding t u held → IsHolding t' u held
others-hold t t' v u gone come held e h i = record {
  kept = ap (λ (w : TableOf). w.lost) h.rest ∙ i.kept;
  there = subst (λ (ss : List ℕ). u < length ss) (sym (ap (λ (w : TableOf). w.sizes) h.rest)) i.there;
  size = ap (λ (w : TableOf). slice_index_or w.sizes u 1) h.rest ∙ i.size;
  parted = ap (λ (w : TableOf). is_whole w u) h.rest ∙ i.parted;
  rules = subst (λ (rs : List Rule). IsPermutation rs held) (sym (h.others u e)) i.rules;
}

-- ---- two virtual switches without rules

-- where sizes are at most 8, the levels over hops are at most as many as over virtual switches of 8 levels
peers-within : (f : ℕ → ℕ) (s : ℕ) → 1 ≤ s → ((v : ℕ) → f v ≤ s) → (ls : List Link) → peers_size f ls ≤ s
peers-within f s p w [] = p
peers-within f s p w (l ∷ ls) = let a = w l.peer.v in let b = peers-within f s p w ls in omega arith

abbrev eights : ℕ → ℕ
eights zero = 1
eights (suc n) = 8 * eights n

some-eights : (n : ℕ) → 1 ≤ eights n
some-eights zero = let one : 1 ≤ 1 = omega arith in one
some-eights (suc n) = let a = some-eights n in omega arith

hops-within : (f : Fabric) → ((v : ℕ) → f.sizes v ≤ 8) → (n v : ℕ) → hop_size f n v ≤ eights n
hops-within f w zero v = let one : 1 ≤ 1 = omega arith in one
hops-within f w (suc n) v =
    mul-le (f.sizes v) (peers_size (hop_size f n) (f.links v)) 8 (eights n) (w v)
    (peers-within (hop_size f n) (eights n) (some-eights n) (hops-within f w n) (f.links v))

two-eights : (v : ℕ) → slice_index_or (8 ∷ 8 ∷ []) v 1 ≤ 8
two-eights zero = omega arith
two-eights (suc zero) = omega arith
two-eights (suc (suc v)) = omega arith

-- two virtual switches of 8 levels, through three hops
pub two-fit : (plan : TopologyPlan) (sizes : List ℕ) (whole : List Bool) → sizes ≡ 8 ∷ 8 ∷ [] → (v : ℕ)
    → hop_size (fabric (empty_table plan sizes 3 whole)) 3 v < 2 ^ 64
two-fit plan sizes whole e v =
    let w : hop_size (fabric (empty_table plan sizes 3 whole)) 3 v ≤ 512 =
    hops-within (fabric (empty_table plan sizes 3 whole))
    (λ u. subst (λ (ss : List ℕ). slice_index_or ss u 1 ≤ 8) (sym e) (two-eights u)) 3 v in
    omega arith

pub none-held : (plan : TopologyPlan) (sizes : List ℕ) (whole : List Bool) (t : TableOf) → sizes ≡ 8 ∷ 8 ∷ []
    → whole ≡ false ∷ false ∷ []
    → t ≡ record (empty_table plan sizes 3 whole) { rules = map (λ v. []) sizes } → AreHeld t [] []
none-held plan sizes whole t e w h =
    subst (λ (u : TableOf). AreHeld u [] []) (sym h)
    (subst (λ (ss : List ℕ). AreHeld (record (empty_table plan ss 3 whole) { rules = map (λ v. []) ss }) [] []) (sym e)
    (subst (λ (ws : List Bool). AreHeld (record (empty_table plan (8 ∷ 8 ∷ []) 3 ws) { rules = [] ∷ [] ∷ [] }) [] [])
    (sym w) record {
      one = record { kept = refl; there = omega arith; size = refl; parted = refl; rules = IsPermutation-refl [] };
      other = record { kept = refl; there = omega arith; size = refl; parted = refl; rules = IsPermutation-refl [] };
    }))

-- ---- rules that go from those that are held, and that come to them

pub took-one : (held held' : List Rule) (r : Rule) (place : ℕ) → slice_get held place ≡ Some r
    → held' ≡ remove held place
    → IsPermutation held (r ∷ held')
took-one held held' r place i h =
    subst (λ (z : List Rule). IsPermutation held (r ∷ z)) (sym h)
    (IsPermutation-remove held place r (slice_get_within held place r i) (sym (get_or_from_slice_get held place r r i)))

pub put-one : (held held' : List Rule) (r copied : Rule) → copied ≡ r → held' ≡ held ++ copied ∷ []
    → IsPermutation held' (r ∷ held)
put-one held held' r copied s h =
    subst (λ (z : List Rule). IsPermutation z (r ∷ held)) (sym h)
    (subst (λ (x : Rule). IsPermutation (held ++ x ∷ []) (r ∷ held)) (sym s) (IsPermutation-to_front held r))

-- what went was among the rules of the virtual switch
pub gone-there : (t : TableOf) (v : ℕ) (held mid gone : List Rule) (goes : Option Rule) → IsHolding t v held
    → gone ≡ option_to_list goes
    → IsPermutation held (option_to_list goes ++ mid) → (kept : List Rule) × IsPermutation (rules_at t v) (gone ++ kept)
gone-there t v held mid gone goes i g m = (
  mid,
  subst (λ (z : List Rule). IsPermutation (rules_at t v) (z ++ mid)) (sym g)
      (IsPermutation-trans (rules_at t v) held (option_to_list goes ++ mid) i.rules m),
)

-- what comes may come
pub may-come : (t : TableOf) (v : ℕ) (held come : List Rule) (comes : Option Rule) → IsHolding t v held
    → come ≡ option_to_list comes
    → AllByRecursion (FitsIn 8) (option_to_list comes) → AllByRecursion (MayCome t v) come
may-come t v held come comes i c a =
    all-map (FitsIn 8) (MayCome t v) come
    (λ r f. record { below = subst (λ (k : ℕ). r.level < k) (sym i.size) f.below; normal = f.normal })
    (subst (AllByRecursion (FitsIn 8)) (sym c) a)

-- what is held changed so
pub is-change : (held mid held' gone come : List Rule) (goes comes : Option Rule) → gone ≡ option_to_list goes
    → come ≡ option_to_list comes
    → IsPermutation held (option_to_list goes ++ mid) → IsPermutation held' (option_to_list comes ++ mid)
    → Changed held held' gone come
is-change held mid held' gone come goes comes g c m n = record {
  kept = mid;
  was = subst (λ (z : List Rule). IsPermutation held (z ++ mid)) (sym g) m;
  is = subst (λ (z : List Rule). IsPermutation held' (z ++ mid)) (sym c) n;
}
