-- Rules that couldn't meet make nothing, so that candidates are enough.
use Rattle.std.proofs.Common.{◌≡◌, ℕ, ◌+◌, ◌≤◌, ◌<◌, Bool, true, false, cond, List, [], ◌∷◌, ◌++◌, Option, Some, None}
use Rattle.std.proofs.Common.{length, get_or, take, refl, sym, ap, subst, ◌∙◌, arith}
use Rattle.std.specs.Prelude.{IsPermutation, count_by, filter, filter_map, flat_map, if◌then◌else◌, option_map, sum_by}
use Rattle.std.specs.List.{All, AllByRecursion, cons_option}
use Rattle.std.proofs.lemmas.Grind.{common_steps}
use Rattle.std.proofs.lemmas.List.{take_more}
use Rattle.std.proofs.lemmas.List.Elements.{All-filter}
use Rattle.std.proofs.lemmas.List.Recursion.{is_count_by}
use Rattle.std.proofs.lemmas.List.Sums.{sum_by_more, sum_by_more_le}
use Rattle.std.proofs.lemmas.List.Sorted.{All-permutation, IsPermutation-append_left, IsPermutation-append_right}
use Rattle.std.proofs.lemmas.List.Sorted.{IsPermutation-sym, IsPermutation-trans, length_permutation}
use Rattle.of10_match.specs.Fields.{MatchOf}
use Rattle.of10_match.specs.Matching.{both}
use Rattle.of10_match.specs.Ranges.{IsMatch}
use Rattle.of10_match.proofs.Commuting.{overlaps-comm}
use Rattle.of10_actions.specs.declared.effects.Tail.{Tail}
use Rattle.of10_actions.specs.declared.effects.Tail.TheVariants.{Nothing, Pass, Link}
use Rattle.pull_back.specs.Pulling.{image}
use Rattle.list_change.specs.Pairing.{by_left, by_right, pairs}
use Rattle.list_change.proofs.PairLemmas.{by_left-append, by_right-append}
use Rattle.list_change.proofs.Permute.{by-equation, permuted-filter_map, permuted-flat_map}
use Rattle.policy_meaning.specs.Hops.{hopped, without_port}
use Rattle.policy_meaning.specs.Rules.{chained, summed}
use Rattle.policy_meaning.specs.declared.rule.Rule.{Rule}
use Rattle.policy_meaning.proofs.Normality.{normal-without_port}
use Rattle.rule_ancestry.specs.Holding.{Held}
use Rattle.op_compose.specs.Composition.{crossed, joined, passed}
use Rattle.op_compose.specs.declared.op.Op.{Op}
use Rattle.op_compose.specs.declared.op.Op.TheVariants.{Par, Seq, Over, Hop}
use Rattle.made_rules.specs.declared.made.Made.{Made}
use Rattle.incr_compile.specs.Candidates.{asked, both_overlap, could_meet, is_found, reach, reach_by}
use Rattle.incr_compile.specs.Sound.{AreSound, IsSound}
use Rattle.incr_compile.specs.Ways.{held_way}
use Rattle.incr_compile.proofs.Images.{apart-image, open-port}

open-range : (n : MatchOf) → IsMatch n → IsMatch (without_port n)
open-range n i = record {
  in_port = tt;
  dl_src = i.dl_src;
  dl_dst = i.dl_dst;
  dl_vlan = i.dl_vlan;
  dl_vlan_pcp = i.dl_vlan_pcp;
  dl_type = i.dl_type;
  nw_tos = i.nw_tos;
  nw_proto = i.nw_proto;
  nw_src = i.nw_src;
  nw_dst = i.nw_dst;
  tp_src = i.tp_src;
  tp_dst = i.tp_dst;
}

module _ (size : ℕ) (a b : Rule) (p : IsSound a) (q : IsSound b) where
  unpassed : (t : Tail) → both_overlap (reach_by Seq t a.m) (Some b.m) ≡ false → passed t size a b ≡ None
  unpassed Nothing e = refl
  unpassed (Link r port) e = refl
  unpassed (Pass r) e = ap (option_map (chained size r a b))
      (apart-image r a.m b.m p.normal q.normal p.in_range q.in_range e)

  uncrossed : (t : Tail) → both_overlap (reach_by Hop t a.m) (Some b.m) ≡ false → crossed t size a b ≡ None
  uncrossed Nothing e = refl
  uncrossed (Pass r) e = refl
  uncrossed (Link r port) e =
      ap (option_map (hopped size r a b))
      (apart-image r a.m (without_port b.m) p.normal (normal-without_port b.m q.normal) p.in_range
      (open-range b.m q.in_range) (sym (open-port (image r a.m) b.m) ∙ e))

  -- a pair that couldn't meet makes nothing
  pub unmet : (op : Op) → could_meet op a b ≡ false → joined op size a b ≡ None
  unmet Par e = ap (λ t. option_map (summed a b) (if t then Some (both a.m b.m) else None)) e
  unmet Seq e = unpassed a.tail e
  unmet Over e = refl
  unmet Hop e = uncrossed a.tail e

module _ {B C : Type 0} (g : B → Option C) (could : B → Bool) where
  passed-over : (y : B) (t : Bool) (zs : List B) → (t ≡ false → g y ≡ None)
      → filter_map g (cond t (y ∷ zs) zs) ≡ cons_option (g y) (filter_map g zs)
  passed-over y true zs h = refl
  passed-over y false zs h = ap (λ o. cons_option o (filter_map g zs)) (sym (h refl))

  enough : (ys : List B) → AllByRecursion (λ y. could y ≡ false → g y ≡ None) ys
      → filter_map g (filter could ys) ≡ filter_map g ys
  enough [] a = refl
  enough (y ∷ ys) a = passed-over y (could y) (filter could ys) a.0 ∙ ap (cons_option (g y)) (enough ys a.1)

module _ {B C : Type 0} (g : B → List C) (could : B → Bool) where
  flat-over : (y : B) (t : Bool) (zs : List B) → (t ≡ false → g y ≡ [])
      → flat_map g (cond t (y ∷ zs) zs) ≡ g y ++ flat_map g zs
  flat-over y true zs h = refl
  flat-over y false zs h = ap (λ o. o ++ flat_map g zs) (sym (h refl))

  flat-enough : (ys : List B) → AllByRecursion (λ y. could y ≡ false → g y ≡ []) ys
      → flat_map g (filter could ys) ≡ flat_map g ys
  flat-enough [] a = refl
  flat-enough (y ∷ ys) a = flat-over y (could y) (filter could ys) a.0 ∙ ap (λ z. g y ++ z) (flat-enough ys a.1)

none-made : {C D : Type 0} (f : C → D) (o : Option C) → o ≡ None → option_map f o ≡ None
none-made f o e = ap (option_map f) e

module _ (op : Op) (size : ℕ) where
  each-unmet : (a : Held Rule) (rights : List (Held Rule)) → IsSound a.item → AreSound rights
      → AllByRecursion (λ (b : Held Rule). could_meet op a.item b.item ≡ false
      → (held_way op size).pair a b ≡ None) rights
  each-unmet a [] p s = tt
  each-unmet a (b ∷ rights) p s = (λ e. none-made _ _ (unmet size a.item b.item p s.0 op e), each-unmet a rights p s.1)

  -- what one of the left makes with those that it could meet is what it makes
  pub enough-rights : (a : Held Rule) (rights found : List (Held Rule)) → IsSound a.item → AreSound rights
      → IsPermutation found (filter (λ (b : Held Rule). could_meet op a.item b.item) rights) →
      IsPermutation (by_left (held_way op size) (a ∷ []) found) (by_left (held_way op size) (a ∷ []) rights)
  enough-rights a rights found p s f =
      let g = (held_way op size).pair a in
      let lones = filter_map (held_way op size).lone (a ∷ []) in
      IsPermutation-append_right lones (filter_map g found ++ []) (filter_map g rights ++ [])
      (IsPermutation-append_left [] (filter_map g found) (filter_map g rights)
      (IsPermutation-trans _ _ _ (permuted-filter_map g found _ f)
      (by-equation _ _ (enough g (λ (b : Held Rule). could_meet op a.item b.item) rights
      (each-unmet a rights p s)))))

counted : {X : Type 0} (b : Bool) (x : X) (xs : List X)
    → length (cond b (x ∷ xs) xs) ≡ cond b (1 + length xs) (length xs)
counted true x xs = grind (arith, common_steps)
counted false x xs = refl

-- how many pass a test
pub count-passing : {X : Type 0} (p : X → Bool) (xs : List X) → length (filter p xs) ≡ count_by p xs
count-passing p xs = is_count_by (λ ys. length (filter p ys)) p refl (λ y ys. counted (p y) y (filter p ys)) xs

-- what holds of all rules holds of those that are found among them
pub found-all : {X : Type 0} (P : X → Type 0) (test : X → Bool) (all found : List X)
    → IsPermutation found (filter test all) → All P all → All P found
found-all P test all found p a = All-permutation P (filter test all) found (IsPermutation-sym _ _ p)
    (All-filter test P all a)

-- as many are found as pass the test
pub found-count : {X : Type 0} (test : X → Bool) (all found : List X) → IsPermutation found (filter test all)
    → length found ≡ count_by test all
found-count test all found p = sym (length_permutation _ _ p) ∙ count-passing test all

module _ (op : Op) (size : ℕ) where
  -- one more rule of the left
  pub lefts-more : (rights come : List (Held Rule)) (i : ℕ) (a : Held Rule) (old new : List Made) → i < length come
      → a ≡ get_or come i a → IsPermutation old (by_left (held_way op size) (take i come) rights) →
      IsPermutation new (old ++ by_left (held_way op size) (a ∷ []) rights)
      → IsPermutation new (by_left (held_way op size) (take (i + 1) come) rights)
  lefts-more rights come i a old new lt is far now =
      IsPermutation-trans _ _ _ now
      (IsPermutation-trans _ _ _ (IsPermutation-append_left (by_left (held_way op size) (a ∷ []) rights) _ _ far)
      (IsPermutation-trans _ _ _
      (IsPermutation-sym _ _ (by_left-append (held_way op size) (take i come) (a ∷ []) rights))
      (by-equation _ _ (ap (λ (z : Held Rule). by_left (held_way op size) (take i come ++ z ∷ []) rights) is
      ∙ ap (λ z. by_left (held_way op size) z rights) (sym (take_more come i a lt))))))

  -- one more rule of the right
  pub rights-more : (lefts come : List (Held Rule)) (i : ℕ) (b : Held Rule) (old new : List Made) → i < length come
      → b ≡ get_or come i b → IsPermutation old (by_right (held_way op size) lefts (take i come)) →
      IsPermutation new (old ++ by_right (held_way op size) lefts (b ∷ []))
      → IsPermutation new (by_right (held_way op size) lefts (take (i + 1) come))
  rights-more lefts come i b old new lt is far now =
      IsPermutation-trans _ _ _ now
      (IsPermutation-trans _ _ _ (IsPermutation-append_left (by_right (held_way op size) lefts (b ∷ [])) _ _ far)
      (IsPermutation-trans _ _ _
      (IsPermutation-sym _ _ (by_right-append (held_way op size) lefts (take i come) (b ∷ [])))
      (by-equation _ _ (ap (λ (z : Held Rule). by_right (held_way op size) lefts (take i come ++ z ∷ [])) is
      ∙ ap (λ z. by_right (held_way op size) lefts z) (sym (take_more come i b lt))))))

  pairs-none : (lefts : List (Held Rule)) → pairs (held_way op size).pair lefts [] ≡ []
  pairs-none [] = refl
  pairs-none (a ∷ lefts) = pairs-none lefts

  -- without a rule of the right nothing is made by them
  pub rights-none : (lefts : List (Held Rule)) (fresh : List Made) → fresh ≡ []
      → IsPermutation fresh (by_right (held_way op size) lefts [])
  rights-none lefts fresh e = by-equation _ _ (e ∙ sym (ap (λ z. z ++ []) (pairs-none lefts)))

  each-unmet-left : (b : Held Rule) (lefts : List (Held Rule)) → IsSound b.item → AreSound lefts
      → AllByRecursion (λ (a : Held Rule). could_meet op a.item b.item ≡ false
      → filter_map ((held_way op size).pair a) (b ∷ []) ≡ []) lefts
  each-unmet-left b [] q s = tt
  each-unmet-left b (a ∷ lefts) q s = (
    λ e. ap (λ o. cons_option o []) (none-made _ _ (unmet size a.item b.item s.0 q op e)),
    each-unmet-left b lefts q s.1,
  )

  -- what one of the right makes with those that it could meet is what it makes
  pub enough-lefts : (b : Held Rule) (lefts found : List (Held Rule)) → IsSound b.item → AreSound lefts
      → IsPermutation found (filter (λ (a : Held Rule). could_meet op a.item b.item) lefts) →
      IsPermutation (by_right (held_way op size) found (b ∷ [])) (by_right (held_way op size) lefts (b ∷ []))
  enough-lefts b lefts found q s f =
      let g = λ (a : Held Rule). filter_map ((held_way op size).pair a) (b ∷ []) in
      let others = filter_map (held_way op size).other (b ∷ []) in
      IsPermutation-append_left others (flat_map g found) (flat_map g lefts)
      (IsPermutation-trans _ _ _ (permuted-flat_map g found _ f)
      (by-equation _ _ (flat-enough g (λ (a : Held Rule). could_meet op a.item b.item) lefts
      (each-unmet-left b lefts q s))))

turned-overlap : (m n : Option MatchOf) → both_overlap m n ≡ both_overlap n m
turned-overlap None None = refl
turned-overlap None (Some n) = refl
turned-overlap (Some m) None = refl
turned-overlap (Some m) (Some n) = overlaps-comm m n

same-tests : {X : Type 0} (p q : X → Bool) → ((x : X) → p x ≡ q x) → (xs : List X) → filter p xs ≡ filter q xs
same-tests p q e [] = refl
same-tests p q e (x ∷ xs) = ap (λ b. cond b (x ∷ filter p xs) (filter p xs)) (e x)
    ∙ ap (λ z. cond (q x) (x ∷ z) z) (same-tests p q e xs)

-- what a query by what a left rule reaches finds is what it could meet
pub reach-found : (op : Op) (m : Option MatchOf) (inside : Rule) (a : Held Rule) (rights found deref : List (Held Rule))
    → m ≡ reach op inside → inside ≡ a.item → IsPermutation found (filter (is_found m (asked op)) rights)
    → deref ≡ found →
    IsPermutation deref (filter (λ (b : Held Rule). could_meet op a.item b.item) rights)
reach-found op m inside a rights found deref e f p d =
    subst (λ z. IsPermutation z (filter (λ (b : Held Rule). could_meet op a.item b.item) rights)) (sym d)
    (subst (λ (r : Rule). IsPermutation found (filter (λ (b : Held Rule). could_meet op r b.item) rights)) f
    (subst (λ (n : Option MatchOf). IsPermutation found (filter (is_found n (asked op)) rights)) e p))

-- and one by what a right rule asks
pub asked-found : (op : Op) (m : Option MatchOf) (inside : Rule) (b : Held Rule) (lefts found deref : List (Held Rule))
    → m ≡ asked op inside → inside ≡ b.item → IsPermutation found (filter (is_found m (reach op)) lefts) → deref ≡ found
    →
    IsPermutation deref (filter (λ (a : Held Rule). could_meet op a.item b.item) lefts)
asked-found op m inside b lefts found deref e f p d =
    subst (λ z. IsPermutation z (filter (λ (a : Held Rule). could_meet op a.item b.item) lefts)) (sym d)
    (IsPermutation-trans _ _ _
    (subst (λ (r : Rule). IsPermutation found (filter (is_found (asked op r) (reach op)) lefts)) f
    (subst (λ (n : Option MatchOf). IsPermutation found (filter (is_found n (reach op)) lefts)) e p))
    (by-equation _ _ (same-tests (is_found (asked op b.item) (reach op))
    (λ (a : Held Rule). could_meet op a.item b.item) (λ a. turned-overlap (asked op b.item) (reach op a.item))
    lefts)))

-- the cost of one more
pub cost-more : (f : Held Rule → ℕ) (come : List (Held Rule)) (i : ℕ) (a : Held Rule) (old far new : ℕ)
    → i < length come → a ≡ get_or come i a → far ≤ old + sum_by f (take i come) → new ≤ far + f a
    → new ≤ old + sum_by f (take (i + 1) come)
cost-more f come i a old far new lt is t s = let m = sum_by_more f come i a lt in let e = ap f is in omega arith

pub cost-within : (f : Held Rule → ℕ) (come : List (Held Rule)) (i : ℕ) (a : Held Rule) (old far new : ℕ)
    → i < length come → a ≡ get_or come i a → far ≤ old + sum_by f (take i come) → new ≤ far + f a
    → new ≤ old + sum_by f come
cost-within f come i a old far new lt is t s = let m = sum_by_more_le f come i a lt in let e = ap f is in omega arith
