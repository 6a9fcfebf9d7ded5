-- What happens to sums in their slots, and so to the sums with the changes.
use Rattle.std.proofs.Common.{◌≡◌, Bool, true, false, cond, List, [], ◌∷◌, ◌||◌, refl, sym, ap, subst, ◌∙◌, true≢false}
use Rattle.std.specs.Prelude.{IfSome, IsSome, Option, Some, None, is_some, option_and_then, if◌then◌else◌}
use Rattle.std.specs.BTreeMap.{is_at}
use Rattle.std.specs.Cmp.{both_ways, IsTotalOrder, nat_cmp_total, on_total, then_total}
use Rattle.std.specs.List.{list_any}
use Rattle.std.specs.List.Sorted.{IsStrictlySortedBy}
use Rattle.std.specs.Map.{keys_of, lookup, set_value}
use Rattle.std.specs.Ordering.{is_eq}
use Rattle.std.proofs.lemmas.Cmp.{eq_by_cmp_equiv, tied_itself}
use Rattle.std.proofs.lemmas.Map.{keys-set_value, lookup-set_value}
use Rattle.std.proofs.lemmas.Map.Lookups.{CmpEqualImpliesEq}
use Rattle.std.proofs.lemmas.Map.Steps.{set_value_same}
use Rattle.cv_io.specs.Leaves.{leaf_cmp, same_leaf}
use Rattle.cv_io.specs.declared.leaf.Leaf.{Leaf}
use Rattle.switch_meaning.proofs.Alike.{leaf_decides}
use Rattle.stats_map.specs.InsideSums.{Allows, AllowsEach, HappenedTo, HaveMore, Sums, changed_by, no_sum, sum_at}
use Rattle.stats_map.specs.Slots.{HasKey, overlaid, slot_or, value_at}
use Rattle.stats_map.specs.Pending.{HappenedAt, HaveSlots, LeafSlots, slot_sums}
use Rattle.stats_map.specs.declared.sum.Event.{Event}
use Rattle.stats_map.specs.declared.sum.Sum.{Sum}
use Rattle.stats_map.proofs.Adding.{leaf-exact, more-inserted}
use Rattle.stats_map.proofs.Overlays.{Rise, at-laid, same-key}

pub leaf_total : IsTotalOrder leaf_cmp
leaf_total = then_total (on_total (λ (a : Leaf). a.member) nat_cmp_total)
    (on_total (λ (a : Leaf). a.kind) nat_cmp_total)

pub leaf_exact : CmpEqualImpliesEq leaf_cmp
leaf_exact a b e = leaf-exact a b (ap is_eq e)

pub at-same : (a b : Leaf) → is_at (leaf_cmp a) b ≡ same_leaf a b
at-same a b =
    both_ways (is_at (leaf_cmp a) b) (same_leaf a b) (λ t. (leaf_decides a b).1 (leaf-exact a b t))
    (λ t. ap (λ (z : Leaf). is_at (leaf_cmp a) z) (sym ((leaf_decides a b).0 t)) ∙ ap is_eq (tied_itself leaf_total a))

rise-none : IsStrictlySortedBy leaf_cmp []
unfolding IsStrictlySortedBy
rise-none = tt

-- a key is there where it is among the keys
pub some-keys : {K V : Type 0} (test : K → Bool) (es : List (K × V))
    → is_some (lookup test es) ≡ list_any test (keys_of es)
some-keys test [] = refl
some-keys test (e ∷ es) = by (test e.0) (some-keys test es)
  where
    by : (b : Bool) → is_some (lookup test es) ≡ list_any test (keys_of es)
        → is_some (cond b (Some e.1) (lookup test es)) ≡ (b || list_any test (keys_of es))
    by true rest = refl
    by false rest = rest

pub same-there : {K V : Type 0} (test : K → Bool) (es fs : List (K × V)) → keys_of fs ≡ keys_of es
    → is_some (lookup test fs) ≡ is_some (lookup test es)
same-there test es fs keys = some-keys test fs ∙ (ap (list_any test) keys ∙ sym (some-keys test es))

abbrev Goes : Event → List Leaf → Leaf → Option Sum → Option Sum
Goes event leaves q o = if list_any (same_leaf q) leaves then option_and_then (changed_by event) o else o

pub at-slots : (slots : LeafSlots) (q : Leaf) → sum_at q (slot_sums slots) ≡ slot_or (value_at leaf_cmp q slots) None
at-slots slots q = at-laid leaf_total slots [] rise-none q

-- the sum of a leaf whose slot is this
pub slot-is : (slots : LeafSlots) (q : Leaf) (slot : Option Sum) → value_at leaf_cmp q slots ≡ Some slot
    → sum_at q (slot_sums slots) ≡ slot
slot-is slots q slot e = at-slots slots q ∙ ap (λ (z : Option (Option Sum)). slot_or z None) e

pub no-slot : (slots : LeafSlots) (q : Leaf) → value_at leaf_cmp q slots ≡ None → sum_at q (slot_sums slots) ≡ None
no-slot slots q e = at-slots slots q ∙ ap (λ (z : Option (Option Sum)). slot_or z None) e

pub slots-kept : (leaves : List Leaf) (old new : LeafSlots) → keys_of new ≡ keys_of old → HaveSlots leaves old
    → HaveSlots leaves new
slots-kept leaves old new keys have q t = same-there (is_at (leaf_cmp q)) old new keys ∙ have q t

module _ (base : Sums) (r : Rise leaf_total base) where
  -- the sum of a leaf that has a slot is in it
  pub in-slot : (slots : LeafSlots) (q : Leaf) → HasKey leaf_cmp q slots
      → sum_at q (overlaid leaf_cmp slots base) ≡ sum_at q (slot_sums slots)
  in-slot slots q t = at-laid leaf_total slots base r q ∙ (by (value_at leaf_cmp q slots) t ∙ sym (at-slots slots q))
    where
      by : (o : Option (Option Sum)) → IsSome o → slot_or o (sum_at q base) ≡ slot_or o None
      by None u = absurd (true≢false (sym u))
      by (Some slot) u = refl

  -- else it is as it was
  pub not-in-slot : (slots : LeafSlots) (q : Leaf) → value_at leaf_cmp q slots ≡ None
      → sum_at q (overlaid leaf_cmp slots base) ≡ sum_at q base
  not-in-slot slots q e = at-laid leaf_total slots base r q
      ∙ ap (λ (z : Option (Option Sum)). slot_or z (sum_at q base)) e

  pub allowed-slots : (event : Event) (leaves : List Leaf) (slots : LeafSlots) → HaveSlots leaves slots
      → AllowsEach event leaves (overlaid leaf_cmp slots base) → AllowsEach event leaves (slot_sums slots)
  allowed-slots event leaves slots have a q t =
      subst (λ (o : Option Sum). IfSome o (Allows event)) (in-slot slots q (have q t)) (a q t)

  module _ (old new : LeafSlots) (keys : keys_of new ≡ keys_of old) where
    there : (q : Leaf) → is_some (value_at leaf_cmp q new) ≡ is_some (value_at leaf_cmp q old)
    there q = same-there (is_at (leaf_cmp q)) old new keys

    no-more : (q : Leaf) → value_at leaf_cmp q old ≡ None → value_at leaf_cmp q new ≡ None
    no-more q e = by (value_at leaf_cmp q new) (there q ∙ ap is_some e)
      where
        by : (o : Option (Option Sum)) → is_some o ≡ false → o ≡ None
        by None u = refl
        by (Some slot) u = absurd (true≢false u)

    -- a leaf that has no slot has the sum that it had
    same-out : (q : Leaf) → value_at leaf_cmp q old ≡ None
        → sum_at q (overlaid leaf_cmp new base) ≡ sum_at q (overlaid leaf_cmp old base)
    same-out q e = not-in-slot new q (no-more q e) ∙ sym (not-in-slot old q e)

    in-new : (q : Leaf) (slot : Option Sum) → value_at leaf_cmp q old ≡ Some slot
        → sum_at q (overlaid leaf_cmp new base) ≡ sum_at q (slot_sums new)
    in-new q slot e = in-slot new q (there q ∙ ap is_some e)

    in-old : (q : Leaf) (slot : Option Sum) → value_at leaf_cmp q old ≡ Some slot
        → sum_at q (overlaid leaf_cmp old base) ≡ sum_at q (slot_sums old)
    in-old q slot e = in-slot old q (ap is_some e)

    -- what happened in slots happened
    pub happened-laid : (event : Event) (leaves : List Leaf) → HaveSlots leaves old
        → HappenedTo event leaves (slot_sums old) (slot_sums new)
        → HappenedTo event leaves (overlaid leaf_cmp old base) (overlaid leaf_cmp new base)
    happened-laid event leaves have h q = by (value_at leaf_cmp q old) refl
      where
        unnamed : (b : Bool) → list_any (same_leaf q) leaves ≡ b → value_at leaf_cmp q old ≡ None → b ≡ false
        unnamed true t e = absurd (true≢false (sym (have q t) ∙ ap is_some e))
        unnamed false t e = refl

        by : (o : Option (Option Sum)) → value_at leaf_cmp q old ≡ o
            → sum_at q (overlaid leaf_cmp new base) ≡ Goes event leaves q (sum_at q (overlaid leaf_cmp old base))
        by (Some slot) e = in-new q slot e ∙ (h q ∙ ap (Goes event leaves q) (sym (in-old q slot e)))
        by None e =
            same-out q e
            ∙ sym
            (ap (λ (b : Bool). if b then option_and_then (changed_by event) (sum_at q (overlaid leaf_cmp old base))
            else sum_at q (overlaid leaf_cmp old base)) (unnamed (list_any (same_leaf q) leaves) refl e))

    pub more-laid : HaveMore (slot_sums old) (slot_sums new)
        → HaveMore (overlaid leaf_cmp old base) (overlaid leaf_cmp new base)
    more-laid m = record {
      kept = λ q s e. kept q s e (value_at leaf_cmp q old) refl;
      fresh = λ q s e n. fresh q s e n (value_at leaf_cmp q old) refl;
    }
      where
        kept : (q : Leaf) (s : Sum) → sum_at q (overlaid leaf_cmp old base) ≡ Some s → (o : Option (Option Sum))
            → value_at leaf_cmp q old ≡ o → sum_at q (overlaid leaf_cmp new base) ≡ Some s
        kept q s e (Some slot) f = in-new q slot f ∙ m.kept q s (sym (in-old q slot f) ∙ e)
        kept q s e None f = same-out q f ∙ e

        fresh : (q : Leaf) (s : Sum) → sum_at q (overlaid leaf_cmp new base) ≡ Some s
            → sum_at q (overlaid leaf_cmp old base) ≡ None → (o : Option (Option Sum)) → value_at leaf_cmp q old ≡ o
            → s ≡ no_sum
        fresh q s e n (Some slot) f = m.fresh q s (sym (in-new q slot f) ∙ e) (sym (in-old q slot f) ∙ n)
        fresh q s e n None f = absurd (true≢false (ap is_some (sym e ∙ (same-out q f ∙ n))))

    -- leaves whose sums are in slots have sums
    pub there-laid : (leaves : List Leaf) → HaveSlots leaves old
        → ((q : Leaf) → list_any (same_leaf q) leaves ≡ true → IsSome (sum_at q (slot_sums new)))
        → (q : Leaf) → list_any (same_leaf q) leaves ≡ true → IsSome (sum_at q (overlaid leaf_cmp new base))
    there-laid leaves have some q t = ap is_some (in-slot new q (there q ∙ have q t)) ∙ some q t

-- a slot is written

module _ (leaf : Leaf) (slot w : Option Sum) (old new : LeafSlots) (found : value_at leaf_cmp leaf old ≡ Some slot)
    (is : new ≡ set_value (is_at (leaf_cmp leaf)) old w) where
  pub written-keys : keys_of new ≡ keys_of old
  written-keys = ap keys_of is ∙ keys-set_value (is_at (leaf_cmp leaf)) old w

  written-at : (q : Leaf) → value_at leaf_cmp q new ≡ cond (is_at (leaf_cmp leaf) q) (Some w) (value_at leaf_cmp q old)
  written-at q =
      ap (value_at leaf_cmp q) is ∙ lookup-set_value (eq_by_cmp_equiv leaf_total) (is_at (leaf_cmp leaf))
      (λ x y e. same-key leaf_total leaf x y e) q w old (ap is_some found)

  pub written-sum : (q : Leaf) → sum_at q (slot_sums new) ≡ cond (is_at (leaf_cmp leaf) q) w (sum_at q (slot_sums old))
  written-sum q =
      at-slots new q
      ∙ (ap (λ (z : Option (Option Sum)). slot_or z None) (written-at q)
      ∙ (by (is_at (leaf_cmp leaf) q) ∙ ap (cond (is_at (leaf_cmp leaf) q) w) (sym (at-slots old q))))
    where
      by : (b : Bool) → slot_or (cond b (Some w) (value_at leaf_cmp q old)) None
          ≡ cond b w (slot_or (value_at leaf_cmp q old) None)
      by true = refl
      by false = refl

  pub changed-at : (event : Event) → w ≡ option_and_then (changed_by event) slot
      → HappenedAt event leaf (slot_sums old) (slot_sums new)
  changed-at event e q =
      written-sum q
      ∙ (ap (λ (o : Option Sum). cond (is_at (leaf_cmp leaf) q) o (sum_at q (slot_sums old)))
      (e ∙ ap (option_and_then (changed_by event)) (sym (slot-is old leaf slot found)))
      ∙ ap (λ (b : Bool). cond b (option_and_then (changed_by event) (sum_at leaf (slot_sums old)))
      (sum_at q (slot_sums old))) (at-same leaf q))

  pub opened-at : (v : Sum) → slot ≡ None → w ≡ Some v → v ≡ no_sum → HaveMore (slot_sums old) (slot_sums new)
  opened-at v empty e z =
      more-inserted leaf v (slot_sums old) (slot_sums new) z (slot-is old leaf slot found ∙ empty)
      (λ q. written-sum q ∙ ap (λ (o : Option Sum). cond (is_at (leaf_cmp leaf) q) o (sum_at q (slot_sums old))) e)

  pub written-there : (v : Sum) → w ≡ Some v → IsSome (sum_at leaf (slot_sums new))
  written-there v e =
      ap is_some (written-sum leaf
      ∙ (ap (λ (b : Bool). cond b w (sum_at leaf (slot_sums old))) (ap is_eq (tied_itself leaf_total leaf)) ∙ e))

  -- what is written as it was changes nothing
  pub written-same : w ≡ slot → new ≡ old
  written-same e = is ∙ set_value_same (is_at (leaf_cmp leaf)) old w (found ∙ ap Some (sym e))

-- nothing happens to a leaf that has no sum
pub nothing-at : (event : Event) (leaf : Leaf) (sums : Sums) → sum_at leaf sums ≡ None → HappenedAt event leaf sums sums
nothing-at event leaf sums n q = by (same_leaf leaf q) refl
  where
    by : (b : Bool) → same_leaf leaf q ≡ b
        → sum_at q sums ≡ (if same_leaf leaf q then option_and_then (changed_by event) (sum_at leaf sums)
        else sum_at q sums)
    by true t =
        ap (λ (z : Leaf). sum_at z sums) (sym ((leaf_decides leaf q).0 t))
        ∙ (n ∙ sym
        (ap (λ (b : Bool). if b then option_and_then (changed_by event) (sum_at leaf sums) else sum_at q sums) t
        ∙ ap (option_and_then (changed_by event)) n))
    by false t =
        sym (ap (λ (b : Bool). if b then option_and_then (changed_by event) (sum_at leaf sums) else sum_at q sums) t)
