-- Cookies end and begin in slots.
use Rattle.std.proofs.Common.{◌≡◌, ◌+◌, ◌<◌, ◌≤◌, ◌^◌, Bool, true, false, cond, ◌||◌, List, [], ◌∷◌, length, refl, sym}
use Rattle.std.proofs.Common.{ap, subst, ◌∙◌, arith, true≢false}
use Rattle.std.specs.Prelude.{IfSome, IsSome, Option, Some, None, is_some, unwrap_or}
use Rattle.std.specs.BTreeMap.{insert_entry, is_at}
use Rattle.std.specs.List.{list_any}
use Rattle.std.specs.Map.{keys_of, lookup, remove_entry, set_value, values_of}
use Rattle.std.specs.Ordering.{match_ordering, nat_cmp}
use Rattle.std.specs.declared.cmp.Ordering.{Ordering}
use Rattle.std.specs.declared.cmp.Ordering.TheVariants.{Less, Equal, Greater}
use Rattle.std.proofs.lemmas.Cmp.{eq_by_cmp_equiv}
use Rattle.std.proofs.lemmas.List.Sums.{count_by-le-length}
use Rattle.std.proofs.lemmas.Map.{lookup-set_value}
use Rattle.std.proofs.lemmas.Map.Entries.{length-values_of}
use Rattle.std.proofs.lemmas.Map.Lookups.{CmpEqualImpliesEq, exact_pairs, exact_unsigned}
use Rattle.cv_io.specs.Leaves.{leaf_cmp, same_leaf}
use Rattle.cv_io.specs.declared.leaf.Leaf.{Leaf}
use Rattle.switch_meaning.specs.Counts.{Cookie, names}
use Rattle.switch_meaning.proofs.Alike.{leaf_decides}
use Rattle.stats_map.specs.Counting.{Cookies, Place, cookie_at, forgot, installed, place_cmp}
use Rattle.stats_map.specs.InsideSums.{Allows, AllowsEach, AreSums, HappenedTo, HaveMore, Sums, sum_at}
use Rattle.stats_map.specs.Slots.{AreDrawn, HasKey, IsSameBut, overlaid, slot_or, value_at, with_slot}
use Rattle.stats_map.specs.Pending.{HaveSlots, IsSummed, LeafSlots, LeavesHaveSlots, PlaceSlots, ended_if, ended_now}
use Rattle.stats_map.specs.Pending.{laid, slot_sums}
use Rattle.stats_map.specs.Told.{HeldOf, told}
use Rattle.stats_map.specs.declared.sum.Event.TheVariants.{Begun, Ended, Forgotten}
use Rattle.stats_map.specs.declared.sum.Sum.{Sum}
use Rattle.stats_map.specs.declared.sum.Tally.{Tally}
use Rattle.stats_map.proofs.Acts.{end-allowed, end-seen, end-sums}
use Rattle.stats_map.proofs.Beginning.{begin-seen, begin-sums, more-sums}
use Rattle.stats_map.proofs.Drawing.{drawn-key, same-value}
use Rattle.stats_map.proofs.Reporting.{forgot-seen, forgot-sums}
use Rattle.stats_map.proofs.Rows.{at, place_total}
use Rattle.stats_map.proofs.SlotSums.{allowed-slots, happened-laid, leaf_exact, leaf_total, more-laid, slots-kept}
use Rattle.stats_map.proofs.SlotSums.{there-laid}
use Rattle.stats_map.proofs.Overlays.{Rise, at-laid, drawn-same, laid-slot, rise-laid, same-key}

pub place_exact : CmpEqualImpliesEq place_cmp
place_exact = exact_pairs nat_cmp nat_cmp exact_unsigned exact_unsigned

-- a place that is written in its slot
pub slot-written : (place : Place) (slot w : Option Cookie) (places places' : PlaceSlots)
    → value_at place_cmp place places ≡ Some slot → places' ≡ set_value (at place) places w
    → (q : Place) → value_at place_cmp q places' ≡ cond (at place q) (Some w) (value_at place_cmp q places)
slot-written place slot w places places' found is q =
    ap (value_at place_cmp q) is ∙ lookup-set_value (eq_by_cmp_equiv place_total) (at place)
    (λ x y e. same-key place_total place x y e) q w places (ap is_some found)

some-inside : (c d : Cookie) → Some (Some c) ≡ Some (Some d) → c ≡ d
some-inside c d e = ap (λ (o : Option (Option Cookie)). unwrap_or (unwrap_or o None) c) e

none-inside : (c : Cookie) → Some None ≡ Some (Some c) → ⊥
none-inside c e = absurd (true≢false (sym (ap (λ (o : Option (Option Cookie)). is_some (unwrap_or o None)) e)))

module _ (h : HeldOf) (rp : Rise place_total h.live) (rl : Rise leaf_total h.sums) (places : PlaceSlots)
    (leaves : LeafSlots)
    (summed : IsSummed (laid places leaves h)) (have : LeavesHaveSlots places leaves) where
  abbrev now : HeldOf
  now = laid places leaves h

  -- what stands at a place that has a slot
  pub stands : (place : Place) (slot : Option Cookie) → value_at place_cmp place places ≡ Some slot
      → cookie_at place (told now) ≡ slot
  stands place slot e = at-laid place_total places h.live rp place
      ∙ ap (λ (z : Option (Option Cookie)). slot_or z (value_at place_cmp place h.live)) e

  -- one whose slot is empty has ended already
  pub none-ends : (place : Place) → value_at place_cmp place places ≡ Some None → told now ≡ ended_now place (told now)
  none-ends place e = sym (ap (λ (o : Option Cookie). ended_if o place (told now)) (stands place None e))

  module _ (place : Place) (c : Cookie) (n : Tally) (slice : List Leaf)
      (found : value_at place_cmp place places ≡ Some (Some c))
      (p : n.packets ≡ c.numbers.packets) (b : n.bytes ≡ c.numbers.bytes) (l : slice ≡ c.ancestry) where
    named : HaveSlots slice leaves
    named = subst (λ (xs : List Leaf). HaveSlots xs leaves) (sym l) (have place c found)

    pub ended-allowed : AllowsEach (Ended n) slice (slot_sums leaves)
    ended-allowed = allowed-slots h.sums rl (Ended n) slice leaves named
        (end-allowed place now.live now.sums c n slice (stands place (Some c) found) p b l summed)

    module _ (places' : PlaceSlots) (leaves' : LeafSlots) (is : places' ≡ set_value (at place) places None)
        (happened : HappenedTo (Ended n) slice (slot_sums leaves) (slot_sums leaves'))
        (keys : keys_of leaves' ≡ keys_of leaves) where
      removed : overlaid place_cmp places' h.live ≡ remove_entry (at place) now.live
      removed = laid-slot place_total place_exact h.live rp place None places places'
          (slot-written place (Some c) None places places' found is)

      over : HappenedTo (Ended n) slice now.sums (overlaid leaf_cmp leaves' h.sums)
      over = happened-laid h.sums rl leaves leaves' keys (Ended n) slice named happened

      pub ended-summed : IsSummed (laid places' leaves' h)
      ended-summed = end-sums place now.live now.sums c n slice (stands place (Some c) found) p b l summed
          (overlaid place_cmp places' h.live) (overlaid leaf_cmp leaves' h.sums) removed over

      pub ended-told : told (laid places' leaves' h) ≡ ended_now place (told now)
      ended-told =
          end-seen place now.live now.sums c n slice (stands place (Some c) found) p b l summed
          (overlaid place_cmp places' h.live) (overlaid leaf_cmp leaves' h.sums) removed over
          ∙ sym (ap (λ (o : Option Cookie). ended_if o place (told now)) (stands place (Some c) found))

      pub ended-have : LeavesHaveSlots places' leaves'
      ended-have q d e = by (at place q) refl
        where
          at-q : value_at place_cmp q places' ≡ cond (at place q) (Some None) (value_at place_cmp q places)
          at-q = slot-written place (Some c) None places places' found is q

          by : (b : Bool) → at place q ≡ b → HaveSlots d.ancestry leaves'
          by true t =
              absurd (none-inside d (sym (at-q ∙ ap (λ b. cond b (Some None) (value_at place_cmp q places)) t) ∙ e))
          by false t =
              slots-kept d.ancestry leaves leaves' keys
              (have q d (sym (at-q ∙ ap (λ b. cond b (Some None) (value_at place_cmp q places)) t) ∙ e))

  -- a leaf is forgotten
  module _ (leaf : Leaf) (leaves1 leaves2 : LeafSlots) (drawn : AreDrawn leaf_cmp h.sums leaves leaves1)
      (slots : HaveSlots (leaf ∷ []) leaves1) (keys : keys_of leaves2 ≡ keys_of leaves1)
      (happened : HappenedTo Forgotten (leaf ∷ []) (slot_sums leaves1) (slot_sums leaves2)) where
    forgot-over : HappenedTo Forgotten (leaf ∷ []) now.sums (overlaid leaf_cmp leaves2 h.sums)
    forgot-over =
        subst (λ (s : Sums). HappenedTo Forgotten (leaf ∷ []) s (overlaid leaf_cmp leaves2 h.sums))
        (drawn-same leaf_total leaf_exact h.sums rl leaves leaves1 drawn)
        (happened-laid h.sums rl leaves1 leaves2 keys Forgotten (leaf ∷ []) slots happened)

    pub forgotten-told : told (laid places leaves2 h) ≡ forgot leaf (told now)
    forgotten-told = forgot-seen now.live now.sums leaf summed (overlaid leaf_cmp leaves2 h.sums) forgot-over

    pub forgotten-summed : IsSummed (laid places leaves2 h)
    forgotten-summed = forgot-sums now.live now.sums leaf summed (overlaid leaf_cmp leaves2 h.sums) forgot-over

-- slots that are drawn or that stay are there

pub drawn-has : (base : Sums) (leaves leaves' : LeafSlots) → AreDrawn leaf_cmp base leaves leaves' → (q : Leaf)
    → HasKey leaf_cmp q leaves → HasKey leaf_cmp q leaves'
drawn-has base leaves leaves' d q t = drawn-key leaf_total base leaves leaves' d q t

pub drawn-have : (base : Sums) (xs : List Leaf) (leaves leaves' : LeafSlots) → AreDrawn leaf_cmp base leaves leaves'
    → HaveSlots xs leaves → HaveSlots xs leaves'
drawn-have base xs leaves leaves' d have q t = drawn-has base leaves leaves' d q (have q t)

pub drawn-all-have : (base : Sums) (places : PlaceSlots) (leaves leaves' : LeafSlots)
    → AreDrawn leaf_cmp base leaves leaves' → LeavesHaveSlots places leaves → LeavesHaveSlots places leaves'
drawn-all-have base places leaves leaves' d have q c e = drawn-have base c.ancestry leaves leaves' d (have q c e)

pub slots-all-kept : (places : PlaceSlots) (leaves leaves' : LeafSlots) → keys_of leaves' ≡ keys_of leaves
    → LeavesHaveSlots places leaves → LeavesHaveSlots places leaves'
slots-all-kept places leaves leaves' keys have q c e = slots-kept c.ancestry leaves leaves' keys (have q c e)

pub one-slot-has : (leaf : Leaf) (leaves : LeafSlots) → HasKey leaf_cmp leaf leaves → HaveSlots (leaf ∷ []) leaves
one-slot-has leaf leaves t q u = by (same_leaf q leaf) refl u
  where
    by : (b : Bool) → same_leaf q leaf ≡ b → (b || false) ≡ true → HasKey leaf_cmp q leaves
    by true f v = subst (λ (z : Leaf). HasKey leaf_cmp z leaves) (sym ((leaf_decides q leaf).0 f)) t
    by false f v = absurd (true≢false (sym v))

-- a place is drawn, whose leaves are
module _ (base : Cookies) (r : Rise place_total base) (place : Place) (places places' : PlaceSlots) (leaves : LeafSlots)
    (drawn : AreDrawn place_cmp base places places') (but : IsSameBut place_cmp place places places')
    (have : LeavesHaveSlots places leaves) (named : (c : Cookie)
    → slot_or (value_at place_cmp place places) (value_at place_cmp place base) ≡ Some c
    → HaveSlots c.ancestry leaves) where
  pub place-have : LeavesHaveSlots places' leaves
  place-have q d e = by (at place q) refl
    where
      by : (b : Bool) → at place q ≡ b → HaveSlots d.ancestry leaves
      by false t = have q d (sym (but q t) ∙ e)
      by true t =
          let key : value_at place_cmp place places' ≡ Some (Some d) = same-value place_total place q places' t ∙ e in
          let laid-same : value_at place_cmp place (overlaid place_cmp places' base)
          ≡ value_at place_cmp place (overlaid place_cmp places base) =
          ap (value_at place_cmp place) (drawn-same place_total place_exact base r places places' drawn) in
          let new : value_at place_cmp place (overlaid place_cmp places' base) ≡ Some d =
          at-laid place_total places' base r place
          ∙ ap (λ (z : Option (Option Cookie)). slot_or z (value_at place_cmp place base)) key in
          named d (sym (at-laid place_total places base r place) ∙ (sym laid-same ∙ new))

pub laid-drawn : (h : HeldOf) → Rise place_total h.live → Rise leaf_total h.sums
    → (places places' : PlaceSlots) (leaves leaves' : LeafSlots) → AreDrawn place_cmp h.live places places'
    → AreDrawn leaf_cmp h.sums leaves leaves'
    → laid places' leaves' h ≡ laid places leaves h
laid-drawn h rp rl places places' leaves leaves' dp dl =
    λ i. record {
      live = drawn-same place_total place_exact h.live rp places places' dp i;
      sums = drawn-same leaf_total leaf_exact h.sums rl leaves leaves' dl i;
    }

-- entries and slots are no fewer than the entries with the changes

module _ {K V : Type 0} (cmp : K → K → Ordering) where
  one-more : (es : List (K × V)) (k : K) (v : V) → length (insert_entry cmp es k v) ≤ length es + 1
  one-more [] k v = omega arith
  one-more (e ∷ es) k v = by (cmp k e.0) (one-more es k v)
    where
      by : (r : Ordering) → length (insert_entry cmp es k v) ≤ length es + 1
          → length (match_ordering r ((k, v) ∷ e ∷ es) ((e.0, v) ∷ es) (e ∷ insert_entry cmp es k v)) ≤ length (e ∷ es)
          + 1
      by Less l = omega arith
      by Equal l = omega arith
      by Greater l = omega (arith, l)

  no-more : (es : List (K × V)) (k : K) → length (remove_entry (is_at (cmp k)) es) ≤ length es
  no-more [] k = omega arith
  no-more (e ∷ es) k = by (is_at (cmp k) e.0) (no-more es k)
    where
      by : (b : Bool) → length (remove_entry (is_at (cmp k)) es) ≤ length es
          → length (cond b es (e ∷ remove_entry (is_at (cmp k)) es)) ≤ length (e ∷ es)
      by true l = omega arith
      by false l = omega (arith, l)

  one-slot : (es : List (K × V)) (k : K) (slot : Option V) → length (with_slot cmp k slot es) ≤ length es + 1
  one-slot es k None = let l = no-more es k in omega (arith, l)
  one-slot es k (Some v) = one-more es k v

  pub length-laid : (slots : List (K × Option V)) (es : List (K × V))
      → length (overlaid cmp slots es) ≤ length es + length slots
  length-laid [] es = omega arith
  length-laid (x ∷ xs) es =
      let l = length-laid xs es in
      let m = one-slot (overlaid cmp xs es) x.0 x.1 in
      omega (arith, l, m)

begun-bound : (leaves : List Leaf) (live : List Cookie) (sums : Sums) → length live + 1 < 2 ^ 64 → AreSums live sums
    → AllowsEach Begun leaves sums
begun-bound leaves live sums small a leaf t = by (sum_at leaf sums) refl
  where
    by : (o : Option Sum) → sum_at leaf sums ≡ o → IfSome o (Allows Begun)
    by None e = tt
    by (Some s) e =
        let i = (a.each leaf s e).live_count in
        let l = count_by-le-length (names leaf) live in
        omega (arith, i, l, small)

-- a cookie is written to a place that has none
module _ (h : HeldOf) (rp : Rise place_total h.live) (rl : Rise leaf_total h.sums) (places : PlaceSlots)
    (leaves : LeafSlots)
    (summed : IsSummed (laid places leaves h)) (have : LeavesHaveSlots places leaves)
    (place : Place) (ancestry slice : List Leaf) (l : slice ≡ ancestry)
    (none : slot_or (value_at place_cmp place places) (value_at place_cmp place h.live) ≡ None)
    (leaves1 : LeafSlots) (drawn : AreDrawn leaf_cmp h.sums leaves leaves1) (slots : HaveSlots slice leaves1)
    (leaves2 : LeafSlots) (more : HaveMore (slot_sums leaves1) (slot_sums leaves2))
    (keys2 : keys_of leaves2 ≡ keys_of leaves1) where
  abbrev old : HeldOf
  old = laid places leaves h

  abbrev sums2 : Sums
  sums2 = overlaid leaf_cmp leaves2 h.sums

  more-over : HaveMore old.sums sums2
  more-over =
      subst (λ (s : Sums). HaveMore s sums2) (drawn-same leaf_total leaf_exact h.sums rl leaves leaves1 drawn)
      (more-laid h.sums rl leaves1 leaves2 keys2 more)

  slots2 : HaveSlots slice leaves2
  slots2 = slots-kept slice leaves1 leaves2 keys2 slots

  pub begun-allowed : length h.live < 2 ^ 63 → length places < 2 ^ 63 → AllowsEach Begun slice (slot_sums leaves2)
  begun-allowed a b =
      let few : length (values_of old.live) + 1 < 2 ^ 64 =
      (let m = length-laid place_cmp places h.live in let v = length-values_of old.live in
      omega (arith, a, b, m, v)) in
      allowed-slots h.sums rl Begun slice leaves2 slots2
      (begun-bound slice (values_of old.live) sums2 few
      (more-sums old.live old.sums sums2 more-over old.live refl summed))

  module _ (there : (q : Leaf) → list_any (same_leaf q) slice ≡ true → IsSome (sum_at q (slot_sums leaves2)))
      (w : Cookie) (w-is : w ≡ record { ancestry = ancestry; numbers = record { packets = 0; bytes = 0 } })
      (places' : PlaceSlots) (written : (q : Place)
      → value_at place_cmp q places' ≡ cond (at place q) (Some (Some w)) (value_at place_cmp q places))
      (leaves3 : LeafSlots) (keys3 : keys_of leaves3 ≡ keys_of leaves2)
      (happened : HappenedTo Begun slice (slot_sums leaves2) (slot_sums leaves3)) where
    none-now : lookup (at place) old.live ≡ None
    none-now = at-laid place_total places h.live rp place ∙ none

    there-over : (q : Leaf) → list_any (same_leaf q) ancestry ≡ true → IsSome (sum_at q sums2)
    there-over q t =
        there-laid h.sums rl leaves1 leaves2 keys2 slice slots there q
        (ap (λ (xs : List Leaf). list_any (same_leaf q) xs) l ∙ t)

    begun-over : HappenedTo Begun slice sums2 (overlaid leaf_cmp leaves3 h.sums)
    begun-over = happened-laid h.sums rl leaves2 leaves3 keys3 Begun slice slots2 happened

    put : overlaid place_cmp places' h.live ≡ insert_entry place_cmp old.live place w
    put = laid-slot place_total place_exact h.live rp place (Some w) places places' written

    pub begun-summed : IsSummed (laid places' leaves3 h)
    begun-summed =
        begin-sums old.live old.sums sums2 more-over place w slice ancestry w-is l
        (rise-laid place_total places h.live rp) none-now there-over summed
        (overlaid place_cmp places' h.live) (overlaid leaf_cmp leaves3 h.sums) put begun-over

    pub begun-told : told (laid places' leaves3 h) ≡ installed place ancestry (told old)
    begun-told =
        begin-seen old.live old.sums sums2 more-over place w slice ancestry w-is l
        (rise-laid place_total places h.live rp) none-now there-over summed
        (overlaid place_cmp places' h.live) (overlaid leaf_cmp leaves3 h.sums) put begun-over

    pub begun-have : LeavesHaveSlots places' leaves3
    begun-have q d e = by (at place q) refl
      where
        kept : (xs : List Leaf) → HaveSlots xs leaves1 → HaveSlots xs leaves3
        kept xs k = slots-kept xs leaves2 leaves3 keys3 (slots-kept xs leaves1 leaves2 keys2 k)

        by : (b : Bool) → at place q ≡ b → HaveSlots d.ancestry leaves3
        by true t =
            let same =
            some-inside w d (sym (written q ∙ ap (λ b. cond b (Some (Some w)) (value_at place_cmp q places)) t)
            ∙ e) in
            let of : slice ≡ d.ancestry = l
            ∙ (sym (ap (λ (z : Cookie). z.ancestry) w-is) ∙ ap (λ (z : Cookie). z.ancestry) same) in
            kept d.ancestry (subst (λ (xs : List Leaf). HaveSlots xs leaves1) of slots)
        by false t =
            kept d.ancestry (drawn-have h.sums d.ancestry leaves leaves1 drawn
            (have q d (sym (written q ∙ ap (λ b. cond b (Some (Some w)) (value_at place_cmp q places)) t) ∙ e)))

-- the sum of a leaf with the changes, where it is looked up
pub sum-found : (h : HeldOf) → Rise leaf_total h.sums → (slots : LeafSlots) (base : Sums) (leaf : Leaf) (o : Option Sum)
    → base ≡ h.sums → o ≡ slot_or (value_at leaf_cmp leaf slots) (value_at leaf_cmp leaf base)
    → sum_at leaf (overlaid leaf_cmp slots h.sums) ≡ o
sum-found h rl slots base leaf o is e =
    at-laid leaf_total slots h.sums rl leaf
    ∙ (sym (ap (λ (s : Sums). slot_or (value_at leaf_cmp leaf slots) (value_at leaf_cmp leaf s)) is) ∙ sym e)
