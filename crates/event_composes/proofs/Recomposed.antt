-- What was made what is wanted of a switch is settled: made so once more it stays, and nothing is written.
use Rattle.std.proofs.Common.{◌≡◌, ◌∙◌, ◌⊎◌, inl, inr, ℕ, Bool, true, false, not, List, [], ◌∷◌, ◌++◌, map}
use Rattle.std.proofs.Common.{refl, sym, ap, ap₂, subst}
use Rattle.std.specs.Prelude.{if◌then◌else◌, IsPermutation}
use Rattle.std.specs.List.{AllByRecursion, list_any}
use Rattle.std.specs.Ordering.{is_le, ordering_reverse}
use Rattle.std.specs.declared.cmp.Ordering.{Ordering}
use Rattle.std.specs.declared.cmp.Ordering.TheVariants.{Less, Equal, Greater}
use Rattle.std.proofs.lemmas.List.Sorted.{IsPermutation-cons, IsPermutation-middle, IsPermutation-refl}
use Rattle.std.proofs.lemmas.List.Sorted.{IsPermutation-sym, IsPermutation-trans}
use Rattle.install_plan.specs.Tables.{entry_of, numbered}
use Rattle.install_plan.specs.declared.written.Written.{Written}
use Rattle.install_plan.proofs.Cookies.{entries-numbered}
use Rattle.switch_meaning.specs.Batches.{key_cmp, missing, by_key as entries_by_key}
use Rattle.switch_meaning.specs.Same.{same_entry}
use Rattle.switch_meaning.specs.declared.entry.PhysEntry.{PhysEntry}
use Rattle.switch_meaning.proofs.Alike.{entry_decides}
use Rattle.switch_meaning.proofs.Batched.{by_key-permutes}
use Rattle.switch_meaning.proofs.ByKey.{key_total}
use Rattle.switch_meaning.proofs.Members.{IsIn, all-in, any-passes, filter-in, in-either, in-filter, in-left, in-map}
use Rattle.switch_meaning.proofs.Members.{in-permuted, in-right, map-in, passes-any}
use Rattle.machine_meaning.specs.Batches.{by_key, coming, going, is_among, put_by_key, standing_after, staying}
use Rattle.machine_meaning.proofs.Unchanged.{all_weaker, filter_all, filter_none, nothing_after}
use Rattle.event_composes.specs.Settled.{IsSettled}

-- by key once more --------------------------------------------------------------------------------------------------

-- each entry comes before the next one
abbrev AreOrdered : List Written → Type 0
AreOrdered [] = Unit {0}
AreOrdered (w ∷ []) = Unit {0}
AreOrdered (w ∷ x ∷ xs) = (is_le (key_cmp w.entry x.entry) ≡ true) × AreOrdered (x ∷ xs)

turned : (r : Ordering) → is_le r ≡ false → is_le (ordering_reverse r) ≡ true
turned Less h = cc
turned Equal h = cc
turned Greater h = refl

other_way : (w x : Written) → is_le (key_cmp x.entry w.entry) ≡ false → is_le (key_cmp w.entry x.entry) ≡ true
other_way w x h = ap is_le (key_total.antisymm w.entry x.entry) ∙ turned (key_cmp x.entry w.entry) h

rest_ordered : (w : Written) (xs : List Written) → AreOrdered (w ∷ xs) → AreOrdered xs
rest_ordered w [] o = tt
rest_ordered w (x ∷ xs) o = o.1

-- an entry that comes first still does, where another that comes after it is put in its place
still_first : (x w : Written) (xs : List Written) → is_le (key_cmp x.entry w.entry) ≡ true → AreOrdered (x ∷ xs)
    → AreOrdered (put_by_key w xs) → AreOrdered (x ∷ put_by_key w xs)
still_first x w [] h o p = (h, tt)
still_first x w (y ∷ xs) h o p = by (is_le (key_cmp w.entry y.entry)) p
  where
    by : (b : Bool) → AreOrdered (if b then w ∷ y ∷ xs else y ∷ put_by_key w xs)
        → AreOrdered (x ∷ (if b then w ∷ y ∷ xs else y ∷ put_by_key w xs))
    by true q = (h, q)
    by false q = (o.0, q)

put_ordered : (w : Written) (xs : List Written) → AreOrdered xs → AreOrdered (put_by_key w xs)
put_ordered w [] o = tt
put_ordered w (x ∷ xs) o = by (is_le (key_cmp w.entry x.entry)) refl (put_ordered w xs (rest_ordered x xs o))
  where
    by : (b : Bool) → is_le (key_cmp w.entry x.entry) ≡ b → AreOrdered (put_by_key w xs)
        → AreOrdered (if b then w ∷ x ∷ xs else x ∷ put_by_key w xs)
    by true h p = (h, o)
    by false h p = still_first x w xs (other_way x w h) o p

sorted_ordered : (ws : List Written) → AreOrdered (by_key ws)
sorted_ordered [] = tt
sorted_ordered (w ∷ ws) = put_ordered w (by_key ws) (sorted_ordered ws)

in_order : (ws : List Written) → AreOrdered ws → by_key ws ≡ ws
in_order [] o = refl
in_order (w ∷ []) o = refl
in_order (w ∷ x ∷ ws) o =
    ap (put_by_key w) (in_order (x ∷ ws) o.1) ∙ ap (λ b. if b then w ∷ x ∷ ws else x ∷ put_by_key w ws) o.0

sorted_again : (ws : List Written) → by_key (by_key ws) ≡ by_key ws
sorted_again ws = in_order (by_key ws) (sorted_ordered ws)

-- sorting keeps the entries
put_permutes : (w : Written) (xs : List Written) → IsPermutation (w ∷ xs) (put_by_key w xs)
put_permutes w [] = IsPermutation-refl (w ∷ [])
put_permutes w (x ∷ xs) = by (is_le (key_cmp w.entry x.entry)) (put_permutes w xs)
  where
    by : (b : Bool) → IsPermutation (w ∷ xs) (put_by_key w xs)
        → IsPermutation (w ∷ x ∷ xs) (if b then w ∷ x ∷ xs else x ∷ put_by_key w xs)
    by true p = IsPermutation-refl (w ∷ x ∷ xs)
    by false p =
        IsPermutation-trans (w ∷ x ∷ xs) (x ∷ w ∷ xs) (x ∷ put_by_key w xs)
        (IsPermutation-sym (x ∷ w ∷ xs) (w ∷ x ∷ xs) (IsPermutation-middle (x ∷ []) w xs))
        (IsPermutation-cons x (w ∷ xs) (put_by_key w xs) p)

sorted_permutes : (ws : List Written) → IsPermutation ws (by_key ws)
sorted_permutes [] = IsPermutation-refl []
sorted_permutes (w ∷ ws) =
    IsPermutation-trans (w ∷ ws) (w ∷ by_key ws) (by_key (w ∷ ws))
    (IsPermutation-cons w ws (by_key ws) (sorted_permutes ws)) (put_permutes w (by_key ws))

-- what was made what is wanted --------------------------------------------------------------------------------------

itself : (e : PhysEntry) → same_entry e e ≡ true
itself e = (entry_decides e e).1 refl

-- one of some entries is the same
abbrev is_in : List PhysEntry → PhysEntry → Bool
is_in es e = list_any (λ (d : PhysEntry). same_entry d e) es

is_there : (es : List PhysEntry) (e : PhysEntry) → is_in es e ≡ true → IsIn e es
is_there es e t =
    let p = any-passes (λ (d : PhysEntry). same_entry d e) es t in
    subst (λ (z : PhysEntry). IsIn z es) ((entry_decides p.item e).0 p.passes) p.stands

module _ (next : ℕ) (stood : List Written) (wanted : List PhysEntry) where
  abbrev before : List PhysEntry
  before = map entry_of stood

  abbrev more : List PhysEntry
  more = entries_by_key (missing before wanted)

  abbrev parts : List Written
  parts = staying stood wanted ++ coming next stood wanted

  abbrev made : List Written
  made = standing_after next stood wanted

  among : (w : Written) → IsIn w.entry wanted → is_among wanted w ≡ true
  among w i = passes-any (same_entry w.entry) i (itself w.entry)

  -- what comes is wanted
  comes : (w : Written) → IsIn w (coming next stood wanted) → IsIn w.entry wanted
  comes w i =
      let j = subst (λ es. IsIn w.entry es) (entries-numbered next more) (in-map entry_of i) in
      let k = in-permuted more (missing before wanted) w.entry
      (IsPermutation-sym (missing before wanted) more (by_key-permutes (missing before wanted))) j in
      (filter-in (λ (e : PhysEntry). not (is_in before e)) w.entry wanted k).0

  each_among : (w : Written) → IsIn w made → is_among wanted w ≡ true
  each_among w i =
      by (in-either (staying stood wanted) (coming next stood wanted)
      (in-permuted made parts w (IsPermutation-sym parts made (sorted_permutes parts)) i))
    where
      by : IsIn w (staying stood wanted) ⊎ IsIn w (coming next stood wanted) → is_among wanted w ≡ true
      by (inl j) = (filter-in (is_among wanted) w stood j).1
      by (inr j) = among w (comes w j)

  -- a part stands
  stands : (w : Written) → IsIn w parts → IsIn w.entry (map entry_of made)
  stands w i = in-map entry_of (in-permuted parts made w (sorted_permutes parts) i)

  -- what is wanted stands
  each_stands : (e : PhysEntry) → IsIn e wanted → IsIn e (map entry_of made)
  each_stands e i = by (is_in before e) refl
    where
      by : (b : Bool) → is_in before e ≡ b → IsIn e (map entry_of made)
      by true t =
          let c = map-in entry_of e stood (is_there before e t) in
          let w = c.from in
          let a = among w (subst (λ (z : PhysEntry). IsIn z wanted) (sym c.is) i) in
          subst (λ (z : PhysEntry). IsIn z (map entry_of made)) c.is
          (stands w (in-left (coming next stood wanted) (in-filter (is_among wanted) c.stands a)))
      by false f =
          let j = in-filter (λ (d : PhysEntry). not (is_in before d)) i (ap not f) in
          let k = in-permuted (missing before wanted) more e (by_key-permutes (missing before wanted)) j in
          let c = map-in entry_of e (coming next stood wanted)
          (subst (λ es. IsIn e es) (sym (entries-numbered next more)) k) in
          subst (λ (z : PhysEntry). IsIn z (map entry_of made)) c.is
          (stands c.from (in-right (staying stood wanted) (coming next stood wanted) c.stands))

  all_among : AllByRecursion (λ (w : Written). is_among wanted w ≡ true) made
  all_among = all-in (λ (w : Written). is_among wanted w ≡ true) made each_among

  none_missing : missing (map entry_of made) wanted ≡ []
  none_missing =
      filter_none (λ (e : PhysEntry). not (is_in (map entry_of made) e)) wanted
      (all-in (λ e. not (is_in (map entry_of made) e) ≡ false) wanted
      (λ e i. ap not (passes-any (λ (d : PhysEntry). same_entry d e) (each_stands e i) (itself e))))

  none_coming : (n : ℕ) → coming n made wanted ≡ []
  none_coming n = ap (λ (es : List PhysEntry). numbered n (entries_by_key es)) none_missing

  none_going : going made wanted ≡ []
  none_going =
      ap by_key (filter_none (λ (w : Written). not (is_among wanted w)) made
      (all_weaker (λ (w : Written). is_among wanted w ≡ true) (λ (w : Written). not (is_among wanted w) ≡ false)
      (λ w k. ap not k) made all_among))

  pub settled_after : IsSettled made wanted
  settled_after = record {
    nothing = λ n.
        ap₂ (λ (deletes adds : List Written). record { deletes = deletes; adds = adds }) none_going (none_coming n);
    stays = λ n.
        ap₂ (λ (kept adds : List Written). by_key (kept ++ adds)) (filter_all (is_among wanted) made all_among)
        (none_coming n)
        ∙ (ap by_key (nothing_after made) ∙ sorted_again parts);
  }
