-- A row is put behind those that it doesn't come before.
use Rattle.std.proofs.Common.{◌≡◌, ◌∙◌, ℕ, Bool, true, false, List, [], ◌∷◌, ◌++◌, Some}
use Rattle.std.proofs.Common.{ap, append_assoc, drop, filter, not, refl, subst, sym, take, take-append-drop}
use Rattle.std.specs.Prelude.{find, if◌then◌else◌}
use Rattle.std.specs.List.{AllByRecursion}
use Rattle.std.specs.Ordering.{is_gt, is_le, is_lt, ordering_reverse}
use Rattle.std.specs.declared.cmp.Ordering.{Ordering}
use Rattle.std.specs.declared.cmp.Ordering.TheVariants.{Equal, Greater, Less}
use Rattle.std.proofs.lemmas.List.Elements.{filter-append}
use Rattle.install_plan.specs.declared.written.Written.{Written}
use Rattle.policy_meaning.specs.LeafFact.{EachPair}
use Rattle.policy_meaning.proofs.Lists.{all-append, all-map}
use Rattle.switch_meaning.specs.Batches.{key_cmp}
use Rattle.switch_meaning.specs.declared.entry.PhysEntry.{PhysEntry}
use Rattle.switch_meaning.proofs.ByKey.{key_total}
use Rattle.shared_rows.specs.Rows.{IsLower, NotAfter, Rise, by_key, has_key, is_past, put_by_key}
use Rattle.shared_rows.proofs.InOrder.{lower_rises, not_past, past_apart}
use Rattle.shared_rows.proofs.Lists.{all_front, find_front, find_none, keep_all}

-- putting -----------------------------------------------------------------------------------------------------------

not_lower : (r : Ordering) → is_lt (ordering_reverse r) ≡ false → is_le r ≡ true
not_lower Less e = refl
not_lower Equal e = refl
not_lower Greater e = cc

greater : (r : Ordering) → is_gt r ≡ true → is_le r ≡ false
greater Less e = cc
greater Equal e = cc
greater Greater e = refl

at_most : (v w : Written) → NotAfter v w → is_le (key_cmp v.entry w.entry) ≡ true
at_most v w e = not_lower (key_cmp v.entry w.entry) (sym (ap is_lt (key_total.antisymm w.entry v.entry)) ∙ e)

put_head : (w : Written) (xs : List Written) → AllByRecursion (NotAfter w) xs → put_by_key w xs ≡ w ∷ xs
put_head w [] h = refl
put_head w (x ∷ xs) h = ap (λ b. if b then w ∷ x ∷ xs else x ∷ put_by_key w xs) (at_most w x h.0)

pub risen : (ws : List Written) → Rise ws → by_key ws ≡ ws
risen [] h = refl
risen (w ∷ ws) h = ap (put_by_key w) (risen ws h.1) ∙ put_head w ws h.0

pub rows_rise : (ws : List Written) → EachPair IsLower ws → Rise ws
rows_rise [] h = tt
rows_rise (w ∷ ws) h = (all-map (IsLower w) (NotAfter w) ws (λ x e. lower_rises w x e) h.0, rows_rise ws h.1)

module _ (c : Written) where
  -- a row that comes goes before those that come behind it
  put_before_all : (bs : List Written) → Rise bs → AllByRecursion (λ b. is_past c.entry b ≡ true) bs
      → by_key (bs ++ c ∷ []) ≡ c ∷ bs
  put_before_all [] rise h = refl
  put_before_all (b ∷ bs) rise h =
      ap (put_by_key b) (put_before_all bs rise.1 h.1)
      ∙ (ap (λ t. if t then b ∷ c ∷ bs else c ∷ put_by_key b bs) (greater (key_cmp b.entry c.entry) h.0)
      ∙ ap (λ xs. c ∷ xs) (put_head b bs rise.0))

  put_over : (a : Written) (fs zs : List Written) → AllByRecursion (NotAfter a) fs → NotAfter a c
      → put_by_key a (fs ++ c ∷ zs) ≡ a ∷ (fs ++ c ∷ zs)
  put_over a [] zs h n = ap (λ b. if b then a ∷ c ∷ zs else c ∷ put_by_key a zs) (at_most a c n)
  put_over a (x ∷ fs) zs h n =
      ap (λ b. if b then a ∷ x ∷ (fs ++ c ∷ zs) else x ∷ put_by_key a (fs ++ c ∷ zs)) (at_most a x h.0)

  -- and behind those that don't
  put_between : (fs bs : List Written) → Rise (fs ++ bs) → AllByRecursion (λ a. is_past c.entry a ≡ false) fs
      → AllByRecursion (λ b. is_past c.entry b ≡ true) bs → by_key ((fs ++ bs) ++ c ∷ []) ≡ fs ++ c ∷ bs
  put_between [] bs rise low high = put_before_all bs rise high
  put_between (a ∷ fs) bs rise low high =
      ap (put_by_key a) (put_between fs bs rise.1 low.1 high)
      ∙ put_over a fs bs (all_front (NotAfter a) fs bs rise.0) (not_past c.entry a low.0)

  -- the same among the rows of one run of many
  pub put_among : (front rows back : List Written) (n : ℕ) → Rise (front ++ (rows ++ back))
      → AllByRecursion (λ a. is_past c.entry a ≡ false) front
      → AllByRecursion (λ a. is_past c.entry a ≡ false) (take n rows)
      → AllByRecursion (λ b. is_past c.entry b ≡ true) (drop n rows)
      → AllByRecursion (λ b. is_past c.entry b ≡ true) back
      → by_key ((front ++ (rows ++ back)) ++ c ∷ []) ≡ front ++ ((take n rows ++ c ∷ drop n rows) ++ back)
  put_among front rows back n rise low lower higher high =
      let fs = front ++ take n rows in
      let bs = drop n rows ++ back in
      let same : front ++ (rows ++ back) ≡ fs ++ bs =
      ap (λ xs. front ++ (xs ++ back)) (sym (take-append-drop n rows))
      ∙ (ap (λ xs. front ++ xs) (append_assoc (take n rows) (drop n rows) back)
      ∙ sym (append_assoc front (take n rows) bs)) in
      ap (λ xs. by_key (xs ++ c ∷ [])) same
      ∙ (put_between fs bs (subst Rise same rise)
      (all-append (λ a. is_past c.entry a ≡ false) front (take n rows) low lower)
      (all-append (λ b. is_past c.entry b ≡ true) (drop n rows) back higher high)
      ∙ (append_assoc front (take n rows) (c ∷ bs)
      ∙ ap (λ xs. front ++ xs) (sym (append_assoc (take n rows) (c ∷ drop n rows) back))))

-- taking out --------------------------------------------------------------------------------------------------------

module _ (e : PhysEntry) where
  none_past : (ws : List Written) → AllByRecursion (λ w. is_past e w ≡ true) ws
      → AllByRecursion (λ w. has_key e w ≡ false) ws
  none_past ws h = all-map (λ w. is_past e w ≡ true) (λ w. has_key e w ≡ false) ws (λ w t. past_apart e w t) h

  find_in : (rows back : List Written) → AllByRecursion (λ w. has_key e w ≡ false) back
      → find (has_key e) (rows ++ back) ≡ find (has_key e) rows
  find_in [] back h = find_none (has_key e) back h
  find_in (r ∷ rows) back h = ap (λ x. if has_key e r then Some r else x) (find_in rows back h)

  pub found_among : (front rows back : List Written) → AllByRecursion (λ w. has_key e w ≡ false) front
      → AllByRecursion (λ w. is_past e w ≡ true) back
      → find (has_key e) (front ++ (rows ++ back)) ≡ find (has_key e) rows
  found_among front rows back low high =
      find_front (has_key e) front (rows ++ back) low ∙ find_in rows back (none_past back high)

  pub left_among : (front rows back : List Written) → AllByRecursion (λ w. has_key e w ≡ false) front
      → AllByRecursion (λ w. is_past e w ≡ true) back
      → filter (λ w. not (has_key e w)) (front ++ (rows ++ back))
      ≡ front ++ (filter (λ w. not (has_key e w)) rows ++ back)
  left_among front rows back low high =
      let stays : Written → Bool = λ w. not (has_key e w) in
      filter-append stays front (rows ++ back)
      ∙ ((λ i. keep_all (has_key e) front low i ++ filter-append stays rows back i)
      ∙ ap (λ xs. front ++ (filter stays rows ++ xs)) (keep_all (has_key e) back (none_past back high)))
