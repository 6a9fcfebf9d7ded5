-- Rows that rise, and a key.
use Rattle.std.proofs.Common.{◌≡◌, ◌∙◌, ◌+◌, ◌<◌, ℕ, zero, suc, true, false, List, [], ◌∷◌, Some, None}
use Rattle.std.proofs.Common.{arith, ap, drop, filter, length, not, subst, sym, take}
use Rattle.std.specs.Prelude.{find, if◌then◌else◌, slice_get}
use Rattle.std.specs.List.{AllByRecursion, AllWithin, remove}
use Rattle.std.specs.Ordering.{is_lt}
use Rattle.install_plan.specs.declared.written.Written.{Written}
use Rattle.policy_meaning.specs.LeafFact.{EachPair}
use Rattle.policy_meaning.proofs.Lists.{all-map}
use Rattle.switch_meaning.specs.Batches.{key_cmp}
use Rattle.switch_meaning.specs.declared.entry.PhysEntry.{PhysEntry}
use Rattle.shared_rows.specs.Rows.{IsLower, NotAfter, Rise, has_key, is_past}
use Rattle.shared_rows.specs.InsideRuns.{at_key}
use Rattle.shared_rows.proofs.InOrder.{behind_apart, front_low, front_not_past}
use Rattle.shared_rows.proofs.Lists.{find_none, keep_all, not_true}

module _ (e : PhysEntry) where
  pub rows_parted : (ws : List Written) → Rise ws
      → EachPair (λ (v w : Written). not (is_past e w) ≡ true → not (is_past e v) ≡ true) ws
  rows_parted [] rise = tt
  rows_parted (v ∷ ws) rise = (
    all-map (NotAfter v) (λ (w : Written). not (is_past e w) ≡ true → not (is_past e v) ≡ true) ws
        (λ w up t. ap not (front_not_past e v w up (not_true (is_past e w) t))) rise.0,
    rows_parted ws rise.1,
  )

  pub lower_parted : (ws : List Written) → EachPair IsLower ws
      → EachPair (λ (v w : Written). is_lt (key_cmp w.entry e) ≡ true → is_lt (key_cmp v.entry e) ≡ true) ws
  lower_parted [] rise = tt
  lower_parted (v ∷ ws) rise = (
    all-map (IsLower v) (λ (w : Written). is_lt (key_cmp w.entry e) ≡ true → is_lt (key_cmp v.entry e) ≡ true) ws
        (λ w low t. front_low e v w low t) rise.0,
    lower_parted ws rise.1,
  )

  -- behind the first row that isn't lower than the key no row has it
  pub others_apart : (ws : List Written) (k : ℕ) → EachPair IsLower ws
      → AllWithin (λ (w : Written). is_lt (key_cmp w.entry e) ≡ false) ws k (length ws)
      → AllByRecursion (λ w. has_key e w ≡ false) (drop (suc k) ws)
  others_apart [] zero rise high = tt
  others_apart [] (suc k) rise high = tt
  others_apart (w ∷ ws) zero rise high =
      all-map (IsLower w) (λ v. has_key e v ≡ false) ws
      (λ v low. behind_apart e w v low (high 0 w (omega arith) (omega arith))) rise.0
  others_apart (w ∷ ws) (suc k) rise high =
      others_apart ws k rise.1 (λ n d lo hi. high (suc n) d (omega arith) (omega arith))

  -- of rows of which none but the one at a place has the key
  module _ (ws : List Written) (k : ℕ) (before : AllByRecursion (λ w. has_key e w ≡ false) (take k ws))
      (behind : AllByRecursion (λ w. has_key e w ≡ false) (drop (k + 1) ws)) where
    others : AllByRecursion (λ w. has_key e w ≡ false) (drop (suc k) ws)
    others = let next : k + 1 ≡ suc k = omega arith in
        subst (λ n. AllByRecursion (λ w. has_key e w ≡ false) (drop n ws)) next behind

    found_at : (us : List Written) (n : ℕ) (w : Written) → slice_get us n ≡ Some w → has_key e w ≡ true
        → AllByRecursion (λ v. has_key e v ≡ false) (take n us) → find (has_key e) us ≡ Some w
    found_at [] n w at t low = cc
    found_at (u ∷ us) zero w at t low =
        let same : u ≡ w = cc in
        ap (λ (x : Written). if has_key e x then Some x else find (has_key e) us) same
        ∙ ap (λ b. if b then Some w else find (has_key e) us) t
    found_at (u ∷ us) (suc n) w at t low =
        ap (λ b. if b then Some u else find (has_key e) us) low.0 ∙ found_at us n w at t low.1

    left_at : (us : List Written) (n : ℕ) (w : Written) → slice_get us n ≡ Some w → has_key e w ≡ true
        → AllByRecursion (λ v. has_key e v ≡ false) (take n us)
        → AllByRecursion (λ v. has_key e v ≡ false) (drop (suc n) us)
        → filter (λ v. not (has_key e v)) us ≡ remove us n
    left_at [] n w at t low high = cc
    left_at (u ∷ us) zero w at t low high =
        let same : u ≡ w = cc in
        let there : has_key e u ≡ true = ap (has_key e) same ∙ t in
        ap (λ b. if not b then u ∷ filter (λ v. not (has_key e v)) us else filter (λ v. not (has_key e v)) us) there
        ∙ keep_all (has_key e) us high
    left_at (u ∷ us) (suc n) w at t low high =
        ap (λ b. if not b then u ∷ filter (λ v. not (has_key e v)) us else filter (λ v. not (has_key e v)) us) low.0
        ∙ ap (λ xs. u ∷ xs) (left_at us n w at t low.1 high)

    has_it : (w : Written) → slice_get ws k ≡ Some w → at_key e (slice_get ws k) ≡ true → has_key e w ≡ true
    has_it w at t = sym (ap (at_key e) at) ∙ t

    pub found : (w : Written) → slice_get ws k ≡ Some w → at_key e (slice_get ws k) ≡ true
        → Some w ≡ find (has_key e) ws
    found w at t = sym (found_at ws k w at (has_it w at t) before)

    pub left : (w : Written) → slice_get ws k ≡ Some w → at_key e (slice_get ws k) ≡ true
        → remove ws k ≡ filter (λ v. not (has_key e v)) ws
    left w at t = sym (left_at ws k w at (has_it w at t) before others)

    -- where that one hasn't either, or isn't there
    unlike : (us : List Written) (n : ℕ) → at_key e (slice_get us n) ≡ false
        → AllByRecursion (λ v. has_key e v ≡ false) (take n us)
        → AllByRecursion (λ v. has_key e v ≡ false) (drop (suc n) us) → AllByRecursion (λ v. has_key e v ≡ false) us
    unlike [] n lacks low high = tt
    unlike (u ∷ us) zero lacks low high = (lacks, high)
    unlike (u ∷ us) (suc n) lacks low high = (low.0, unlike us n lacks low.1 high)

    pub none : at_key e (slice_get ws k) ≡ false → None ≡ find (has_key e) ws
    none lacks = sym (find_none (has_key e) ws (unlike ws k lacks before others))

    pub all_left : at_key e (slice_get ws k) ≡ false → ws ≡ filter (λ v. not (has_key e v)) ws
    all_left lacks = sym (keep_all (has_key e) ws (unlike ws k lacks before others))

  pub is_there : (ws : List Written) (k : ℕ) → at_key e (slice_get ws k) ≡ true → k < length ws
  is_there [] k t = cc
  is_there (w ∷ ws) zero t = omega arith
  is_there (w ∷ ws) (suc k) t = let rest = is_there ws k t in omega arith
