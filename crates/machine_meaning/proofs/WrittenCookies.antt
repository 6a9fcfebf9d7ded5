-- A batch is written to a switch that is up: its cookies are counted, and what is deleted isn't reported yet.
use Rattle.std.proofs.Common.{◌≡◌, ◌∙◌, ℕ, zero, suc, ◌+◌, ◌-◌, ◌<◌, ◌≤◌, ◌^◌, ◌==◌, Bool, true, false, true≢false}
use Rattle.std.proofs.Common.{not, ◌&&◌, ◌||◌, List, [], ◌∷◌, ◌++◌, map, filter, length, Option, Some, cond, nat_lt}
use Rattle.std.proofs.Common.{min, arith, refl, sym, ap, subst, eq-eqb, lt-ltb, ltb-true}
use Rattle.std.specs.Prelude.{option_map, slice_get, unwrap_or}
use Rattle.std.specs.List.{AllByRecursion, list_any}
use Rattle.std.specs.Ordering.{is_le}
use Rattle.std.specs.Option.{option_map_or}
use Rattle.std.proofs.lemmas.Bool.{eqb-false, ne_eqb}
use Rattle.cv_io.specs.Leaves.{same_leaf}
use Rattle.cv_io.specs.declared.leaf.Leaf.{Leaf}
use Rattle.install_plan.specs.Tables.{entry_of, numbered}
use Rattle.install_plan.specs.declared.written.Written.{Written}
use Rattle.policy_meaning.proofs.Booleans.{some_injective}
use Rattle.policy_meaning.proofs.Lists.{all-append}
use Rattle.stats_map.specs.Counting.{CountsOf}
use Rattle.switch_meaning.specs.Batches.{difference, key_cmp, missing}
use Rattle.switch_meaning.specs.declared.entry.PhysEntry.{PhysEntry}
use Rattle.switch_meaning.proofs.Alike.{leaf_decides}
use Rattle.switch_meaning.proofs.Items.{all-filter}
use Rattle.switch_state.specs.Known.{KnownOf}
use Rattle.machine_meaning.specs.Batches.{by_key, coming, counts_after, going, is_among, next_after, put_by_key}
use Rattle.machine_meaning.specs.Batches.{standing_after, staying}
use Rattle.machine_meaning.specs.Lists.{changed_at}
use Rattle.machine_meaning.specs.States.{SwitchOf}
use Rattle.machine_meaning.proofs.Composed.{elsewhere}
use Rattle.machine_meaning.proofs.CountEffects.{has}
use Rattle.machine_meaning.proofs.CountWrites.{AreGiven, AreInstalled, all_installed, cookied, given, made_of}
use Rattle.machine_meaning.proofs.CountWrites.{next_rises}
use Rattle.machine_meaning.proofs.EntryLeaves.{OfEntry}
use Rattle.machine_meaning.proofs.KeptCookies.{AreKeptCookies, IsKeptSide, changed_cookies, marks, standing_in}
use Rattle.machine_meaning.proofs.Numbered.{at_changed}
use Rattle.machine_meaning.proofs.SentKnown.{IsSent, deleted_times}
use Rattle.machine_meaning.proofs.Tallies.{one, tally, tally_both, tally_map, tally_parts}
use Rattle.machine_meaning.proofs.Unchanged.{all_sorted}
use Rattle.machine_meaning.proofs.Times.{long_at, times}

-- lists -------------------------------------------------------------------------------------------------------------

put_tally : (p : Written → Bool) (w : Written) (ws : List Written) → tally p (put_by_key w ws) ≡ one (p w) + tally p ws
put_tally p w [] = refl
put_tally p w (x ∷ xs) = by (is_le (key_cmp w.entry x.entry)) (put_tally p w xs)
  where
    by : (b : Bool) → tally p (put_by_key w xs) ≡ one (p w) + tally p xs
        → tally p (cond b (w ∷ x ∷ xs) (x ∷ put_by_key w xs)) ≡ one (p w) + (one (p x) + tally p xs)
    by true h = refl
    by false h = omega (arith, h)

sorted_tally : (p : Written → Bool) (ws : List Written) → tally p (by_key ws) ≡ tally p ws
sorted_tally p [] = refl
sorted_tally p (w ∷ ws) = put_tally p w (by_key ws) ∙ ap (λ (n : ℕ). one (p w) + n) (sorted_tally p ws)

all_placed : (P : Written → Type 0) (w : Written) (ws : List Written) → P w → AllByRecursion P ws
    → AllByRecursion P (put_by_key w ws)
all_placed P w [] q a = (q, tt)
all_placed P w (x ∷ xs) q a = by (is_le (key_cmp w.entry x.entry)) (all_placed P w xs q a.1)
  where
    by : (b : Bool) → AllByRecursion P (put_by_key w xs)
        → AllByRecursion P (cond b (w ∷ x ∷ xs) (x ∷ put_by_key w xs))
    by true r = (q, a)
    by false r = (a.0, r)

all_in_order : (P : Written → Type 0) (ws : List Written) → AllByRecursion P ws → AllByRecursion P (by_key ws)
all_in_order P [] a = tt
all_in_order P (w ∷ ws) a = all_placed P w (by_key ws) a.0 (all_in_order P ws a.1)

-- entries under cookies from a number on
all_given : (first next : ℕ) (es : List PhysEntry) → first ≤ next → next < 2 ^ 64
    → AllByRecursion (λ (w : Written). first ≤ w.cookie) (numbered next es)
all_given first next [] le h = tt
all_given first next (e ∷ es) le h =
    (le, all_given first (min (next + 1) (2 ^ 64 - 1)) es (omega (arith, le, h)) (omega arith))

record IsThere {Y : Type 0} (ys : List Y) (n : ℕ) : Type 0 where
  item : Y
  at : slice_get ys n ≡ Some item

there_beside : {X Y : Type 0} (xs : List X) (ys : List Y) (n : ℕ) (x : X) → length ys ≡ length xs
    → slice_get xs n ≡ Some x → IsThere ys n
there_beside [] ys n x e at = absurd (cc at)
there_beside (a ∷ xs) [] n x e at = absurd (omega (arith, e))
there_beside (a ∷ xs) (b ∷ ys) zero x e at = record { item = b; at = refl }
there_beside (a ∷ xs) (b ∷ ys) (suc n) x e at =
    let r = there_beside xs ys n x (omega (arith, e)) at in record { item = r.item; at = r.at }

-- leaves of what comes
module _ (P : Leaf → Type 0) where
  one_holds : (leaf : Leaf) (leaves : List Leaf) → AllByRecursion P leaves → list_any (same_leaf leaf) leaves ≡ true
      → P leaf
  one_holds leaf [] a t = absurd (true≢false (sym t))
  one_holds leaf (x ∷ xs) a t = by (same_leaf leaf x) refl t (one_holds leaf xs a.1)
    where
      by : (b : Bool) → same_leaf leaf x ≡ b → (b || list_any (same_leaf leaf) xs) ≡ true
          → (list_any (same_leaf leaf) xs ≡ true → P leaf) → P leaf
      by true e f r = subst P (sym ((leaf_decides leaf x).0 e)) a.0
      by false e f r = r f

  made_holds : (leaf : Leaf) (es : List PhysEntry) → AllByRecursion (OfEntry P) es → made_of leaf es ≡ true → P leaf
  made_holds leaf [] a t = absurd (true≢false (sym t))
  made_holds leaf (e ∷ es) a t =
      by (list_any (same_leaf leaf) e.ancestry) refl t (made_holds leaf es a.1)
    where
      by : (b : Bool) → list_any (same_leaf leaf) e.ancestry ≡ b → (b || made_of leaf es) ≡ true
          → (made_of leaf es ≡ true → P leaf) → P leaf
      by true f g r = one_holds leaf e.ancestry a.0 f
      by false f g r = r g

  pub coming_holds : (stood : List Written) (wanted : List PhysEntry) → AllByRecursion (OfEntry P) wanted
      → (leaf : Leaf) → made_of leaf (difference (map entry_of stood) wanted).adds ≡ true → P leaf
  coming_holds stood wanted a leaf t =
      made_holds leaf (difference (map entry_of stood) wanted).adds
      (all_sorted (OfEntry P) (missing (map entry_of stood) wanted) (all-filter (OfEntry P) _ wanted a)) t

-- one batch ---------------------------------------------------------------------------------------------------------

module _ (standing : List (List Written)) (switches : List SwitchOf) (counts : CountsOf) (next : ℕ)
    (h : AreKeptCookies standing switches counts next) (fits : next < 2 ^ 64) (n : ℕ) (x : SwitchOf)
    (at : slice_get switches n ≡ Some x) (up : x.outbox.up ≡ true) (wanted : List PhysEntry) (known : KnownOf)
    (sent : IsSent x.known (map (λ (w : Written). w.cookie) (going (standing_in standing n) wanted)) known)
    (left : next_after next (coming next (standing_in standing n) wanted) < 2 ^ 64 - 1) where
  abbrev stood : List Written
  stood = standing_in standing n

  abbrev adds : List Written
  adds = coming next stood wanted

  abbrev es : List PhysEntry
  es = (difference (map entry_of stood) wanted).adds

  abbrev after : List Written
  after = standing_after next stood wanted

  abbrev standing' : List (List Written)
  standing' = changed_at n (λ old. standing_after next old wanted) standing

  abbrev switches' : List SwitchOf
  switches' = changed_at n (λ (y : SwitchOf). record y { known = known }) switches

  none_yet : (k : ℕ) → next ≤ k → marks standing switches n k ≡ 0
  none_yet k le = by (nat_lt 0 (marks standing switches n k)) refl
    where
      by : (b : Bool) → nat_lt 0 (marks standing switches n k) ≡ b → marks standing switches n k ≡ 0
      by true t =
          let lt = h.below n k (ltb-true 0 (marks standing switches n k) t) in absurd (omega (arith, le, lt))
      by false t = grind (arith, t)

  pub installs : AreInstalled n adds es counts (counts_after n adds counts)
  installs =
      all_installed n next es counts fits left h.rises
      (λ k le. h.live n k ∙ ap (nat_lt 0) (none_yet k le))

  gives : AreGiven next adds
  gives = given next es fits left

  -- the switch, and what stands on it, before and after
  stood_at : slice_get standing n ≡ Some stood
  stood_at =
      let r = there_beside switches standing n x h.long at in
      r.at ∙ ap Some (sym (ap (λ (o : Option (List Written)). unwrap_or o []) r.at))

  now_stands : standing_in standing' n ≡ after
  now_stands =
      ap (λ (o : Option (List Written)). unwrap_or o [])
      (at_changed n (λ old. standing_after next old wanted) standing
      ∙ ap (option_map (λ old. standing_after next old wanted)) stood_at)

  now_is : slice_get switches' n ≡ Some (record x { known = known })
  now_is =
      at_changed n (λ (y : SwitchOf). record y { known = known }) switches
      ∙ ap (option_map (λ (y : SwitchOf). record y { known = known })) at

  was : (c : ℕ) → marks standing switches n c ≡ cookied c stood + times c x.known.deleted
  was c =
      ap (λ (o : Option SwitchOf).
      cookied c stood + times c (option_map_or (λ (y : SwitchOf). y.known.deleted) o [])) at

  -- what stood stays, or is deleted
  parts : (c : ℕ) → cookied c (staying stood wanted)
      + times c (map (λ (w : Written). w.cookie) (going stood wanted)) ≡ cookied c stood
  parts c =
      let both = tally_parts (λ (w : Written). w.cookie == c) (is_among wanted) stood in
      let made = tally_map (λ d. d == c) (λ (w : Written). w.cookie) (going stood wanted) in
      let order = sorted_tally (λ (w : Written). w.cookie == c)
      (filter (λ (w : Written). not (is_among wanted w)) stood) in
      omega (arith, both, made, order)

  deletes : (c : ℕ) → times c known.deleted
      ≡ times c x.known.deleted + times c (map (λ (w : Written). w.cookie) (going stood wanted))
  deletes c =
      ap (times c) sent.deleted
      ∙ deleted_times (map (λ (w : Written). w.cookie) (going stood wanted)) x.known.deleted
      (λ d. let p = parts d in let o = h.once n d in let w = was d in omega (arith, p, o, w)) c

  is : (c : ℕ) → marks standing' switches' n c ≡ marks standing switches n c + cookied c adds
  is c =
      let stands = ap (cookied c) now_stands in
      let gone = ap (λ (o : Option SwitchOf). times c (option_map_or (λ (y : SwitchOf). y.known.deleted) o []))
      now_is in
      let order = sorted_tally (λ (w : Written). w.cookie == c) (staying stood wanted ++ adds) in
      let both = tally_both (λ (w : Written). w.cookie == c) (staying stood wanted) adds in
      let d = deletes c in
      let p = parts c in
      let w = was c in
      omega (arith, stands, gone, order, both, d, p, w)

  one_or_other : (c : ℕ) → marks standing' switches' n c ≤ 1
  one_or_other c = by (nat_lt 0 (cookied c adds)) refl
    where
      by : (b : Bool) → nat_lt 0 (cookied c adds) ≡ b → marks standing' switches' n c ≤ 1
      by true t =
          let from = gives.from c (ltb-true 0 (cookied c adds) t) in
          let none = none_yet c from in
          let few = gives.once c in
          let m = is c in
          omega (arith, none, few, m)
      by false t =
          let z : cookied c adds ≡ 0 = grind (arith, t) in
          let o = h.once n c in
          let m = is c in
          omega (arith, z, o, m)

  written_below : (c : ℕ) → 0 < marks standing' switches' n c → c < next_after next adds
  written_below c lt = by (nat_lt 0 (cookied c adds)) refl
    where
      by : (b : Bool) → nat_lt 0 (cookied c adds) ≡ b → c < next_after next adds
      by true t = gives.below c (ltb-true 0 (cookied c adds) t)
      by false t =
          let z : cookied c adds ≡ 0 = grind (arith, t) in
          let m = is c in
          let b = h.below n c (omega (arith, z, m, lt)) in
          let r = next_rises next adds fits in
          omega (arith, b, r)

  side : IsKeptSide after (next_after next adds) (record x { known = known })
  side =
      let old = h.sides n x at in
      let begun = old.begun in
      let first = sent.first in
      let r = next_rises next adds fits in
      record {
        outbox = old.outbox;
        down = λ e. absurd (true≢false (sym up ∙ e));
        xid = sent.xid;
        begun = omega (arith, begun, first, r);
        cookies =
            subst (λ (k : ℕ). AllByRecursion (λ (w : Written). k ≤ w.cookie) after) (sym sent.first)
            (all_in_order (λ (w : Written). x.known.first ≤ w.cookie) (staying stood wanted ++ adds)
            (all-append (λ (w : Written). x.known.first ≤ w.cookie) (staying stood wanted) adds
            (all-filter (λ (w : Written). x.known.first ≤ w.cookie) (is_among wanted) stood old.cookies)
            (all_given x.known.first next es begun fits)));
      }

  pub written_cookies : AreKeptCookies standing' switches' (counts_after n adds counts) (next_after next adds)
  written_cookies =
      changed_cookies standing switches counts next standing' switches' (counts_after n adds counts)
      (next_after next adds) n h
      (record {
        long =
            long_at n (λ old. standing_after next old wanted) standing
            ∙ (h.long ∙ sym (long_at n (λ (y : SwitchOf). record y { known = known }) switches));
        rises = installs.rises;
        more = next_rises next adds fits;
        stood = λ m e. elsewhere n m (λ old. standing_after next old wanted) standing e;
        switch = λ m e. elsewhere n m (λ (y : SwitchOf). record y { known = known }) switches e;
        counted = λ m c e. installs.places (m, c) ∙ other (has (m, c) counts) (m == n) (cookied c adds) (flipped m e);
        side = λ y e.
            subst (λ (ws : List Written). IsKeptSide ws (next_after next adds) y) (sym now_stands)
            (subst (IsKeptSide after (next_after next adds)) (some_injective (sym now_is ∙ e)) side);
        once = one_or_other;
        below = written_below;
        live = λ c.
            installs.places (n, c)
            ∙ (ap (λ (b : Bool). has (n, c) counts || (b && nat_lt 0 (cookied c adds))) (eq-eqb n n refl)
            ∙ (ap (λ (b : Bool). b || nat_lt 0 (cookied c adds)) (h.live n c)
            ∙ (joined (marks standing switches n c) (cookied c adds) ∙ ap (nat_lt 0) (sym (is c)))));
      })
    where
      flipped : (m : ℕ) → (n == m) ≡ false → (m == n) ≡ false
      flipped m e = ne_eqb m n (λ f. eqb-false n m e (sym f))

      other : (a b : Bool) (k : ℕ) → b ≡ false → (a || (b && nat_lt 0 k)) ≡ a
      other true b k e = refl
      other false b k e = ap (λ (c : Bool). c && nat_lt 0 k) e

      joined : (a b : ℕ) → (nat_lt 0 a || nat_lt 0 b) ≡ nat_lt 0 (a + b)
      joined zero b = ap (nat_lt 0) (let z : b ≡ 0 + b = omega arith in z)
      joined (suc a) b =
          ap (λ (t : Bool). t || nat_lt 0 b) (lt-ltb 0 (suc a) (omega arith))
          ∙ sym (lt-ltb 0 (suc a + b) (omega arith))
