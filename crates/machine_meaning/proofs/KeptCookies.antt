-- Cookies that matter: each stands once, or was deleted and isn't reported, and these are what is counted.
use Rattle.std.proofs.Common.{◌≡◌, ◌∙◌, ℕ, ◌+◌, ◌<◌, ◌≤◌, ◌^◌, ◌==◌, Bool, true, false, true≢false, not, ◌&&◌, ◌||◌}
use Rattle.std.proofs.Common.{List, [], length, Option, Some, None, if◌then◌else◌, nat_lt, nat_cmp, arith, refl, sym}
use Rattle.std.proofs.Common.{ap, ap₂, subst, eq-eqb, eqb-true}
use Rattle.std.specs.Prelude.{option_map, slice_get, unwrap_or}
use Rattle.std.specs.BTreeMap.{is_at}
use Rattle.std.specs.List.{AllByRecursion}
use Rattle.std.specs.Option.{option_map_or}
use Rattle.std.specs.Set.{remove_key}
use Rattle.std.proofs.lemmas.Bool.{eqb-false, ne_eqb}
use Rattle.install_plan.specs.declared.written.Written.{Written}
use Rattle.policy_meaning.proofs.Booleans.{some_injective}
use Rattle.stats_map.specs.Counting.{CountsOf, downed, reported}
use Rattle.stats_map.proofs.Rows.{at}
use Rattle.switch_meaning.specs.Counts.{Numbers}
use Rattle.switch_state.specs.Known.{KnownOf, is_outstanding, nothing_known}
use Rattle.switch_state.specs.Reports.{after_removal, flow_removed, removal}
use Rattle.switch_state.specs.declared.removal.Removal.{Removal}
use Rattle.switch_state.specs.declared.removal.Removal.TheVariants.{Ignored, Strange, Taken}
use Rattle.machine_meaning.specs.Barriers.{with_known}
use Rattle.machine_meaning.specs.Lists.{changed_at}
use Rattle.machine_meaning.specs.Rounds.{begun_switch, emptied_at, ended_switch}
use Rattle.machine_meaning.specs.Sound.{IsOutbox}
use Rattle.machine_meaning.specs.States.{SwitchOf}
use Rattle.machine_meaning.proofs.Composed.{elsewhere}
use Rattle.machine_meaning.proofs.CountEffects.{Rises, at_both, down_has, down_rises, has, last_has, last_rises}
use Rattle.machine_meaning.proofs.CountWrites.{cookied}
use Rattle.machine_meaning.proofs.Numbered.{at_changed}
use Rattle.machine_meaning.proofs.Tallies.{one}
use Rattle.machine_meaning.proofs.Times.{long_at, none_beside, removed_times, times}

-- cookies by switches -----------------------------------------------------------------------------------------------

-- what stands on a switch, and the cookies that were deleted there and aren't reported
abbrev pub standing_in : List (List Written) → ℕ → List Written
standing_in standing n = unwrap_or (slice_get standing n) []

abbrev pub deleted_in : List SwitchOf → ℕ → List ℕ
deleted_in switches n = option_map_or (λ (x : SwitchOf). x.known.deleted) (slice_get switches n) []

-- how often a cookie of a switch matters
abbrev pub marks : List (List Written) → List SwitchOf → ℕ → ℕ → ℕ
marks standing switches n c = cookied c (standing_in standing n) + times c (deleted_in switches n)

-- a switch that is down is as if it had never been up, and what stands on one that is up was written in its round
pub record IsKeptSide (stood : List Written) (next : ℕ) (x : SwitchOf) : Type 0 where
  pub outbox : IsOutbox x.outbox
  pub down : x.outbox.up ≡ false → (x.known ≡ nothing_known 0) × (stood ≡ [])
  pub xid : x.known.xid < 2 ^ 32
  pub begun : x.known.first ≤ next
  pub cookies : AllByRecursion (λ (w : Written). x.known.first ≤ w.cookie) stood

-- each cookie matters once, and was written before the next one; and the counts are of these
pub record AreKeptCookies (standing : List (List Written)) (switches : List SwitchOf) (counts : CountsOf) (next : ℕ) :
    Type 0 where
  pub long : length standing ≡ length switches
  pub sides :
      (n : ℕ) (x : SwitchOf) → slice_get switches n ≡ Some x → IsKeptSide (standing_in standing n) next x
  pub rises : Rises counts
  pub once : (n c : ℕ) → marks standing switches n c ≤ 1
  pub below : (n c : ℕ) → 0 < marks standing switches n c → c < next
  pub live : (n c : ℕ) → has (n, c) counts ≡ nat_lt 0 (marks standing switches n c)

-- lists -------------------------------------------------------------------------------------------------------------

emptied_in : (n : ℕ) (standing : List (List Written)) → standing_in (emptied_at n standing) n ≡ []
emptied_in n standing = ap (λ o. unwrap_or o []) (at_changed n (λ old. []) standing) ∙ by (slice_get standing n)
  where
    by : (o : Option (List Written)) → unwrap_or {T = List Written} (option_map (λ (old : List Written). []) o) [] ≡ []
    by None = refl
    by (Some old) = refl

-- one switch changes ------------------------------------------------------------------------------------------------

-- what is to be said of the switch that changes, where all others stay as they are
pub record IsChange (standing : List (List Written)) (switches : List SwitchOf) (counts : CountsOf) (next : ℕ)
    (standing' : List (List Written)) (switches' : List SwitchOf) (counts' : CountsOf) (next' n : ℕ) : Type 0 where
  pub long : length standing' ≡ length switches'
  pub rises : Rises counts'
  pub more : next ≤ next'
  pub stood : (m : ℕ) → (n == m) ≡ false → slice_get standing' m ≡ slice_get standing m
  pub switch : (m : ℕ) → (n == m) ≡ false → slice_get switches' m ≡ slice_get switches m
  pub counted : (m c : ℕ) → (n == m) ≡ false → has (m, c) counts' ≡ has (m, c) counts
  pub side : (x : SwitchOf) → slice_get switches' n ≡ Some x → IsKeptSide (standing_in standing' n) next' x
  pub once : (c : ℕ) → marks standing' switches' n c ≤ 1
  pub below : (c : ℕ) → 0 < marks standing' switches' n c → c < next'
  pub live : (c : ℕ) → has (n, c) counts' ≡ nat_lt 0 (marks standing' switches' n c)

module _ (standing : List (List Written)) (switches : List SwitchOf) (counts : CountsOf) (next : ℕ)
    (standing' : List (List Written)) (switches' : List SwitchOf) (counts' : CountsOf) (next' n : ℕ)
    (h : AreKeptCookies standing switches counts next)
    (c : IsChange standing switches counts next standing' switches' counts' next' n) where
  same_marks : (m k : ℕ) → (n == m) ≡ false → marks standing' switches' m k ≡ marks standing switches m k
  same_marks m k e =
      ap₂ (λ (o : Option (List Written)) (p : Option SwitchOf).
      cookied k (unwrap_or o []) + times k (option_map_or (λ (x : SwitchOf). x.known.deleted) p []))
      (c.stood m e) (c.switch m e)

  -- what holds of the switch that changes, and of the others, holds of each
  each : (P : ℕ → Type 0) → P n → ((m : ℕ) → (n == m) ≡ false → P m) → (m : ℕ) → P m
  each P own other m = by (n == m) refl
    where
      by : (b : Bool) → (n == m) ≡ b → P m
      by true t = subst P (eqb-true n m t) own
      by false f = other m f

  pub changed_cookies : AreKeptCookies standing' switches' counts' next'
  changed_cookies = record {
    long = c.long;
    sides = each (λ m. (x : SwitchOf) → slice_get switches' m ≡ Some x → IsKeptSide (standing_in standing' m) next' x)
        c.side
        (λ m e x at.
        let old = h.sides m x (sym (c.switch m e) ∙ at) in
        let begun = old.begun in
        let more = c.more in
        subst (λ (o : Option (List Written)). IsKeptSide (unwrap_or o []) next' x) (sym (c.stood m e))
        (record {
          outbox = old.outbox;
          down = old.down;
          xid = old.xid;
          begun = omega (arith, begun, more);
          cookies = old.cookies;
        }));
    rises = c.rises;
    once = each (λ m. (k : ℕ) → marks standing' switches' m k ≤ 1) c.once
        (λ m e k. let s = same_marks m k e in let o = h.once m k in omega (arith, s, o));
    below = each (λ m. (k : ℕ) → 0 < marks standing' switches' m k → k < next') c.below
        (λ m e k lt.
        let s = same_marks m k e in
        let b = h.below m k (omega (arith, s, lt)) in
        let more = c.more in
        omega (arith, b, more));
    live = each (λ m. (k : ℕ) → has (m, k) counts' ≡ nat_lt 0 (marks standing' switches' m k)) c.live
        (λ m e k. c.counted m k e ∙ (h.live m k ∙ ap (nat_lt 0) (sym (same_marks m k e))));
  }

-- nothing is marked
none_marked : (c next : ℕ) (m : ℕ) → m ≡ 0 → 0 < m → c < next
none_marked c next m e lt = absurd (omega (arith, e, lt))

-- rounds that end and begin -----------------------------------------------------------------------------------------

module _ (standing : List (List Written)) (switches : List SwitchOf) (counts : CountsOf) (next : ℕ)
    (h : AreKeptCookies standing switches counts next) (n : ℕ) where
  -- a switch that is turned, and has no cookies
  module _ (f : SwitchOf → SwitchOf) (bare : (x : SwitchOf) → (f x).known.deleted ≡ []) where
    no_marks : (c : ℕ) → marks (emptied_at n standing) (changed_at n f switches) n c ≡ 0
    no_marks c =
        let s = ap (cookied c) (emptied_in n standing) in
        let d : times c (deleted_in (changed_at n f switches) n) ≡ 0 =
        ap (λ (o : Option SwitchOf). times c (option_map_or (λ (x : SwitchOf). x.known.deleted) o []))
        (at_changed n f switches) ∙ by (slice_get switches n) in
        omega (arith, s, d)
      where
        by : (o : Option SwitchOf)
            → times c (option_map_or (λ (x : SwitchOf). x.known.deleted) (option_map f o) []) ≡ 0
        by None = refl
        by (Some x) = ap (times c) (bare x)

    turned : ((x : SwitchOf) → slice_get switches n ≡ Some x → IsKeptSide [] next (f x)) → (counts' : CountsOf)
        → Rises counts' → ((m c : ℕ) → (n == m) ≡ false → has (m, c) counts' ≡ has (m, c) counts)
        → ((c : ℕ) → has (n, c) counts' ≡ false)
        → AreKeptCookies (emptied_at n standing) (changed_at n f switches) counts' next
    turned side counts' rises others none =
        changed_cookies standing switches counts next (emptied_at n standing) (changed_at n f switches) counts' next n
        h
        (record {
          long = long_at n (λ old. []) standing ∙ (h.long ∙ sym (long_at n f switches));
          rises = rises;
          more = omega arith;
          stood = λ m e. elsewhere n m (λ old. []) standing e;
          switch = λ m e. elsewhere n m f switches e;
          counted = others;
          side = λ x at.
              subst (λ (ws : List Written). IsKeptSide ws next x) (sym (emptied_in n standing))
              (of (slice_get switches n) refl x (sym (at_changed n f switches) ∙ at));
          once = λ c. let z = no_marks c in omega (arith, z);
          below = λ c lt.
              none_marked c next (marks (emptied_at n standing) (changed_at n f switches) n c) (no_marks c) lt;
          live = λ c. none c ∙ ap (nat_lt 0) (sym (no_marks c));
        })
      where
        of : (o : Option SwitchOf) → slice_get switches n ≡ o → (x : SwitchOf) → option_map f o ≡ Some x
            → IsKeptSide [] next x
        of None at x e = absurd (cc e)
        of (Some y) at x e = subst (IsKeptSide [] next) (some_injective e) (side y at)

  pub ended_cookies :
      AreKeptCookies (emptied_at n standing) (changed_at n ended_switch switches) (downed n counts) next
  ended_cookies =
      turned ended_switch (λ x. refl)
      (λ x at. record {
        outbox = λ e. refl;
        down = λ e. (refl, refl);
        xid = omega arith;
        begun = omega arith;
        cookies = tt;
      })
      (downed n counts) (down_rises n counts h.rises)
      (λ m c e. down_has n counts h.rises (m, c) ∙ ap (λ (b : Bool). not b && has (m, c) counts) (other m e))
      (λ c. down_has n counts h.rises (n, c) ∙ ap (λ (b : Bool). not b && has (n, c) counts) (eq-eqb n n refl))
    where
      other : (m : ℕ) → (n == m) ≡ false → (m == n) ≡ false
      other m e = ne_eqb m n (λ f. eqb-false n m e (sym f))

  -- where the switch is down no cookie of it is counted
  down_unmarked : ((x : SwitchOf) → slice_get switches n ≡ Some x → x.outbox.up ≡ false) → (c : ℕ)
      → marks standing switches n c ≡ 0
  down_unmarked down c = by (slice_get switches n) refl
    where
      by : (o : Option SwitchOf) → slice_get switches n ≡ o → marks standing switches n c ≡ 0
      by None at =
          let s = ap (λ (p : Option (List Written)). cookied c (unwrap_or p []))
          (none_beside switches standing n h.long at) in
          let d = ap (λ (p : Option SwitchOf). times c (option_map_or (λ (x : SwitchOf). x.known.deleted) p [])) at in
          omega (arith, s, d)
      by (Some x) at =
          let off = (h.sides n x at).down (down x at) in
          let s = ap (cookied c) off.1 in
          let d = ap (λ (p : Option SwitchOf). times c (option_map_or (λ (x : SwitchOf). x.known.deleted) p [])) at in
          let z = ap (λ (k : KnownOf). times c k.deleted) off.0 in
          omega (arith, s, d, z)

  pub begun_cookies : ((x : SwitchOf) → slice_get switches n ≡ Some x → x.outbox.up ≡ false)
      → AreKeptCookies (emptied_at n standing) (changed_at n (begun_switch next) switches) counts next
  begun_cookies down =
      turned (begun_switch next) (λ x. refl)
      (λ x at. record {
        outbox = λ e. absurd (true≢false e);
        down = λ e. absurd (true≢false e);
        xid = omega arith;
        begun = omega arith;
        cookies = tt;
      })
      counts h.rises (λ m c e. refl) (λ c. h.live n c ∙ ap (nat_lt 0) (down_unmarked down c))

  -- what is known of a switch that is up ----------------------------------------------------------------------------

  -- knowledge of a switch that is up changes, and what is counted of it
  known_change : (f : KnownOf → KnownOf) (x : SwitchOf) → slice_get switches n ≡ Some x → x.outbox.up ≡ true
      → (f x.known).xid < 2 ^ 32 → (f x.known).first ≡ x.known.first → (counts' : CountsOf) → Rises counts'
      → ((m c : ℕ) → (n == m) ≡ false → has (m, c) counts' ≡ has (m, c) counts)
      → ((c : ℕ) → times c (f x.known).deleted ≤ times c x.known.deleted)
      → ((c : ℕ) → has (n, c) counts' ≡ nat_lt 0 (cookied c (standing_in standing n) + times c (f x.known).deleted))
      → AreKeptCookies standing (changed_at n (with_known f) switches) counts' next
  known_change f x at up xid first counts' rises others fewer own =
      changed_cookies standing switches counts next standing (changed_at n (with_known f) switches) counts' next n h
      (record {
        long = h.long ∙ sym (long_at n (with_known f) switches);
        rises = rises;
        more = omega arith;
        stood = λ m e. refl;
        switch = λ m e. elsewhere n m (with_known f) switches e;
        counted = others;
        side = λ y e. subst (IsKeptSide (standing_in standing n) next) (some_injective (sym now ∙ e)) side;
        once = λ c. let e = is c in let le = fewer c in let o = h.once n c in let w = was c in
            omega (arith, e, le, o, w);
        below = λ c lt.
            let e = is c in let le = fewer c in let w = was c in h.below n c (omega (arith, e, le, w, lt));
        live = λ c. own c ∙ ap (nat_lt 0) (sym (is c));
      })
    where
      now : slice_get (changed_at n (with_known f) switches) n ≡ Some (with_known f x)
      now = at_changed n (with_known f) switches ∙ ap (option_map (with_known f)) at

      is : (c : ℕ) → marks standing (changed_at n (with_known f) switches) n c
          ≡ cookied c (standing_in standing n) + times c (f x.known).deleted
      is c =
          ap (λ (o : Option SwitchOf).
          cookied c (standing_in standing n) + times c (option_map_or (λ (y : SwitchOf). y.known.deleted) o [])) now

      was : (c : ℕ) → marks standing switches n c ≡ cookied c (standing_in standing n) + times c x.known.deleted
      was c =
          ap (λ (o : Option SwitchOf).
          cookied c (standing_in standing n) + times c (option_map_or (λ (y : SwitchOf). y.known.deleted) o [])) at

      side : IsKeptSide (standing_in standing n) next (with_known f x)
      side =
          let old = h.sides n x at in
          let begun = old.begun in
          record {
            outbox = old.outbox;
            down = λ e. absurd (true≢false (sym up ∙ e));
            xid = xid;
            begun = omega (arith, begun, first);
            cookies =
                subst (λ (k : ℕ). AllByRecursion (λ (w : Written). k ≤ w.cookie) (standing_in standing n)) (sym first)
                old.cookies;
          }

  was_live : (x : SwitchOf) → slice_get switches n ≡ Some x → (c : ℕ)
      → has (n, c) counts ≡ nat_lt 0 (cookied c (standing_in standing n) + times c x.known.deleted)
  was_live x at c =
      h.live n c
      ∙ ap (λ (o : Option SwitchOf). nat_lt 0
      (cookied c (standing_in standing n) + times c (option_map_or (λ (y : SwitchOf). y.known.deleted) o []))) at

  pub known_cookies : (f : KnownOf → KnownOf) (x : SwitchOf) → slice_get switches n ≡ Some x → x.outbox.up ≡ true
      → (f x.known).xid < 2 ^ 32 → (f x.known).first ≡ x.known.first → (f x.known).deleted ≡ x.known.deleted
      → AreKeptCookies standing (changed_at n (with_known f) switches) counts next
  known_cookies f x at up xid first same =
      known_change f x at up xid first counts h.rises (λ m c e. refl)
      (λ c. let e = ap (times c) same in omega (arith, e))
      (λ c. was_live x at c
      ∙ ap (λ (ds : List ℕ). nat_lt 0 (cookied c (standing_in standing n) + times c ds)) (sym same))

  -- the removal of a cookie is taken
  outstanding : (x : KnownOf) (cookie : ℕ) → removal x cookie ≡ Taken → is_outstanding x cookie ≡ true
  outstanding x cookie e = by (not x.answered || nat_lt cookie x.first) (is_outstanding x cookie) refl e
    where
      by : (a b : Bool) → is_outstanding x cookie ≡ b → (if a then Ignored else (if b then Taken else Strange)) ≡ Taken
          → is_outstanding x cookie ≡ true
      by true b f g = absurd (cc g)
      by false true f g = f
      by false false f g = absurd (cc g)

  pub removed_cookies : (cookie : ℕ) (numbers : Numbers) (x : SwitchOf) → slice_get switches n ≡ Some x
      → x.outbox.up ≡ true → removal x.known cookie ≡ Taken
      → AreKeptCookies standing (changed_at n (with_known (flow_removed cookie)) switches)
      (reported (n, cookie) numbers true counts) next
  removed_cookies cookie numbers x at up taken =
      let is : flow_removed cookie x.known ≡ after_removal Taken cookie x.known =
      ap (λ (r : Removal). after_removal r cookie x.known) taken in
      let xid = (h.sides n x at).xid in
      known_change (flow_removed cookie) x at up
      (subst (λ (k : KnownOf). k.xid < 2 ^ 32) (sym is) xid) (ap (λ (k : KnownOf). k.first) is)
      (reported (n, cookie) numbers true counts) (last_rises (n, cookie) numbers counts h.rises)
      (λ m c e. last_has (n, cookie) numbers counts h.rises (m, c)
      ∙ ap (λ (b : Bool). not b && has (m, c) counts)
      (at_both (n, cookie) (m, c) ∙ ap (λ (b : Bool). b && (cookie == c)) e))
      (λ c. let left = ap (λ (k : KnownOf). times c k.deleted) is in let gone = less c in omega (arith, left, gone))
      (λ c. last_has (n, cookie) numbers counts h.rises (n, c)
      ∙ (ap (λ (b : Bool). not b && has (n, c) counts)
      (at_both (n, cookie) (n, c) ∙ ap (λ (b : Bool). b && (cookie == c)) (eq-eqb n n refl))
      ∙ (ap (λ (b : Bool). not (cookie == c) && b) (was_live x at c)
      ∙ (now c (cookie == c) refl
      ∙ ap (λ (k : KnownOf). nat_lt 0 (cookied c (standing_in standing n) + times c k.deleted)) (sym is)))))
    where
      left : List ℕ
      left = remove_key (is_at (nat_cmp cookie)) x.known.deleted

      less : (c : ℕ) → times c left + one (cookie == c) ≡ times c x.known.deleted
      less c = removed_times cookie c x.known.deleted (outstanding x.known cookie taken)

      few : (c : ℕ) → cookied c (standing_in standing n) + times c x.known.deleted ≤ 1
      few c =
          let o = h.once n c in
          let e = ap (λ (o : Option SwitchOf). cookied c (standing_in standing n)
          + times c (option_map_or (λ (y : SwitchOf). y.known.deleted) o [])) at in
          omega (arith, o, e)

      now : (c : ℕ) (b : Bool) → (cookie == c) ≡ b
          → (not b && nat_lt 0 (cookied c (standing_in standing n) + times c x.known.deleted))
          ≡ nat_lt 0 (cookied c (standing_in standing n) + times c left)
      now c true e =
          let l = less c in let f = few c in let o = ap one e in
          let z : cookied c (standing_in standing n) + times c left ≡ 0 = omega (arith, l, f, o) in
          ap (nat_lt 0) (sym z)
      now c false e =
          let l = less c in let o = ap one e in
          let z : cookied c (standing_in standing n) + times c x.known.deleted
          ≡ cookied c (standing_in standing n) + times c left = omega (arith, l, o) in
          ap (nat_lt 0) z
