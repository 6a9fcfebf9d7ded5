-- Counts and what is owed are sound after an event that goes through the phases.
use Rattle.std.proofs.Common.{◌≡◌, ◌∙◌, ℕ, ◌-◌, ◌<◌, ◌≤◌, ◌^◌, ◌⊎◌, inl, inr, ⊎_elim, Bool, true, false, true≢false}
use Rattle.std.proofs.Common.{not, ◌&&◌, ◌||◌, List, [], ◌∷◌, filter, nat_lt, cond, arith, refl, sym, ap, ap₂, Option}
use Rattle.std.proofs.Common.{is_some, subst, ltb-true}
use Rattle.std.specs.List.{AllByRecursion, list_any}
use Rattle.std.specs.List.Sorted.{IsStrictlySortedBy}
use Rattle.std.specs.Map.{keys_of, lookup, values_of}
use Rattle.std.specs.Option.{option_map_or}
use Rattle.cv_io.specs.declared.leaf.Leaf.{Leaf}
use Rattle.member_table.specs.Tables.{TableOf}
use Rattle.policies.specs.Policies.{PolicyOf}
use Rattle.stats_map.specs.Counting.{Cookies, CountsOf, is_named, place_cmp}
use Rattle.stats_map.proofs.Rows.{at}
use Rattle.switch_meaning.specs.Counts.{names}
use Rattle.machine_meaning.specs.Composing.{compose}
use Rattle.machine_meaning.specs.Counted.{dropped_between, is_one_of, leaf_at, leaf_of, leaves_of}
use Rattle.machine_meaning.specs.Drafts.{Draft}
use Rattle.machine_meaning.specs.Hearing.{heard}
use Rattle.machine_meaning.specs.Phases.{draft_of, settled_of}
use Rattle.machine_meaning.specs.Putting.{put}
use Rattle.machine_meaning.specs.Requests.{request_all}
use Rattle.machine_meaning.specs.Rounds.{Closing}
use Rattle.machine_meaning.specs.Sound.{AreSoundCounts, IsSoundOwed, IsSoundState, is_counted, next_of}
use Rattle.machine_meaning.specs.States.{MemberOf, State}
use Rattle.machine_meaning.specs.Telling.{may_go, tell_ports, tell_removals}
use Rattle.events.specs.declared.event.Event.{Event}
use Rattle.machine_meaning.specs.declared.state.Owed.{Owed}
use Rattle.machine_meaning.proofs.ComposedCounts.{AreWritten, IsInTable, composed_written}
use Rattle.machine_meaning.proofs.CountEffects.{IsKeptLeaf, no_numbers}
use Rattle.machine_meaning.proofs.Forgetting.{dropped_is, forgot_live, forgot_marks, forgot_none, forgot_total}
use Rattle.machine_meaning.proofs.Forgetting.{is_dropped}
use Rattle.machine_meaning.proofs.KeptCookies.{AreKeptCookies}
use Rattle.machine_meaning.proofs.KeptLeaves.{entries_in, is_owed, leaves, next_in, table_in}
use Rattle.machine_meaning.proofs.KeptRequests.{AreRequested, all_requested, requested_next}
use Rattle.machine_meaning.proofs.LeafTallies.{leaf_counted, tallied_once}
use Rattle.machine_meaning.proofs.Moves.{numbered}
use Rattle.machine_meaning.proofs.PutStates.{put_cookies, put_table}
use Rattle.machine_meaning.proofs.Steady.{IsSteady, mattered, steady}
use Rattle.machine_meaning.proofs.SteadyStarts.{heard_alike, matters, next_same, starts}
use Rattle.machine_meaning.proofs.Tallies.{tally, tally_fewer}
use Rattle.machine_meaning.proofs.Traversals.{settled_holds}
use Rattle.machine_meaning.proofs.Unchanged.{all_weaker}
use Rattle.machine_meaning.proofs.Views.{IsHeard, view_of}

-- the same cookies are kept where counts have them
with_counts : (d : State) (counts : CountsOf) → counts.live ≡ d.counts.live
    → AreKeptCookies d.standing d.switches d.counts d.next_cookie
    → AreKeptCookies d.standing d.switches counts d.next_cookie
with_counts d counts same h = record {
  long = h.long;
  sides = h.sides;
  rises = subst (λ (es : Cookies). IsStrictlySortedBy place_cmp (keys_of es)) (sym same) h.rises;
  once = h.once;
  below = h.below;
  live = λ n c. ap (λ (es : Cookies). is_some (lookup (at (n, c)) es)) same ∙ h.live n c;
}

passing : {X : Type 0} (g : X → Bool) (xs : List X) → AllByRecursion (λ x. g x ≡ true) (filter g xs)
passing g [] = tt
passing g (x ∷ xs) = by (g x) refl (passing g xs)
  where
    by : (b : Bool) → g x ≡ b → AllByRecursion (λ y. g y ≡ true) (filter g xs)
        → AllByRecursion (λ y. g y ≡ true) (cond b (x ∷ filter g xs) (filter g xs))
    by true e r = (e, r)
    by false e r = r

only_left : (A B : Type 0) → (B → ⊥) → A ⊎ B → A
only_left A B none (inl a) = a
only_left A B none (inr b) = absurd (none b)

some_of : (n : ℕ) → nat_lt 0 n ≡ true → 0 < n
some_of n e = ltb-true 0 n e

none_of : (n : ℕ) → nat_lt 0 n ≡ false → n ≡ 0
none_of n e = grind (arith, e)

module _ (p : PolicyOf) (s : State) (sound : IsSoundState p s) (e : Event) (c : Closing)
    (there : IsHeard (heard s e) e) (left : (draft_of p (heard s e) e c).state.next_cookie < 2 ^ 64 - 1) where
  abbrev start : State
  start = heard s e

  abbrev settled : Draft
  settled = settled_of p start e c

  abbrev composed : Draft
  composed = compose p settled

  abbrev requested : Draft
  requested = request_all p composed

  abbrev told : Draft
  told = tell_removals (tell_ports p start requested)

  abbrev final : Draft
  final = draft_of p start e c

  abbrev last : State
  last = put p final

  pub middle : IsSteady (view_of start) (view_of settled.state)
  middle = settled_holds (IsSteady (view_of start)) (steady (view_of start)) p start e c there (starts p s sound e)

  written : AreWritten (IsInTable settled.state.members) (view_of settled.state) composed
  written =
      composed_written p settled middle.cookies
      (let w = sound.written.1 in let same = middle.next in omega (arith, w, same))
      (let same = requested_next p composed in omega (arith, same, left))

  asked : AreRequested composed.state requested.state
  asked =
      all_requested composed.state p composed
      (record { members = refl; owed = refl; counts = refl; next = refl; cookies = written.cookies })

  -- counts of what was requested
  abbrev counts : CountsOf
  counts = requested.state.counts

  named : (leaf : Leaf) → is_named counts leaf ≡ true
      → (is_named settled.state.counts leaf ≡ true) ⊎ IsInTable settled.state.members leaf
  named leaf t = written.named leaf (ap (λ (d : CountsOf). is_named d leaf) (sym asked.counts) ∙ t)

  more : (leaf : Leaf) → is_named settled.state.counts leaf ≡ true → is_named counts leaf ≡ true
  more leaf t = ap (λ (d : CountsOf). is_named d leaf) asked.counts ∙ written.more leaf t

  abbrev dropped : List Leaf
  dropped = dropped_between start told.state

  last_named : (leaf : Leaf) → is_named last.counts leaf ≡ is_named counts leaf
  last_named leaf =
      ap (λ (es : Cookies). list_any (names leaf) (values_of es)) (forgot_live dropped counts)

  pub last_cookies : AreKeptCookies last.standing last.switches last.counts last.next_cookie
  last_cookies =
      put_cookies final final.state.standing final.state.switches final.state.counts final.state.next_cookie
      (with_counts requested.state last.counts (forgot_live dropped counts) asked.cookies)

  -- members and what is owed
  same_members : requested.state.members ≡ settled.state.members
  same_members = asked.members ∙ written.members

  same_owed : requested.state.owed ≡ settled.state.owed
  same_owed = asked.owed ∙ written.owed

  last_table : (n : ℕ) → table_in last.members n ≡ table_in settled.state.members n
  last_table n = put_table final requested.state.members n ∙ ap (λ (ms : List MemberOf). table_in ms n) same_members

  last_next : (n : ℕ) → next_in last.members n ≡ next_in settled.state.members n
  last_next n = ap (λ (o : Option TableOf). option_map_or (λ (t : TableOf). t.next) o 0) (last_table n)

  last_entries : (n k : ℕ) → numbered k (entries_in last.members n) ≡ numbered k (entries_in settled.state.members n)
  last_entries n k =
      ap (λ (o : Option TableOf). numbered k (option_map_or (λ (t : TableOf). t.entries) o [])) (last_table n)

  last_owed : (n k : ℕ) → tally (is_owed n k) last.owed ≤ tally (is_owed n k) settled.state.owed
  last_owed n k =
      let few = tally_fewer (is_owed n k) (λ (o : Owed). not (may_go requested.state o)) requested.state.owed in
      let same = ap (tally (is_owed n k)) same_owed in
      omega (arith, few, same)

  fewer : (n k : ℕ) → leaves last.members last.owed n k ≤ leaves settled.state.members settled.state.owed n k
  fewer n k = let a = last_entries n k in let b = last_owed n k in omega (arith, a, b)

  given_first : (n k : ℕ) → is_named start.counts (leaf_at n k) ≡ true → k < next_in start.members n
  given_first n k t =
      let same = heard_alike s e in
      let given = sound.counts.given n k (sym (same.named (leaf_at n k)) ∙ t) in
      let next = next_same s n in
      omega (arith, given, next)

  -- one leaf
  module _ (n k : ℕ) where
    abbrev q : Leaf
    q = leaf_at n k

    abbrev was : Bool
    was = mattered (view_of start) n k

    abbrev now : Bool
    now = nat_lt 0 (leaves last.members last.owed n k)

    old : IsKeptLeaf q was start.counts settled.state.counts
    old = middle.counts n k

    is_gone : is_dropped q dropped ≡ (was && not now)
    is_gone =
        dropped_is q (λ leaf. not (is_one_of (leaves_of told.state) leaf)) (leaves_of start)
        ∙ ap₂ (λ (a b : Bool). a && not b) (leaf_counted start.members start.owed n k)
        (leaf_counted requested.state.members told.state.owed n k ∙ ap (nat_lt 0) same)
      where
        same : leaves requested.state.members told.state.owed n k ≡ leaves last.members last.owed n k
        same =
            let t = ap (λ (o : Option TableOf). numbered k (option_map_or (λ (t : TableOf). t.entries) o []))
            (put_table final requested.state.members n) in
            omega (arith, t)

    marked : counts.forgotten q ≡ (not was && is_named settled.state.counts q)
    marked = ap (λ (d : CountsOf). d.forgotten q) asked.counts ∙ (written.forgotten q ∙ old.forgotten)

    total : counts.totals q ≡ settled.state.counts.totals q
    total = ap (λ (d : CountsOf). d.totals q) asked.counts ∙ written.totals q

    then_forgotten : last.counts.forgotten q
        ≡ (((was && not now) || (not was && is_named settled.state.counts q)) && is_named counts q)
    then_forgotten =
        forgot_marks q dropped counts
        (ap (λ (b : Bool). b && is_named counts q) marked
        ∙ (by was (is_named settled.state.counts q) (is_named counts q) (more q) ∙ sym marked))
        ∙ ap₂ (λ (a b : Bool). (a || b) && is_named counts q) is_gone marked
      where
        by : (a b d : Bool) → (b ≡ true → d ≡ true) → ((not a && b) && d) ≡ (not a && b)
        by true b d h = refl
        by false true d h = h refl
        by false false d h = refl

    -- a leaf that matters now and didn't isn't named
    new_leaf : was ≡ false → now ≡ true → is_named settled.state.counts q ≡ false
    new_leaf w t = by (is_named settled.state.counts q) refl
      where
        by : (b : Bool) → is_named settled.state.counts q ≡ b → b ≡ false
        by false f = refl
        by true f =
            let lt = given_first n k (old.named f) in
            let le = middle.leaves.old n k lt in
            let none = none_of (leaves start.members start.owed n k) w in
            let some = some_of (leaves last.members last.owed n k) t in
            let few = fewer n k in
            absurd (omega (arith, le, none, some, few))

    -- a leaf that doesn't matter is in no table
    no_table : now ≡ false → IsInTable settled.state.members q → ⊥
    no_table f t =
        let lt = t n k refl in
        let none = none_of (leaves last.members last.owed n k) f in
        let same = last_entries n k in
        omega (arith, lt, none, same)

    named_before : now ≡ false → is_named counts q ≡ true → is_named settled.state.counts q ≡ true
    named_before f t =
        only_left (is_named settled.state.counts q ≡ true) (IsInTable settled.state.members q) (no_table f) (named q t)

    kept_now : now ≡ true → last.counts.forgotten q ≡ false
    kept_now t = then_forgotten ∙ by was refl
      where
        by : (w : Bool) → was ≡ w
            → (((w && not now) || (not w && is_named settled.state.counts q)) && is_named counts q) ≡ false
        by true w = ap (λ (b : Bool). (not b || false) && is_named counts q) t
        by false w = ap (λ (b : Bool). b && is_named counts q) (new_leaf w t)

    going_now : now ≡ false → last.counts.forgotten q ≡ is_named last.counts q
    going_now f = then_forgotten ∙ (by was refl ∙ sym (last_named q))
      where
        by : (w : Bool) → was ≡ w
            → (((w && not now) || (not w && is_named settled.state.counts q)) && is_named counts q) ≡ is_named counts q
        by true w = ap (λ (b : Bool). (not b || false) && is_named counts q) f
        by false w = named_too (is_named counts q) refl
          where
            named_too : (b : Bool) → is_named counts q ≡ b → (is_named settled.state.counts q && b) ≡ b
            named_too true t = ap (λ (x : Bool). x && true) (named_before f t)
            named_too false t = either (is_named settled.state.counts q)
              where
                either : (a : Bool) → (a && false) ≡ false
                either true = refl
                either false = refl

    gone_now : now ≡ false → is_named last.counts q ≡ false → last.counts.totals q ≡ no_numbers
    gone_now f z = by was refl
      where
        unnamed : is_named counts q ≡ false
        unnamed = sym (last_named q) ∙ z

        before : (b : Bool) → is_named settled.state.counts q ≡ b → b ≡ false
        before true t = absurd (true≢false (sym (more q t) ∙ unnamed))
        before false t = refl

        by : (w : Bool) → was ≡ w → last.counts.totals q ≡ no_numbers
        by true w =
            forgot_total q dropped counts (is_gone ∙ ap₂ (λ (a b : Bool). a && not b) w f) unnamed
        by false w =
            forgot_none q dropped counts (total ∙ old.totals w (before (is_named settled.state.counts q) refl))

    given_now : is_named last.counts q ≡ true → k < next_of last n
    given_now t =
        let next = next_same last n in
        let is = last_next n in
        let lt = ⊎_elim
        (λ u. let a = given_first n k (old.named u) in let b = middle.leaves.next n in
        let r : k < next_in settled.state.members n = omega (arith, a, b) in r)
        (λ u. let some = u n k refl in middle.leaves.given n k (omega (arith, some)))
        (named q (sym (last_named q) ∙ t)) in
        omega (arith, next, is, lt)

  last_counted : (n k : ℕ) → is_counted last n k ≡ nat_lt 0 (leaves last.members last.owed n k)
  last_counted n k = leaf_counted last.members last.owed n k

  pub drafted_counts : AreSoundCounts last
  drafted_counts = record {
    sorted = last_cookies.rises;
    live = λ n d. last_cookies.live n d ∙ sym (matters last n d);
    once =
        tallied_once last.members last.owed
        (λ n k. let few = fewer n k in let once = middle.leaves.once n k in omega (arith, few, once));
    given = given_now;
    kept = λ n k t. kept_now n k (sym (last_counted n k) ∙ t);
    going = λ n k f. going_now n k (sym (last_counted n k) ∙ f);
    gone = λ n k f z. gone_now n k (sym (last_counted n k) ∙ f) z;
  }

  pub drafted_owed : AllByRecursion (IsSoundOwed last) last.owed
  drafted_owed =
      all_weaker (λ (o : Owed). not (may_go requested.state o) ≡ true) (IsSoundOwed last)
      (λ o t. last_named (leaf_of o.member o.entry) ∙ by (is_named counts (leaf_of o.member o.entry)) t) last.owed
      (passing (λ (o : Owed). not (may_go requested.state o)) requested.state.owed)
    where
      by : (b : Bool) → not (not b) ≡ true → b ≡ true
      by true t = refl
      by false t = absurd (true≢false (sym t))
