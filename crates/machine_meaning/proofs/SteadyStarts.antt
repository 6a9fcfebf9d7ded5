-- What holds of leaves, cookies and counts holds of a sound state in which an event is heard.
use Rattle.std.proofs.Common.{◌≡◌, ◌∙◌, ℕ, zero, suc, ◌+◌, ◌<◌, ◌≤◌, ◌==◌, Bool, true, false, true≢false, not, ◌&&◌}
use Rattle.std.proofs.Common.{◌||◌, List, [], ◌∷◌, ◌++◌, map, nat_lt, Option, Some, None, arith, refl, sym, ap, ap₂}
use Rattle.std.proofs.Common.{subst, eq-eqb, eqb-true, lt-ltb, ltb-true}
use Rattle.std.specs.Prelude.{fold, option_map, slice_get, unwrap_or}
use Rattle.std.specs.List.{AllByRecursion, list_any}
use Rattle.std.specs.Option.{option_map_or}
use Rattle.std.specs.List.Sorted.{IsStrictlySortedBy}
use Rattle.std.proofs.lemmas.Bool.{ne_eqb}
use Rattle.install_plan.specs.declared.written.Written.{Written}
use Rattle.member_table.specs.Entries.{has_serial}
use Rattle.member_table.specs.Tables.{TableOf}
use Rattle.member_table.specs.declared.entry.Entry.{Entry}
use Rattle.policies.specs.Policies.{PolicyOf}
use Rattle.policies.specs.declared.policy.MemberItem.{MemberItem}
use Rattle.policy_meaning.proofs.Booleans.{split_and}
use Rattle.stats_map.specs.Counting.{CountsOf, is_named, place_cmp}
use Rattle.switch_state.specs.Known.{is_outstanding}
use Rattle.machine_meaning.specs.Counted.{leaf_at}
use Rattle.machine_meaning.specs.Hearing.{Report, counts_told, heard, reports_in}
use Rattle.machine_meaning.specs.Sound.{IsOfRound, IsSoundOwed, IsSoundState, is_counted, matters_at, next_of}
use Rattle.machine_meaning.specs.States.{MemberOf, State, SwitchOf}
use Rattle.machine_meaning.specs.declared.state.Owed.{Owed}
use Rattle.events.specs.declared.event.Event.{Event}
use Rattle.machine_meaning.proofs.CountEffects.{AreAlike, IsKeptLeaf, alike, alike_both, alike_has, told_alike}
use Rattle.machine_meaning.proofs.CountWrites.{cookied}
use Rattle.machine_meaning.proofs.KeptCookies.{AreKeptCookies, deleted_in, marks, standing_in}
use Rattle.machine_meaning.proofs.KeptLeaves.{AreKeptLeaves, entries_in, is_owed, leaves, next_in}
use Rattle.machine_meaning.proofs.LeafTallies.{leaf_counted, once_tallied}
use Rattle.machine_meaning.proofs.Moves.{numbered}
use Rattle.machine_meaning.proofs.Steady.{IsSteady, mattered}
use Rattle.machine_meaning.proofs.Tallies.{distinct_tallied, one, tallied_any, tally, tally_alike, tally_both}
use Rattle.machine_meaning.proofs.Tallies.{tally_map}
use Rattle.machine_meaning.proofs.Unchanged.{all_weaker}
use Rattle.machine_meaning.proofs.Views.{view_of}
use Rattle.machine_meaning.proofs.Times.{is_at_number, none_beside, times}

-- what is heard -----------------------------------------------------------------------------------------------------

all_told : (reports : List Report) (c : CountsOf) → AreAlike c (fold counts_told c reports)
all_told [] c = alike c
all_told (r ∷ rs) c =
    alike_both c (counts_told c r) (fold counts_told (counts_told c r) rs) (told_alike r.place r.numbers c)
    (all_told rs (counts_told c r))

pub heard_alike : (s : State) (e : Event) → AreAlike s.counts (heard s e).counts
heard_alike s e = all_told (reports_in s e) s.counts

-- leaves ------------------------------------------------------------------------------------------------------------

-- where some item passes a test, what passing gives holds
pub passed : {X : Type 0} (P : Type 0) (p : X → Bool) (xs : List X) → AllByRecursion (λ x. p x ≡ true → P) xs
    → 0 < tally p xs → P
passed P p [] a lt = absurd (omega (arith, lt))
passed P p (x ∷ xs) a lt = by (p x) refl lt (passed P p xs a.1)
  where
    by : (b : Bool) → p x ≡ b → 0 < one b + tally p xs → (0 < tally p xs → P) → P
    by true e t r = a.0 e
    by false e t r = r (omega (arith, t))

pub next_same : (s : State) (n : ℕ) → next_of s n ≡ next_in s.members n
next_same s n = next_at s.members n
  where
    next_at : (ms : List MemberOf) (m : ℕ)
        → option_map_or (λ (x : MemberOf). x.kept.table.next) (slice_get ms m) 0 ≡ next_in ms m
    next_at [] m = refl
    next_at (x ∷ xs) zero = refl
    next_at (x ∷ xs) (suc m) = next_at xs m

flip : (a b : ℕ) → (a == b) ≡ (b == a)
flip a b = by (b == a) refl
  where
    by : (t : Bool) → (b == a) ≡ t → (a == b) ≡ t
    by true f = eq-eqb a b (sym (eqb-true b a f))
    by false f = ne_eqb a b (λ g. true≢false (sym (eq-eqb b a (sym g)) ∙ f))

pub joins : (q x y : ℕ) → (q == x) ≡ true → (q == y) ≡ true → (x == y) ≡ true
joins q x y e f = eq-eqb x y (sym (eqb-true q x e) ∙ eqb-true q y f)

-- the cookies of a switch, counted
pub of_switch : (s : State) (n c : ℕ) (x : SwitchOf) → slice_get s.switches n ≡ Some x
    → marks s.standing s.switches n c
    ≡ tally (λ d. c == d) (map (λ (w : Written). w.cookie) (standing_in s.standing n) ++ x.known.deleted)
of_switch s n c x at =
    let both = tally_both (λ d. c == d) (map (λ (w : Written). w.cookie) (standing_in s.standing n)) x.known.deleted in
    let made = tally_map (λ d. c == d) (λ (w : Written). w.cookie) (standing_in s.standing n) in
    let stood = tally_alike (λ (w : Written). c == w.cookie) (λ (w : Written). w.cookie == c) (λ w. flip c w.cookie)
    (standing_in s.standing n) in
    let gone = tally_alike (λ d. c == d) (λ d. d == c) (λ d. flip c d) x.known.deleted in
    let is = ap (λ (o : Option SwitchOf). times c (option_map_or (λ (y : SwitchOf). y.known.deleted) o [])) at in
    omega (arith, both, made, stood, gone, is)

-- a cookie matters where it is marked
pub matters : (s : State) (n c : ℕ) → matters_at s n c ≡ nat_lt 0 (marks s.standing s.switches n c)
matters s n c =
    ap₂ (λ (a b : Bool). a || b) (tallied_any (λ (w : Written). w.cookie == c) (standing_in s.standing n))
    (by (slice_get s.switches n)) ∙ joined (cookied c (standing_in s.standing n)) (times c (deleted_in s.switches n))
  where
    by : (o : Option SwitchOf) → option_map_or (λ (x : SwitchOf). is_outstanding x.known c) o false
        ≡ nat_lt 0 (times c (option_map_or (λ (x : SwitchOf). x.known.deleted) o []))
    by None = refl
    by (Some x) =
        ap (λ (test : ℕ → Bool). list_any test x.known.deleted) (λ i d. is_at_number c d i)
        ∙ tallied_any (λ d. d == c) x.known.deleted

    joined : (a b : ℕ) → (nat_lt 0 a || nat_lt 0 b) ≡ nat_lt 0 (a + b)
    joined zero b = ap (nat_lt 0) (let z : b ≡ 0 + b = omega arith in z)
    joined (suc a) b = yes (nat_lt 0 (suc a)) (lt-ltb 0 (suc a) (omega arith))
        ∙ sym (lt-ltb 0 (suc a + b) (omega arith))
      where
        yes : (t : Bool) → t ≡ true → (t || nat_lt 0 b) ≡ true
        yes t e = ap (λ (t : Bool). t || nat_lt 0 b) e

module _ (p : PolicyOf) (s : State) (sound : IsSoundState p s) where
  -- numbers in tables, and of what is owed, were given
  in_table : (n k : ℕ) → 0 < numbered k (entries_in s.members n) → k < next_in s.members n
  in_table n k = by (slice_get s.members n) refl (slice_get p.members n) refl
    where
      by : (o : Option MemberOf) → slice_get s.members n ≡ o → (q : Option MemberItem) → slice_get p.members n ≡ q
          → 0 < numbered k (entries_in s.members n) → k < next_in s.members n
      by None at q of lt =
          let none = ap (λ (o : Option MemberOf). numbered k (option_map_or (λ (t : TableOf). t.entries)
          (option_map (λ (x : MemberOf). x.kept.table) o) [])) at in
          absurd (omega (arith, none, lt))
      by (Some x) at None of lt =
          absurd (some_none (sym at ∙ none_beside p.members s.members n sound.all_members of))
        where
          some_none : Some x ≡ None → ⊥
          some_none e = cc
      by (Some x) at (Some m) of lt =
          let there = ap (λ (o : Option MemberOf). numbered k (option_map_or (λ (t : TableOf). t.entries)
          (option_map (λ (x : MemberOf). x.kept.table) o) [])) at in
          let next = ap (λ (o : Option MemberOf). option_map_or (λ (t : TableOf). t.next)
          (option_map (λ (x : MemberOf). x.kept.table) o) 0) at in
          let below = passed (k < x.kept.table.next) (has_serial k) x.kept.table.entries
          (all_weaker (λ (e : Entry). (0 < e.serial) × (e.serial < x.kept.table.next))
          (λ (e : Entry). has_serial k e ≡ true → k < x.kept.table.next)
          (λ e g t. let same = eqb-true k e.serial t in let lt = g.1 in omega (arith, same, lt)) x.kept.table.entries
          (sound.members n m x of at).sound.table.given) (omega (arith, there, lt)) in
          omega (arith, below, next)

  owed_given : (n k : ℕ) → 0 < tally (is_owed n k) s.owed → k < next_in s.members n
  owed_given n k =
      passed (k < next_in s.members n) (is_owed n k) s.owed
      (all_weaker (IsSoundOwed s) (λ (o : Owed). is_owed n k o ≡ true → k < next_in s.members n)
      (λ o named t.
      let both = split_and (n == o.member) (k == o.entry.serial) t in
      let member = eqb-true n o.member both.0 in
      let serial = eqb-true k o.entry.serial both.1 in
      let given = sound.counts.given o.member o.entry.serial named in
      let next = next_same s o.member in
      let same = ap (next_in s.members) member in
      omega (arith, given, next, same, serial)) s.owed sound.owed)

  given_first : (n k : ℕ) → 0 < leaves s.members s.owed n k → k < next_in s.members n
  given_first n k lt = by (nat_lt 0 (numbered k (entries_in s.members n))) refl
    where
      by : (b : Bool) → nat_lt 0 (numbered k (entries_in s.members n)) ≡ b → k < next_in s.members n
      by true e = in_table n k (ltb-true 0 (numbered k (entries_in s.members n)) e)
      by false e =
          owed_given n k
          (let z : numbered k (entries_in s.members n) ≡ 0 = grind (arith, e) in omega (arith, z, lt))

  first_leaves : (e : Event) → AreKeptLeaves (view_of (heard s e)) (view_of (heard s e))
  first_leaves e = record {
    next = λ n. omega arith;
    once = once_tallied s.members s.owed sound.counts.once;
    given = given_first;
    old = λ n k lt. omega arith;
  }

  -- cookies ----------------------------------------------------------------------------------------------------------

  no_switch : (n c : ℕ) → slice_get s.switches n ≡ None → marks s.standing s.switches n c ≡ 0
  no_switch n c at =
      let none = ap (λ (p : Option (List Written)). cookied c (unwrap_or p []))
      (none_beside s.switches s.standing n (sound.all_standing ∙ sym sound.all_switches) at) in
      let gone = ap (λ (o : Option SwitchOf). times c (option_map_or (λ (y : SwitchOf). y.known.deleted) o [])) at in
      omega (arith, none, gone)

  first_once : (n c : ℕ) → marks s.standing s.switches n c ≤ 1
  first_once n c = by (slice_get s.switches n) refl
    where
      by : (o : Option SwitchOf) → slice_get s.switches n ≡ o → marks s.standing s.switches n c ≤ 1
      by None at = let z = no_switch n c at in omega (arith, z)
      by (Some x) at =
          let is = of_switch s n c x at in
          let few = distinct_tallied ◌==◌ joins
          (map (λ (w : Written). w.cookie) (standing_in s.standing n) ++ x.known.deleted)
          (sound.switches n x at).once c in
          omega (arith, is, few)

  first_below : (n c : ℕ) → 0 < marks s.standing s.switches n c → c < s.next_cookie
  first_below n c lt = by (slice_get s.switches n) refl
    where
      by : (o : Option SwitchOf) → slice_get s.switches n ≡ o → c < s.next_cookie
      by None at = let z = no_switch n c at in absurd (omega (arith, z, lt))
      by (Some x) at = some (nat_lt 0 (cookied c (standing_in s.standing n))) refl
        where
          is : times c (deleted_in s.switches n) ≡ times c x.known.deleted
          is = ap (λ (o : Option SwitchOf). times c (option_map_or (λ (y : SwitchOf). y.known.deleted) o [])) at

          some : (b : Bool) → nat_lt 0 (cookied c (standing_in s.standing n)) ≡ b → c < s.next_cookie
          some true t =
              passed (c < s.next_cookie) (λ (w : Written). w.cookie == c) (standing_in s.standing n)
              (all_weaker (IsOfRound x s.next_cookie) (λ (w : Written). (w.cookie == c) ≡ true → c < s.next_cookie)
              (λ w r e. let same = eqb-true w.cookie c e in let lt = r.1 in omega (arith, same, lt))
              (standing_in s.standing n) (sound.switches n x at).cookies)
              (ltb-true 0 (cookied c (standing_in s.standing n)) t)
          some false t =
              let z : cookied c (standing_in s.standing n) ≡ 0 = grind (arith, t) in
              passed (c < s.next_cookie) (λ d. d == c) x.known.deleted
              (all_weaker (λ d. d < s.next_cookie) (λ d. (d == c) ≡ true → c < s.next_cookie)
              (λ d below e. let same = eqb-true d c e in omega (arith, same, below)) x.known.deleted
              (sound.switches n x at).deleted) (omega (arith, z, lt, is))

  first_cookies : (e : Event) → AreKeptCookies s.standing s.switches (heard s e).counts s.next_cookie
  first_cookies e =
      let same = heard_alike s e in
      record {
        long = sound.all_standing ∙ sym sound.all_switches;
        sides = λ n x at.
            let h = sound.switches n x at in
            record {
              outbox = h.outbox;
              down = h.down;
              xid = h.xid;
              begun = h.begun;
              cookies =
                  all_weaker (IsOfRound x s.next_cookie) (λ (w : Written). x.known.first ≤ w.cookie) (λ w r. r.0)
                  (standing_in s.standing n) h.cookies;
            };
        rises = subst (IsStrictlySortedBy place_cmp) (sym same.keys) sound.counts.sorted;
        once = first_once;
        below = first_below;
        live = λ n c.
            alike_has s.counts (heard s e).counts same (n, c) ∙ (sound.counts.live n c ∙ matters s n c);
      }

  -- counts -----------------------------------------------------------------------------------------------------------

  first_counts : (e : Event) (n k : ℕ)
      → IsKeptLeaf (leaf_at n k) (mattered (view_of (heard s e)) n k) (heard s e).counts (heard s e).counts
  first_counts e n k =
      let same = heard_alike s e in
      record {
        named = λ t. t;
        forgotten = same.forgotten (leaf_at n k)
            ∙ (by (mattered (view_of s) n k) refl ∙ ap (λ (b : Bool). not (mattered (view_of s) n k) && b)
            (sym (same.named (leaf_at n k))));
        totals = λ w z. same.totals (leaf_at n k) ∙ sound.counts.gone n k (counted ∙ w)
            (sym (same.named (leaf_at n k)) ∙ z);
      }
    where
      counted : is_counted s n k ≡ mattered (view_of s) n k
      counted = leaf_counted s.members s.owed n k

      by : (b : Bool) → mattered (view_of s) n k ≡ b
          → s.counts.forgotten (leaf_at n k) ≡ (not (mattered (view_of s) n k) && is_named s.counts (leaf_at n k))
      by true t =
          sound.counts.kept n k (counted ∙ t)
          ∙ sym (ap (λ (b : Bool). not b && is_named s.counts (leaf_at n k)) t)
      by false t =
          sound.counts.going n k (counted ∙ t)
          ∙ sym (ap (λ (b : Bool). not b && is_named s.counts (leaf_at n k)) t)

  pub starts : (e : Event) → IsSteady (view_of (heard s e)) (view_of (heard s e))
  starts e = record { next = refl; leaves = first_leaves e; cookies = first_cookies e; counts = first_counts e }
