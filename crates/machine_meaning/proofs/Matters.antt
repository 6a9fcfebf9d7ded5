-- The leaf of an entry that still matters was never dropped.
use Rattle.std.proofs.Common.{◌≡◌, ◌∙◌, ℕ, zero, suc, ◌<◌, ◌⊎◌, inl, inr, Bool, true, false, true≢false, not, ◌||◌}
use Rattle.std.proofs.Common.{List, [], ◌∷◌, ◌++◌, map, filter, Option, Some, None, if◌then◌else◌, nat_lt, arith}
use Rattle.std.proofs.Common.{refl, sym, ap, ap₂, ltb-true}
use Rattle.std.specs.Prelude.{fold, slice_get}
use Rattle.std.specs.Option.{option_map_or}
use Rattle.std.specs.List.{list_any}
use Rattle.agreement.specs.Entries.{entries_of}
use Rattle.agreement.specs.declared.state.Setting.{Setting}
use Rattle.cv_io.specs.Leaves.{same_leaf}
use Rattle.cv_io.specs.declared.leaf.Leaf.{Leaf}
use Rattle.member_table.specs.Tables.{TableOf}
use Rattle.policies.specs.Policies.{PolicyOf}
use Rattle.policies.specs.declared.policy.MemberItem.{MemberItem}
use Rattle.policy_meaning.proofs.Booleans.{split_and}
use Rattle.stats_map.specs.Histories.{Dropped, Step, drops}
use Rattle.switch_meaning.specs.Keys.{installed}
use Rattle.switch_meaning.specs.declared.entry.PhysEntry.{PhysEntry}
use Rattle.switch_meaning.proofs.Alike.{leaf_decides}
use Rattle.switch_meaning.proofs.Members.{from-place, passes-any}
use Rattle.machine_meaning.specs.Batches.{coming}
use Rattle.machine_meaning.specs.Composing.{compose_at}
use Rattle.machine_meaning.specs.Counted.{dropped_between, is_one_of, leaf_at, leaves_of}
use Rattle.machine_meaning.specs.Drafts.{Draft}
use Rattle.machine_meaning.specs.Ever.{counted_along, counted_by, counted_from, counted_of, counted_through, down_by}
use Rattle.machine_meaning.specs.Ever.{last_by, told_by, wrote, wrote_at, wrote_by, wrote_from, wrote_on}
use Rattle.machine_meaning.specs.Glances.{glance_of}
use Rattle.machine_meaning.specs.Hearing.{Report, heard, reports_in}
use Rattle.machine_meaning.specs.Laws.{WhatMattersIsKept}
use Rattle.machine_meaning.specs.Lists.{places}
use Rattle.machine_meaning.specs.Phases.{drafted, settled_of, slow}
use Rattle.machine_meaning.specs.Putting.{put}
use Rattle.machine_meaning.specs.Runs.{after}
use Rattle.machine_meaning.specs.Sessions.{standing_of}
use Rattle.machine_meaning.specs.Settings.{setting_of}
use Rattle.machine_meaning.specs.States.{State, SwitchOf, new_member, opening}
use Rattle.machine_meaning.specs.Steps.{step_by, step_of}
use Rattle.events.specs.declared.event.Event.{Event}
use Rattle.events.specs.declared.event.Event.TheVariants as events
use Rattle.events.specs.declared.event.Reply.{Reply}
use Rattle.machine_meaning.proofs.Forgetting.{dropped_is, is_dropped}
use Rattle.machine_meaning.proofs.KeptLeaves.{AreKeptLeaves, entries_in, leaves}
use Rattle.machine_meaning.proofs.LeafSteps.{HasLeaves, both_leaves, own_leaves, step_leaves}
use Rattle.machine_meaning.proofs.LeafTallies.{IsEntry, kind_of, leaf_counted, no_entry}
use Rattle.machine_meaning.proofs.Moves.{numbered}
use Rattle.machine_meaning.proofs.PutStates.{put_table}
use Rattle.machine_meaning.proofs.Tallies.{tallied_any}
use Rattle.machine_meaning.proofs.Views.{view_of}

-- what an event drops -----------------------------------------------------------------------------------------------

any_both : (p : Step → Bool) (xs ys : List Step) → list_any p (xs ++ ys) ≡ (list_any p xs || list_any p ys)
any_both p [] ys = refl
any_both p (x ∷ xs) ys = ap (λ (b : Bool). p x || b) (any_both p xs ys) ∙ by (p x) (list_any p xs) (list_any p ys)
  where
    by : (a b c : Bool) → (a || (b || c)) ≡ ((a || b) || c)
    by true b c = refl
    by false b c = refl

none_of : {X : Type 0} (q : Leaf) (f : X → Step) → ((x : X) → drops q (f x) ≡ false) → (xs : List X)
    → list_any (drops q) (map f xs) ≡ false
none_of q f h [] = refl
none_of q f h (x ∷ xs) = ap (λ (b : Bool). b || list_any (drops q) (map f xs)) (h x) ∙ none_of q f h xs

none_on : (q : Leaf) (n : ℕ) (o : Option SwitchOf) (wanted : List PhysEntry) (d : Draft)
    → list_any (drops q) (wrote_on n o wanted d) ≡ false
none_on q n None wanted d = refl
none_on q n (Some x) wanted d = by x.outbox.up
  where
    by : (u : Bool) → list_any (drops q)
        (if u then map (wrote_by n) (coming d.state.next_cookie (standing_of d.state n) wanted) else []) ≡ false
    by true = none_of q (wrote_by n) (λ w. refl) (coming d.state.next_cookie (standing_of d.state n) wanted)
    by false = refl

none_from : (q : Leaf) (setting : Setting) (ns : List ℕ) (d : Draft)
    → list_any (drops q) (wrote_from setting d ns) ≡ false
none_from q setting [] d = refl
none_from q setting (n ∷ ns) d =
    any_both (drops q) (wrote_at setting d n) (wrote_from setting (compose_at setting d n) ns)
    ∙ ap₂ (λ (a b : Bool). a || b)
    (none_on q n (slice_get d.state.switches n) (installed (entries_of setting n)) d)
    (none_from q setting ns (compose_at setting d n))

dropped_any : (q : Leaf) (ls : List Leaf) → list_any (drops q) (map Dropped ls) ≡ is_dropped q ls
dropped_any q [] = refl
dropped_any q (l ∷ ls) = ap (λ (b : Bool). same_leaf l q || b) (dropped_any q ls)

-- an event that goes through the phases drops the leaves that mattered and don't any more
through_drops : (q : Leaf) (p : PolicyOf) (s : State) (e : Event)
    → list_any (drops q) (counted_through p s e)
    ≡ is_dropped q (dropped_between s (drafted p (heard s e) e).state)
through_drops q p s e =
    any_both (drops q) (map told_by reports) (lasts ++ (downs ++ (writes ++ gone)))
    ∙ (ap₂ (λ (a b : Bool). a || b) (none_of q told_by (λ r. refl) reports)
    (any_both (drops q) lasts (downs ++ (writes ++ gone)))
    ∙ (ap₂ (λ (a b : Bool). a || b) (none_of q last_by (λ r. refl) (filter (λ (r : Report). r.last) reports))
    (any_both (drops q) downs (writes ++ gone))
    ∙ (ap₂ (λ (a b : Bool). a || b) (none_of q down_by (λ x. refl) final.downs) (any_both (drops q) writes gone)
    ∙ ap₂ (λ (a b : Bool). a || b)
    (none_from q (setting_of p settled.state) (places settled.state.switches) settled)
    (dropped_any q (dropped_between s final.state)))))
  where
    reports : List Report
    reports = reports_in s e

    settled : Draft
    settled = settled_of p (heard s e) e (slow p (heard s e) e)

    final : Draft
    final = drafted p (heard s e) e

    lasts : List Step
    lasts = map last_by (filter (λ (r : Report). r.last) reports)

    downs : List Step
    downs = map down_by final.downs

    writes : List Step
    writes = wrote p settled

    gone : List Step
    gone = map Dropped (dropped_between s final.state)

-- a leaf that an event drops mattered before, and doesn't after
record IsGone (s t : State) (n k : ℕ) : Type 0 where
  was : 0 < leaves s.members s.owed n k
  is : leaves t.members t.owed n k ≡ 0

none_left : (m : ℕ) → not (nat_lt 0 m) ≡ true → m ≡ 0
none_left m e = by (nat_lt 0 m) refl e
  where
    by : (b : Bool) → nat_lt 0 m ≡ b → not b ≡ true → m ≡ 0
    by true f g = absurd (true≢false (sym g))
    by false f g = grind (arith, f)

through_gone : (p : PolicyOf) (s : State) (e : Event) (n k : ℕ)
    → list_any (drops (leaf_at n k)) (counted_through p s e) ≡ true → IsGone s (put p (drafted p (heard s e) e)) n k
through_gone p s e n k t =
    let both = split_and (is_one_of (leaves_of s) q) (not (is_one_of (leaves_of final.state) q))
    (sym (dropped_is q (λ leaf. not (is_one_of (leaves_of final.state) leaf)) (leaves_of s))
    ∙ (sym (through_drops q p s e) ∙ t)) in
    let was = ltb-true 0 (leaves s.members s.owed n k) (sym (leaf_counted s.members s.owed n k) ∙ both.0) in
    let is = none_left (leaves final.state.members final.state.owed n k)
    (sym (ap not (leaf_counted final.state.members final.state.owed n k)) ∙ both.1) in
    let same = ap (λ (o : Option TableOf). numbered k (option_map_or (λ (t : TableOf). t.entries) o []))
    (put_table final final.state.members n) in
    record { was = was; is = omega (arith, is, same) }
  where
    q : Leaf
    q = leaf_at n k

    final : Draft
    final = drafted p (heard s e) e

step_gone : (p : PolicyOf) (s : State) (e : Event) (n k : ℕ)
    → list_any (drops (leaf_at n k)) (counted_by p s e) ≡ true → IsGone s (step_of p s e).1 n k
step_gone p s e n k = by (glance_of p s e)
  where
    forth : (e : Event) → list_any (drops (leaf_at n k)) (counted_from None p s e) ≡ true
        → IsGone s (step_by None p s e).1 n k
    forth (events.Up who arp) t = through_gone p s (events.Up who arp) n k t
    forth (events.Msg session frame) t = through_gone p s (events.Msg session frame) n k t
    forth (events.Gone session) t = through_gone p s (events.Gone session) n k t
    forth (events.Tick second) t = through_gone p s (events.Tick second) n k t
    forth (events.Take session) t = absurd (true≢false (sym t))
    forth (events.Policy v text) t = through_gone p s (events.Policy v text) n k t

    by : (o : Option Reply) → list_any (drops (leaf_at n k)) (counted_from o p s e) ≡ true
        → IsGone s (step_by o p s e).1 n k
    by (Some reply) t = absurd (true≢false (sym t))
    by None t = forth e t

-- runs --------------------------------------------------------------------------------------------------------------

run_leaves : (p : PolicyOf) (events : List Event) (s : State) → HasLeaves s
    → AreKeptLeaves (view_of s) (view_of (fold (after p) s events))
run_leaves p [] s h = h
run_leaves p (e ∷ es) s h =
    let first = step_leaves p s h e in
    let t = (step_of p s e).1 in
    both_leaves s t (fold (after p) t es) first (run_leaves p es t (own_leaves s t first))

never_dropped : (p : PolicyOf) (n k : ℕ) (events : List Event) (s : State) → HasLeaves s
    → 0 < leaves (fold (after p) s events).members (fold (after p) s events).owed n k
    → list_any (drops (leaf_at n k)) (counted_along p s events) ≡ false
never_dropped p n k [] s h lt = refl
never_dropped p n k (e ∷ es) s h lt =
    let first = step_leaves p s h e in
    let t = (step_of p s e).1 in
    let rest = never_dropped p n k es t (own_leaves s t first) lt in
    any_both (drops (leaf_at n k)) (counted_by p s e) (counted_along p t es)
    ∙ ap₂ (λ (a b : Bool). a || b)
    (by first (run_leaves p es t (own_leaves s t first)) (list_any (drops (leaf_at n k)) (counted_by p s e)) refl) rest
  where
    by : AreKeptLeaves (view_of s) (view_of (step_of p s e).1)
        → AreKeptLeaves (view_of (step_of p s e).1) (view_of (fold (after p) (step_of p s e).1 es)) → (b : Bool)
        → list_any (drops (leaf_at n k)) (counted_by p s e) ≡ b → b ≡ false
    by first later false g = refl
    by first later true g =
        let gone = step_gone p s e n k g in
        let was = h.given n k gone.was in
        let up = first.next n in
        let old = later.old n k (omega (arith, was, up)) in
        let none = gone.is in
        absurd (omega (arith, old, none, lt))

-- nothing matters at first
opening_table : (p : PolicyOf) (n : ℕ) → entries_in (opening p).members n ≡ []
opening_table p n = by p.members n
  where
    by : (ms : List MemberItem) (m : ℕ) → entries_in (map new_member ms) m ≡ []
    by [] m = refl
    by (x ∷ xs) zero = refl
    by (x ∷ xs) (suc m) = by xs m

opening_leaves : (p : PolicyOf) → HasLeaves (opening p)
opening_leaves p = record {
  next = λ n. omega arith;
  once = λ n k. let e = ap (numbered k) (opening_table p n) in omega (arith, e);
  given = λ n k lt. let e = ap (numbered k) (opening_table p n) in absurd (omega (arith, e, lt));
  old = λ n k lt. omega arith;
}

pub matters_kept : WhatMattersIsKept
matters_kept p policy events given numbers leaf there = by (kind_of leaf)
  where
    last : State
    last = fold (after p) (opening p) events

    itself : same_leaf leaf leaf ≡ true
    itself = (leaf_decides leaf leaf).1 refl

    among : is_one_of (leaves_of last) leaf ≡ true
    among = passes-any (same_leaf leaf) (from-place leaf (leaves_of last) there) itself

    by : IsEntry leaf ⊎ ((n k : ℕ) → same_leaf leaf (leaf_at n k) ≡ false)
        → list_any (drops leaf) (counted_of p events) ≡ false
    by (inl r) =
        ap (λ (q : Leaf). list_any (drops q) (counted_of p events)) r.is
        ∙ never_dropped p r.member r.serial events (opening p) (opening_leaves p)
        (ltb-true 0 (leaves last.members last.owed r.member r.serial)
        (sym (leaf_counted last.members last.owed r.member r.serial)
        ∙ (ap (is_one_of (leaves_of last)) (sym r.is) ∙ among)))
    by (inr none) =
        absurd (true≢false (sym among ∙ (tallied_any (same_leaf leaf) (leaves_of last)
        ∙ ap (nat_lt 0) (no_entry last.members last.owed leaf none))))
