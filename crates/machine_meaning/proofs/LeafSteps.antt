-- Leaves after a step: serial numbers are given once, so a leaf that doesn't matter any more never does again.
use Rattle.std.proofs.Common.{◌≡◌, ◌∙◌, ℕ, ◌≤◌, not, Bool, true, false, List, Option, Some, None, if◌then◌else◌, []}
use Rattle.std.proofs.Common.{length, arith, refl, ap}
use Rattle.std.specs.Prelude.{fold, nat_lt, slice_get}
use Rattle.std.specs.Option.{option_map_or}
use Rattle.agreement.specs.Entries.{entries_of}
use Rattle.agreement.specs.declared.state.Setting.{Setting}
use Rattle.cv_io.specs.declared.leaf.Who.{Who}
use Rattle.cv_io.specs.declared.leaf.Who.TheVariants.{Audit, Member, Switch}
use Rattle.member_table.specs.Tables.{TableOf}
use Rattle.outbox.specs.Outboxes.{taken}
use Rattle.policies.specs.Policies.{PolicyOf}
use Rattle.switch_meaning.specs.Keys.{installed}
use Rattle.switch_meaning.specs.declared.entry.PhysEntry.{PhysEntry}
use Rattle.switch_state.specs.Messages.{packet_out}
use Rattle.machine_meaning.specs.Batches.{batch_between}
use Rattle.machine_meaning.specs.Composing.{compose, compose_at, compose_on, write}
use Rattle.machine_meaning.specs.Drafts.{Draft}
use Rattle.machine_meaning.specs.Hearing.{heard}
use Rattle.machine_meaning.specs.Lists.{places}
use Rattle.machine_meaning.specs.Phases.{draft_of, settled_of}
use Rattle.machine_meaning.specs.Putting.{put}
use Rattle.machine_meaning.specs.Requests.{dispatch, dispatched, dispatched_if_up, poll, poll_at, polled}
use Rattle.machine_meaning.specs.Requests.{polled_if_up, request_all}
use Rattle.machine_meaning.specs.Rounds.{Closing}
use Rattle.machine_meaning.specs.Sessions.{standing_of}
use Rattle.machine_meaning.specs.Settings.{setting_of}
use Rattle.machine_meaning.specs.States.{MemberOf, State, SwitchOf}
use Rattle.machine_meaning.specs.Steps.{step_of}
use Rattle.machine_meaning.specs.Takings.{left_by}
use Rattle.machine_meaning.specs.Telling.{may_go}
use Rattle.machine_meaning.specs.Ways.{switches_of}
use Rattle.events.specs.declared.event.Event.{Event}
use Rattle.machine_meaning.specs.declared.said.Asked.{Asked}
use Rattle.machine_meaning.specs.declared.said.Sent.{Sent}
use Rattle.machine_meaning.specs.declared.state.Owed.{Owed}
use Rattle.machine_meaning.proofs.Composed.{fold_holds}
use Rattle.machine_meaning.proofs.KeptLeaves.{AreKeptLeaves, is_owed, leaves, leaves_expired, leaves_moved}
use Rattle.machine_meaning.proofs.KeptLeaves.{leaves_unseen, next_in, table_in}
use Rattle.machine_meaning.proofs.Moves.{numbered}
use Rattle.machine_meaning.proofs.PutStates.{put_table}
use Rattle.machine_meaning.proofs.Steady.{same_leaves}
use Rattle.machine_meaning.proofs.StepCases.{each_step}
use Rattle.machine_meaning.proofs.Tallies.{tally, tally_fewer}
use Rattle.machine_meaning.proofs.Traversals.{settled_holds}
use Rattle.machine_meaning.proofs.Views.{IsHeard, IsStable, View, view_of}

-- what is kept of leaves stays so until switches are composed
stable : (start : View) → IsStable (AreKeptLeaves start)
stable start = record {
  member = λ n f same v h. leaves_unseen start v n f same h;
  ended = λ n v h. same_leaves start v _ refl refl h;
  begun = λ n v down h. same_leaves start v _ refl refl h;
  known = λ n f same v x at up h. same_leaves start v _ refl refl h;
  removed = λ n cookie numbers v x at up taken h. same_leaves start v _ refl refl h;
  moved = λ n reason now f gone v x at move h. leaves_moved start v n reason now f gone x at move h;
  expired = λ now v h. leaves_expired start v now h;
}

-- composing and requests change neither members nor what is owed ----------------------------------------------------

-- members, and what is owed
abbrev owners : Draft → List MemberOf × List Owed
owners d = (d.state.members, d.state.owed)

composed_at : (setting : Setting) (d : Draft) (n : ℕ) → owners (compose_at setting d n) ≡ owners d
composed_at setting d n = by (slice_get d.state.switches n)
  where
    wanted : List PhysEntry
    wanted = installed (entries_of setting n)

    by : (o : Option SwitchOf) → owners (compose_on n o wanted d) ≡ owners d
    by None = refl
    by (Some x) = up x.outbox.up
      where
        up : (u : Bool) → owners
            (if u then write n x wanted (batch_between d.state.next_cookie (standing_of d.state n) wanted) d else d)
            ≡ owners d
        up true = refl
        up false = refl

polled_at : (a : Asked) (d : Draft) (n : ℕ) → owners (poll_at a d n) ≡ owners d
polled_at a d n = by (slice_get d.state.switches n)
  where
    by : (o : Option SwitchOf) → owners (polled_if_up n o a d) ≡ owners d
    by None = refl
    by (Some x) = up x.outbox.up
      where
        up : (u : Bool) → owners (if u then polled n x a d else d) ≡ owners d
        up true = refl
        up false = refl

dispatched_at : (d : Draft) (o : Sent) → owners (dispatch d o) ≡ owners d
dispatched_at d o = by (slice_get d.state.switches o.switch)
  where
    by : (q : Option SwitchOf) → owners (dispatched_if_up q o d) ≡ owners d
    by None = refl
    by (Some x) = up x.outbox.up
      where
        up : (u : Bool) → owners (if u then dispatched o.switch x (packet_out o.port o.bytes) d else d) ≡ owners d
        up true = refl
        up false = refl

owners_composed : (p : PolicyOf) (d : Draft) → owners (compose p d) ≡ owners d
owners_composed p d =
    fold_holds (compose_at (setting_of p d.state)) (λ (e : Draft). owners e ≡ owners d)
    (λ e n k. composed_at (setting_of p d.state) e n ∙ k) (places d.state.switches) d refl

owners_polled : (p : PolicyOf) (d : Draft) (a : Asked) → owners (poll p d a) ≡ owners d
owners_polled p d a = by (nat_lt a.v (length p.virtuals))
  where
    by : (b : Bool) → owners (if b then fold (poll_at a) d (switches_of p a.v) else d) ≡ owners d
    by true =
        fold_holds (poll_at a) (λ (e : Draft). owners e ≡ owners d) (λ e n k. polled_at a e n ∙ k)
        (switches_of p a.v) d refl
    by false = refl

owners_requested : (p : PolicyOf) (d : Draft) → owners (request_all p d) ≡ owners d
owners_requested p d =
    fold_holds dispatch (λ (e : Draft). owners e ≡ owners d) (λ e o k. dispatched_at e o ∙ k) d.sent
    (fold (poll p) d d.asked)
    (fold_holds (poll p) (λ (e : Draft). owners e ≡ owners d) (λ e a k. owners_polled p e a ∙ k) d.asked d refl)

-- the phases --------------------------------------------------------------------------------------------------------

module _ (p : PolicyOf) (s : State) (start : AreKeptLeaves (view_of s) (view_of s)) (e : Event) (c : Closing)
    (there : IsHeard (heard s e) e) where
  abbrev settled : Draft
  settled = settled_of p (heard s e) e c

  abbrev requested : Draft
  requested = request_all p (compose p settled)

  abbrev final : Draft
  final = draft_of p (heard s e) e c

  abbrev last : State
  last = put p final

  same_owners : owners requested ≡ owners settled
  same_owners = owners_requested p (compose p settled) ∙ owners_composed p settled

  begins : AreKeptLeaves (view_of s) (view_of (heard s e))
  begins = same_leaves (view_of s) (view_of s) (view_of (heard s e)) refl refl start

  middle : AreKeptLeaves (view_of s) (view_of settled.state)
  middle = settled_holds (AreKeptLeaves (view_of s)) (stable (view_of s)) p (heard s e) e c there begins

  last_table : (n : ℕ) → table_in last.members n ≡ table_in settled.state.members n
  last_table n =
      put_table final requested.state.members n
      ∙ ap (λ (o : List MemberOf × List Owed). table_in o.0 n) same_owners

  last_next : (n : ℕ) → next_in last.members n ≡ next_in settled.state.members n
  last_next n = ap (λ (o : Option TableOf). option_map_or (λ (t : TableOf). t.next) o 0) (last_table n)

  fewer : (n k : ℕ) → leaves last.members last.owed n k ≤ leaves settled.state.members settled.state.owed n k
  fewer n k =
      let tables = ap (λ (o : Option TableOf). numbered k (option_map_or (λ (t : TableOf). t.entries) o []))
      (last_table n) in
      let few = tally_fewer (is_owed n k) (λ (o : Owed). not (may_go requested.state o)) requested.state.owed in
      let same = ap (λ (o : List MemberOf × List Owed). tally (is_owed n k) o.1) same_owners in
      omega (arith, tables, few, same)

  drafted_leaves : AreKeptLeaves (view_of s) (view_of last)
  drafted_leaves = record {
    next = λ n. let a = middle.next n in let b = last_next n in omega (arith, a, b);
    once = λ n k. let a = middle.once n k in let b = fewer n k in omega (arith, a, b);
    given = λ n k lt.
        let b = fewer n k in
        let a = middle.given n k (omega (arith, b, lt)) in
        let next = last_next n in
        omega (arith, a, next);
    old = λ n k lt. let a = middle.old n k lt in let b = fewer n k in omega (arith, a, b);
  }

left_leaves : (s : State) → AreKeptLeaves (view_of s) (view_of s) → (who : Who) (round : ℕ)
    → AreKeptLeaves (view_of s) (view_of (left_by who round s))
left_leaves s h (Member n) round =
    leaves_unseen (view_of s) (view_of s) n (λ (x : MemberOf). record x { outbox = taken x.outbox round })
    (λ x. refl) h
left_leaves s h (Switch n) round = same_leaves (view_of s) (view_of s) _ refl refl h
left_leaves s h Audit round = same_leaves (view_of s) (view_of s) _ refl refl h

-- a step ------------------------------------------------------------------------------------------------------------

-- each leaf matters once, and its number was given
abbrev pub HasLeaves : State → Type 0
HasLeaves s = AreKeptLeaves (view_of s) (view_of s)

pub step_leaves : (p : PolicyOf) (s : State) → HasLeaves s → (e : Event)
    → AreKeptLeaves (view_of s) (view_of (step_of p s e).1)
step_leaves p s h e =
    each_step (λ (t : State). AreKeptLeaves (view_of s) (view_of t)) p s h
    (λ session. left_leaves s h session.who session.round) e (λ c there. drafted_leaves p s h e c there)

pub own_leaves : (s t : State) → AreKeptLeaves (view_of s) (view_of t) → HasLeaves t
own_leaves s t h = record {
  next = λ n. omega arith;
  once = h.once;
  given = h.given;
  old = λ n k lt. omega arith;
}

pub both_leaves : (s t u : State) → AreKeptLeaves (view_of s) (view_of t) → AreKeptLeaves (view_of t) (view_of u)
    → AreKeptLeaves (view_of s) (view_of u)
both_leaves s t u a b = record {
  next = λ n. let x = a.next n in let y = b.next n in omega (arith, x, y);
  once = b.once;
  given = b.given;
  old = λ n k lt.
      let up = a.next n in
      let x = a.old n k lt in
      let y = b.old n k (omega (arith, lt, up)) in
      omega (arith, x, y);
}
