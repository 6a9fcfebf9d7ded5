-- No phase after the event's own work gives an entry of a member a number.
use Rattle.std.proofs.Common.{◌≡◌, ◌∙◌, ℕ, ◌+◌, ◌<◌, ◌^◌, Bool, true, false, List, [], ◌∷◌, map, filter, Option, Some}
use Rattle.std.proofs.Common.{None, find, fold, length, nat_lt, slice_get, refl, ap, subst, if◌then◌else◌}
use Rattle.std.specs.List.{AllByRecursion, enumerate_from}
use Rattle.agreement.specs.Entries.{entries_of}
use Rattle.agreement.specs.declared.state.Setting.{Setting}
use Rattle.member_state.specs.Changes.{touched, without}
use Rattle.member_table.specs.Entries.{has_serial}
use Rattle.member_table.specs.declared.entry.Entry.{Entry}
use Rattle.policies.specs.Policies.{PolicyOf}
use Rattle.switch_meaning.specs.Keys.{installed}
use Rattle.switch_meaning.specs.declared.entry.PhysEntry.{PhysEntry}
use Rattle.switch_state.specs.Messages.{packet_out}
use Rattle.waitings.specs.Waitings.{is_done}
use Rattle.waitings.specs.declared.state.Doubt.{Doubt}
use Rattle.waitings.specs.declared.state.Purpose.{Purpose}
use Rattle.waitings.specs.declared.state.Purpose.TheVariants as purposes
use Rattle.events.specs.declared.event.Event.{Event}
use Rattle.machine_meaning.specs.Acting.{act}
use Rattle.machine_meaning.specs.Batches.{batch_between}
use Rattle.machine_meaning.specs.Composing.{compose, compose_at, compose_on, write}
use Rattle.machine_meaning.specs.Counted.{count_of}
use Rattle.machine_meaning.specs.Drafts.{Draft}
use Rattle.machine_meaning.specs.Lists.{places}
use Rattle.machine_meaning.specs.Phases.{draft_of, settled_of}
use Rattle.machine_meaning.specs.Putting.{put, put_to_member}
use Rattle.machine_meaning.specs.Removing.{with_kept}
use Rattle.machine_meaning.specs.Requests.{dispatch, dispatched, dispatched_if_up, poll, poll_at, polled, polled_if_up}
use Rattle.machine_meaning.specs.Rounds.{Closing, close, close_member, close_switch, ended_member}
use Rattle.machine_meaning.specs.Sessions.{standing_of}
use Rattle.machine_meaning.specs.Settings.{setting_of}
use Rattle.machine_meaning.specs.Settling.{decided, decided_on, entries_at, settle, settle_for, settle_one, with_risen}
use Rattle.machine_meaning.specs.Settling.{with_undone, without_idle}
use Rattle.machine_meaning.specs.States.{MemberOf, State, SwitchOf}
use Rattle.machine_meaning.specs.Telling.{tell}
use Rattle.machine_meaning.specs.Ways.{switches_of}
use Rattle.machine_meaning.specs.declared.said.Asked.{Asked}
use Rattle.machine_meaning.specs.declared.said.Sent.{Sent}
use Rattle.machine_meaning.proofs.Composed.{fold_holds}
use Rattle.machine_meaning.proofs.Numbered.{changed_unseen}

-- the number of the next entry of a member
abbrev pub next_of : MemberOf → ℕ
next_of x = x.kept.table.next

abbrev pub nexts : State → List ℕ
nexts s = map next_of s.members

-- there is a number for it
abbrev pub HasNext : MemberOf → Type 0
HasNext x = x.kept.table.next + 1 < 2 ^ 64

pub same_nexts : (xs ys : List MemberOf) → map next_of xs ≡ map next_of ys → AllByRecursion HasNext xs
    → AllByRecursion HasNext ys
same_nexts [] [] e h = tt
same_nexts [] (y ∷ ys) e h = absurd (cc)
same_nexts (x ∷ xs) [] e h = tt
same_nexts (x ∷ xs) (y ∷ ys) e h =
    let first : next_of x ≡ next_of y = cc in
    let rest : map next_of xs ≡ map next_of ys = cc in
    (subst (λ (n : ℕ). n + 1 < 2 ^ 64) first h.0, same_nexts xs ys rest h.1)

-- phases ------------------------------------------------------------------------------------------------------------

closed_nexts : (c : Closing) (d : Draft) → nexts (close c d).state ≡ nexts d.state
closed_nexts c d =
    let first = fold close_switch d c.switches in
    fold_holds close_member (λ (e : Draft). nexts e.state ≡ nexts first.state)
    (λ e n h. changed_unseen next_of ended_member (λ x. refl) n e.state.members ∙ h) c.members first refl
    ∙ fold_holds close_switch (λ (e : Draft). nexts e.state ≡ nexts d.state) (λ e n h. h) c.switches d refl

decided_nexts : (s : State) (doubt : Doubt) → nexts (decided s doubt) ≡ nexts s
decided_nexts s doubt = by (find (has_serial doubt.serial) (entries_at (slice_get s.members doubt.member)))
  where
    by : (o : Option Entry) → nexts (decided_on o doubt s) ≡ nexts s
    by None = refl
    by (Some e) = risen (nat_lt doubt.packets (count_of s doubt.member doubt.serial).packets)
      where
        risen : (b : Bool) → nexts (if b then with_risen doubt s else without_idle doubt e s) ≡ nexts s
        risen true =
            changed_unseen next_of (with_kept (touched doubt.serial s.moment)) (λ x. refl) doubt.member s.members
        risen false =
            changed_unseen next_of (with_kept (without doubt.serial)) (λ x. refl) doubt.member s.members

settle_nexts : (p : PolicyOf) (purpose : Purpose) (d : Draft) → nexts (settle_for p purpose d).state ≡ nexts d.state
settle_nexts p (purposes.Flow asker f) d = refl
settle_nexts p (purposes.Aggregate asker f) d = refl
settle_nexts p (purposes.Port asker port_no told) d = refl
settle_nexts p (purposes.Idle doubts) d =
    fold_holds decided (λ (s : State). nexts s ≡ nexts d.state) (λ s doubt h. decided_nexts s doubt ∙ h) doubts d.state
    refl
settle_nexts p (purposes.Barrier asker) d = refl

settled_nexts : (p : PolicyOf) (d : Draft) → nexts (settle p d).state ≡ nexts d.state
settled_nexts p d =
    fold_holds (settle_one p) (λ (e : Draft). nexts e.state ≡ nexts d.state) (λ e w h. settle_nexts p w.purpose e ∙ h)
    (filter is_done d.state.waiting) (with_undone d) refl

-- members stay as they are
abbrev SameMembers : Draft → Draft → Type 0
SameMembers d e = e.state.members ≡ d.state.members

composed_at : (setting : Setting) (d : Draft) (k : ℕ) → SameMembers d (compose_at setting d k)
composed_at setting d k = by (slice_get d.state.switches k)
  where
    wanted : List PhysEntry
    wanted = installed (entries_of setting k)

    by : (o : Option SwitchOf) → SameMembers d (compose_on k o wanted d)
    by None = refl
    by (Some x) = up x.outbox.up
      where
        up : (u : Bool) → SameMembers d
            (if u then write k x wanted (batch_between d.state.next_cookie (standing_of d.state k) wanted) d else d)
        up true = refl
        up false = refl

pub composed_members : (p : PolicyOf) (d : Draft) → SameMembers d (compose p d)
composed_members p d =
    fold_holds (compose_at (setting_of p d.state)) (SameMembers d)
    (λ e k h. composed_at (setting_of p d.state) e k ∙ h) (places d.state.switches) d refl

poll_members : (a : Asked) (d : Draft) (n : ℕ) → SameMembers d (poll_at a d n)
poll_members a d n = by (slice_get d.state.switches n)
  where
    by : (o : Option SwitchOf) → SameMembers d (polled_if_up n o a d)
    by None = refl
    by (Some x) = up x.outbox.up
      where
        up : (u : Bool) → SameMembers d (if u then polled n x a d else d)
        up true = refl
        up false = refl

polls_members : (p : PolicyOf) (d : Draft) (a : Asked) → SameMembers d (poll p d a)
polls_members p d a = by (nat_lt a.v (length p.virtuals))
  where
    by : (b : Bool) → SameMembers d (if b then fold (poll_at a) d (switches_of p a.v) else d)
    by true = fold_holds (poll_at a) (SameMembers d) (λ e n h. poll_members a e n ∙ h) (switches_of p a.v) d refl
    by false = refl

dispatch_members : (d : Draft) (o : Sent) → SameMembers d (dispatch d o)
dispatch_members d o = by (slice_get d.state.switches o.switch)
  where
    by : (x : Option SwitchOf) → SameMembers d (dispatched_if_up x o d)
    by None = refl
    by (Some x) = up x.outbox.up
      where
        up : (u : Bool) → SameMembers d (if u then dispatched o.switch x (packet_out o.port o.bytes) d else d)
        up true = refl
        up false = refl

pub told_members : (p : PolicyOf) (before : State) (d : Draft) → SameMembers d (tell p before d)
told_members p before d =
    fold_holds dispatch (SameMembers d) (λ e o h. dispatch_members e o ∙ h) d.sent (fold (poll p) d d.asked)
    (fold_holds (poll p) (SameMembers d) (λ e a h. polls_members p e a ∙ h) d.asked d refl)

put_nexts : (d : Draft) (k : ℕ) (xs : List MemberOf)
    → map next_of (map (put_to_member d) (enumerate_from k xs)) ≡ map next_of xs
put_nexts d k [] = refl
put_nexts d k (x ∷ xs) = ap (λ (ns : List ℕ). next_of x ∷ ns) (put_nexts d (k + 1) xs)

-- all ---------------------------------------------------------------------------------------------------------------

pub nexts_after : (p : PolicyOf) (s : State) (e : Event) (c : Closing)
    → nexts (put p (draft_of p s e c)) ≡ nexts (act p s e).state
nexts_after p s e c =
    let settled = settled_of p s e c in
    let final = draft_of p s e c in
    put_nexts final 0 final.state.members
    ∙ (ap (map next_of) (told_members p s (compose p settled))
    ∙ (ap (map next_of) (composed_members p settled)
    ∙ (settled_nexts p (close c (act p s e)) ∙ closed_nexts c (act p s e))))
