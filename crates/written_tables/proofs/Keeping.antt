-- What holds of boxes, and stays so where rounds end, holds of an event's draft if it does once the event has acted.
use Rattle.std.proofs.Common.{◌≡◌, ℕ, Bool, true, false, List, [], filter, map, Option, Some, None, refl, sym, subst}
use Rattle.std.specs.Prelude.{find, fold, if◌then◌else◌, length, nat_lt, slice_get}
use Rattle.agreement.specs.Entries.{entries_of}
use Rattle.agreement.specs.declared.state.Setting.{Setting}
use Rattle.events.specs.declared.event.Event.{Event}
use Rattle.member_state.specs.Changes.{touched, without}
use Rattle.member_table.specs.Entries.{has_serial}
use Rattle.member_table.specs.declared.entry.Entry.{Entry}
use Rattle.outbox.specs.Outboxes.{OutboxOf, closed}
use Rattle.policies.specs.Policies.{PolicyOf}
use Rattle.script_text.specs.declared.audit.DownCause.{DownCause}
use Rattle.script_text.specs.declared.audit.DownCause.TheVariants as causes
use Rattle.switch_meaning.specs.Keys.{installed}
use Rattle.switch_meaning.specs.declared.entry.PhysEntry.{PhysEntry}
use Rattle.switch_state.specs.Messages.{packet_out, switch_messages}
use Rattle.switch_state.specs.Sending.{send_all}
use Rattle.waitings.specs.Waitings.{is_done}
use Rattle.waitings.specs.declared.state.Doubt.{Doubt}
use Rattle.waitings.specs.declared.state.Purpose.{Purpose}
use Rattle.waitings.specs.declared.state.Purpose.TheVariants as purposes
use Rattle.machine_meaning.specs.Acting.{act}
use Rattle.machine_meaning.specs.Batches.{batch_between}
use Rattle.machine_meaning.specs.Composing.{compose, compose_at, compose_on, sent_to, write}
use Rattle.machine_meaning.specs.Counted.{count_of}
use Rattle.machine_meaning.specs.Drafts.{Draft}
use Rattle.machine_meaning.specs.Lists.{changed_at, places}
use Rattle.machine_meaning.specs.Phases.{draft_of}
use Rattle.machine_meaning.specs.Removing.{with_kept}
use Rattle.machine_meaning.specs.Requests.{dispatch, dispatched, dispatched_if_up, poll, poll_at, polled}
use Rattle.machine_meaning.specs.Requests.{polled_if_up, request, sent_one}
use Rattle.machine_meaning.specs.Rounds.{Closing, close, close_member, close_switch, end_member, end_switch}
use Rattle.machine_meaning.specs.Rounds.{ended_member, ended_switch}
use Rattle.machine_meaning.specs.Sessions.{is_switch, standing_of}
use Rattle.machine_meaning.specs.Settings.{setting_of}
use Rattle.machine_meaning.specs.Settling.{decided, decided_on, entries_at, settle, settle_for, settle_one}
use Rattle.machine_meaning.specs.Settling.{with_risen, with_undone, without_idle}
use Rattle.machine_meaning.specs.States.{MemberOf, State, SwitchOf}
use Rattle.machine_meaning.specs.Telling.{tell}
use Rattle.machine_meaning.specs.Ways.{switches_of}
use Rattle.machine_meaning.specs.declared.said.Asked.{Asked}
use Rattle.machine_meaning.specs.declared.said.Sent.{Sent}
use Rattle.machine_meaning.proofs.Composed.{fold_holds}
use Rattle.machine_meaning.proofs.Numbered.{changed_unseen}
use Rattle.written_tables.proofs.Boxes.{Boxes, IsLasting, boxes_of, member_box, seen_changed, switch_box}

module _ (p : PolicyOf) (Q : Boxes → Type 0) (ends : IsLasting Q) where
  abbrev pub Holds : Draft → Type 0
  Holds d = Q (boxes_of d)

  -- changes that outboxes don't see
  pub members_still : (d : Draft) (ms : List MemberOf) → map member_box ms ≡ map member_box d.state.members → Holds d
      → Q (record (boxes_of d) { members = map member_box ms })
  members_still d ms same h = subst (λ (bs : List OutboxOf). Q (record (boxes_of d) { members = bs })) (sym same) h

  pub switches_still : (d : Draft) (xs : List SwitchOf) → map switch_box xs ≡ map switch_box d.state.switches → Holds d
      → Q (record (boxes_of d) { switches = map switch_box xs })
  switches_still d xs same h = subst (λ (bs : List OutboxOf). Q (record (boxes_of d) { switches = bs })) (sym same) h

  pub member_still : (n : ℕ) (f : MemberOf → MemberOf) → ((x : MemberOf) → (f x).outbox ≡ x.outbox) → (d : Draft)
      → Holds d → Q (record (boxes_of d) { members = map member_box (changed_at n f d.state.members) })
  member_still n f same d h =
      members_still d (changed_at n f d.state.members) (changed_unseen member_box f same n d.state.members) h

  pub switch_still : (n : ℕ) (f : SwitchOf → SwitchOf) → ((x : SwitchOf) → (f x).outbox ≡ x.outbox) → (d : Draft)
      → Holds d → Q (record (boxes_of d) { switches = map switch_box (changed_at n f d.state.switches) })
  switch_still n f same d h =
      switches_still d (changed_at n f d.state.switches) (changed_unseen switch_box f same n d.state.switches) h

  -- rounds that end
  pub member_ends : (n : ℕ) (d : Draft) → Holds d → Holds (end_member n d)
  member_ends n d h =
      subst (λ (bs : List OutboxOf). Q (record (boxes_of d) { members = bs }))
      (sym (seen_changed member_box ended_member closed (λ x. refl) n d.state.members))
      (ends.member n (boxes_of d) h)

  pub ended : (n : ℕ) (cause : DownCause) (d : Draft) → Holds d → Holds (end_switch n cause d)
  ended n cause d h =
      subst (λ (bs : List OutboxOf). Q (record (boxes_of d) { switches = bs }))
      (sym (seen_changed switch_box ended_switch closed (λ x. refl) n d.state.switches))
      (ends.switch n (boxes_of d) h)

  -- closing
  closed_holds : (c : Closing) (d : Draft) → Holds d → Holds (close c d)
  closed_holds c d h =
      fold_holds close_member Holds (λ b n k. member_ends n b k) c.members (fold close_switch d c.switches)
      (fold_holds close_switch Holds (λ b n k. ended n causes.Slow b k) c.switches d h)

  -- settling
  settle_holds : (purpose : Purpose) (d : Draft) → Holds d → Holds (settle_for p purpose d)
  settle_holds (purposes.Flow asker f) d h = h
  settle_holds (purposes.Aggregate asker f) d h = h
  settle_holds (purposes.Port asker port_no told) d h = h
  settle_holds (purposes.Idle doubts) d h =
      fold_holds decided (λ (s : State). Q (boxes_of (record d { state = s }))) one doubts d.state h
    where
      one : (s : State) (doubt : Doubt) → Q (boxes_of (record d { state = s }))
          → Q (boxes_of (record d { state = decided s doubt }))
      one s doubt k = found (find (has_serial doubt.serial) (entries_at (slice_get s.members doubt.member)))
        where
          found : (o : Option Entry) → Q (boxes_of (record d { state = decided_on o doubt s }))
          found None = k
          found (Some entry) = risen (nat_lt doubt.packets (count_of s doubt.member doubt.serial).packets)
            where
              risen : (b : Bool) → Q (boxes_of (record d {
                state = if b then with_risen doubt s else without_idle doubt entry s;
              }))
              risen true =
                  member_still doubt.member (with_kept (touched doubt.serial s.moment)) (λ y. refl)
                  (record d { state = s }) k
              risen false =
                  member_still doubt.member (with_kept (without doubt.serial)) (λ y. refl) (record d { state = s }) k
  settle_holds (purposes.Barrier asker) d h = h

  settled_holds : (d : Draft) → Holds d → Holds (settle p d)
  settled_holds d h =
      fold_holds (settle_one p) Holds (λ b w k. settle_holds w.purpose b k) (filter is_done d.state.waiting)
      (with_undone d) h

  -- composing
  compose_at_holds : (setting : Setting) (d : Draft) (k : ℕ) → Holds d → Holds (compose_at setting d k)
  compose_at_holds setting d k h = by (slice_get d.state.switches k)
    where
      wanted : List PhysEntry
      wanted = installed (entries_of setting k)

      by : (o : Option SwitchOf) → Holds (compose_on k o wanted d)
      by None = h
      by (Some x) = up x.outbox.up
        where
          up : (u : Bool) → Holds (if u
              then write k x wanted (batch_between d.state.next_cookie (standing_of d.state k) wanted) d else d)
          up true =
              switch_still k (sent_to (send_all (switch_messages (is_switch k d.begun)
              (batch_between d.state.next_cookie (standing_of d.state k) wanted))
              (record { known = x.known; messages = [] }))) (λ y. refl) d h
          up false = h

  composed_holds : (d : Draft) → Holds d → Holds (compose p d)
  composed_holds d h =
      fold_holds (compose_at (setting_of p d.state)) Holds (compose_at_holds (setting_of p d.state))
      (places d.state.switches) d h

  -- telling
  poll_holds : (a : Asked) (d : Draft) (n : ℕ) → Holds d → Holds (poll_at a d n)
  poll_holds a d n h = by (slice_get d.state.switches n)
    where
      by : (o : Option SwitchOf) → Holds (polled_if_up n o a d)
      by None = h
      by (Some x) = up x.outbox.up
        where
          up : (u : Bool) → Holds (if u then polled n x a d else d)
          up true = switch_still n (sent_to (sent_one x (request a))) (λ y. refl) d h
          up false = h

  polls_hold : (d : Draft) (a : Asked) → Holds d → Holds (poll p d a)
  polls_hold d a h = by (nat_lt a.v (length p.virtuals))
    where
      by : (b : Bool) → Holds (if b then fold (poll_at a) d (switches_of p a.v) else d)
      by true = fold_holds (poll_at a) Holds (poll_holds a) (switches_of p a.v) d h
      by false = h

  dispatch_holds : (d : Draft) (a : Sent) → Holds d → Holds (dispatch d a)
  dispatch_holds d a h = by (slice_get d.state.switches a.switch)
    where
      by : (o : Option SwitchOf) → Holds (dispatched_if_up o a d)
      by None = h
      by (Some x) = up x.outbox.up
        where
          up : (u : Bool) → Holds (if u then dispatched a.switch x (packet_out a.port a.bytes) d else d)
          up true = switch_still a.switch (sent_to (sent_one x (packet_out a.port a.bytes))) (λ y. refl) d h
          up false = h

  told_all : (before : State) (d : Draft) → Holds d → Holds (tell p before d)
  told_all before d h =
      fold_holds dispatch Holds dispatch_holds d.sent (fold (poll p) d d.asked)
      (fold_holds (poll p) Holds polls_hold d.asked d h)

  -- what holds once an event has acted holds of its draft
  pub rest_holds : (s : State) (e : Event) (c : Closing) → Holds (act p s e) → Holds (draft_of p s e c)
  rest_holds s e c h =
      let closed = close c (act p s e) in
      told_all s (compose p (settle p closed))
      (composed_holds (settle p closed) (settled_holds closed (closed_holds c (act p s e) h)))
