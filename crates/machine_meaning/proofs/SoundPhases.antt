-- The phases after an event's own work leave expressions, members and what is waited for sound.
use Rattle.std.proofs.Common.{◌≡◌, ◌∙◌, ℕ, ◌+◌, ◌<◌, Bool, true, false, not, List, [], ◌∷◌, length, map, filter}
use Rattle.std.proofs.Common.{Option, Some, None, find, fold, nat_lt, slice_get, refl, ap₂, arith, if◌then◌else◌}
use Rattle.std.proofs.lemmas.List.{length-map}
use Rattle.std.proofs.lemmas.List.FromFn.{length-enumerate_from}
use Rattle.std.specs.List.{AllByRecursion, enumerate_from}
use Rattle.agreement.specs.Entries.{entries_of}
use Rattle.agreement.specs.declared.state.Setting.{Setting}
use Rattle.cv_io.specs.declared.leaf.Who.{Who}
use Rattle.cv_io.specs.declared.leaf.Who.TheVariants.{Audit, Member, Switch}
use Rattle.install_plan.specs.Tables.{after}
use Rattle.install_plan.specs.declared.written.Batch.{Batch}
use Rattle.install_plan.specs.declared.written.Written.{Written}
use Rattle.member_table.specs.Entries.{has_serial}
use Rattle.member_table.specs.declared.entry.Entry.{Entry}
use Rattle.outbox.specs.Outboxes.{OutboxOf, is_open, later, taken}
use Rattle.policies.specs.Policies.{PolicyOf}
use Rattle.switch_meaning.specs.Keys.{installed}
use Rattle.switch_meaning.specs.declared.entry.PhysEntry.{PhysEntry}
use Rattle.switch_state.specs.Messages.{packet_out, switch_messages}
use Rattle.switch_state.specs.Sending.{Sending, send_all}
use Rattle.waitings.specs.Waitings.{is_done, with_xid}
use Rattle.waitings.specs.declared.state.Doubt.{Doubt}
use Rattle.waitings.specs.declared.state.Purpose.{Purpose}
use Rattle.waitings.specs.declared.state.Purpose.TheVariants as purposes
use Rattle.waitings.specs.declared.state.Waiting.{Waiting}
use Rattle.machine_meaning.specs.Batches.{batch_between, next_after, standing_after}
use Rattle.machine_meaning.specs.Composing.{compose, compose_at, compose_on, sent_to, write}
use Rattle.machine_meaning.specs.Counted.{count_of}
use Rattle.machine_meaning.specs.Drafts.{Draft}
use Rattle.machine_meaning.specs.Lists.{changed_at, places}
use Rattle.machine_meaning.specs.Putting.{for_member, put, put_to_member, put_to_switch}
use Rattle.machine_meaning.specs.Removing.{with_kept}
use Rattle.machine_meaning.specs.Requests.{dispatch, dispatched, dispatched_if_up, poll, poll_at, polled, polled_if_up}
use Rattle.machine_meaning.specs.Requests.{request, request_all, sent_one}
use Rattle.machine_meaning.specs.Rounds.{Closing, close, close_member, close_switch}
use Rattle.machine_meaning.specs.Sessions.{is_switch, standing_of}
use Rattle.machine_meaning.specs.Settings.{setting_of}
use Rattle.machine_meaning.specs.Settling.{decided, decided_on, entries_at, settle, settle_for, settle_one, with_risen}
use Rattle.machine_meaning.specs.Settling.{with_undone, without_idle}
use Rattle.machine_meaning.specs.Sound.{IsSoundMember}
use Rattle.machine_meaning.specs.States.{MemberOf, State, SwitchOf}
use Rattle.machine_meaning.specs.Takings.{left_by}
use Rattle.machine_meaning.specs.Telling.{tell}
use Rattle.machine_meaning.specs.Ways.{switches_of}
use Rattle.machine_meaning.specs.declared.said.Asked.{Asked}
use Rattle.machine_meaning.specs.declared.said.Sent.{Sent}
use Rattle.member_state.specs.Changes.{touched, without}
use Rattle.machine_meaning.proofs.Composed.{fold_holds, next_fits}
use Rattle.machine_meaning.proofs.KeptMembers.{numbered_each, put_kept, taken_kept, touched_member, without_member}
use Rattle.machine_meaning.proofs.KeptWaiting.{IsAwaited, all_made, all_passing, asked_of, left_waits, still_waits}
use Rattle.machine_meaning.proofs.Quiet.{StillWaits}
use Rattle.machine_meaning.proofs.Readied.{long_changed}
use Rattle.machine_meaning.proofs.Requested.{put_up, same_ups}
use Rattle.machine_meaning.proofs.SoundShapes.{IsShaped, Shape, member_ended, other_member, other_members, other_next}
use Rattle.machine_meaning.proofs.SoundShapes.{other_standing, other_switch, other_ups, other_waiting, shape_of}
use Rattle.machine_meaning.proofs.SoundShapes.{switch_ended}
use Rattle.machine_meaning.proofs.WhoIsUp.{member_up, switch_up}

-- cookies -----------------------------------------------------------------------------------------------------------

next_begun : (next : ℕ) (ws : List Written) → 0 < next → 0 < next_after next ws
next_begun next [] h = h
next_begun next (w ∷ ws) h = next_begun (after next) ws (some next)
  where
    some : (n : ℕ) → 0 < after n
    some n = omega arith

-- sessions ----------------------------------------------------------------------------------------------------------

taken_up : (round : ℕ) (o : OutboxOf) → (taken o round).up ≡ o.up
taken_up round o = by (is_open o round)
  where
    by : (b : Bool) → (if b then record o { waiting = later o.waiting } else o).up ≡ o.up
    by true = refl
    by false = refl

ups_put : (d : Draft) (k : ℕ) (xs : List MemberOf)
    → map member_up (map (put_to_member d) (enumerate_from k xs)) ≡ map member_up xs
ups_put d k [] = refl
ups_put d k (x ∷ xs) =
    ap₂ (λ (u : Bool) (us : List Bool). u ∷ us) (put_up (for_member d k) x.outbox) (ups_put d (k + 1) xs)

-- the shape is sound, and all that waits still does
pub record IsSettled (p : PolicyOf) (s : State) : Type 0 where
  pub shape : IsShaped p s
  pub some : AllByRecursion StillWaits s.waiting

module _ (p : PolicyOf) where
  abbrev Holds : Draft → Type 0
  Holds d = IsShaped p d.state

  pub closed_holds : (c : Closing) (d : Draft) → Holds d → Holds (close c d)
  closed_holds c d h =
      fold_holds close_member Holds (λ e n k. member_ended p e.state k n) c.members (fold close_switch d c.switches)
      (fold_holds close_switch Holds (λ e n k. switch_ended p e.state k n) c.switches d h)

  abbrev Settled : Draft → Type 0
  Settled d = IsSettled p d.state

  -- settling --------------------------------------------------------------------------------------------------------

  decided_holds : (s : State) (doubt : Doubt) → IsSettled p s → IsSettled p (decided s doubt)
  decided_holds s doubt h = by (find (has_serial doubt.serial) (entries_at (slice_get s.members doubt.member)))
    where
      by : (o : Option Entry) → IsSettled p (decided_on o doubt s)
      by None = h
      by (Some e) = risen (nat_lt doubt.packets (count_of s doubt.member doubt.serial).packets)
        where
          risen : (b : Bool) → IsSettled p (if b then with_risen doubt s else without_idle doubt e s)
          risen true = record {
            shape =
                other_member p (shape_of s) h.shape doubt.member (with_kept (touched doubt.serial s.moment)) (λ x. refl)
                (λ m x at got k. touched_member p m x k doubt.serial s.moment);
            some = h.some;
          }
          risen false = record {
            shape =
                other_member p (shape_of s) h.shape doubt.member (with_kept (without doubt.serial)) (λ x. refl)
                (λ m x at got k. without_member p m x k doubt.serial);
            some = h.some;
          }

  settle_holds : (purpose : Purpose) (d : Draft) → Settled d → Settled (settle_for p purpose d)
  settle_holds (purposes.Flow asker f) d h = h
  settle_holds (purposes.Aggregate asker f) d h = h
  settle_holds (purposes.Port asker port_no told) d h = h
  settle_holds (purposes.Idle doubts) d h = fold_holds decided (IsSettled p) decided_holds doubts d.state h
  settle_holds (purposes.Barrier asker) d h = h

  pub settled_holds : (d : Draft) → Holds d → Settled (settle p d)
  settled_holds d h =
      let IsSo : Waiting → Type 0 = IsAwaited (map switch_up d.state.switches) (map member_up d.state.members) in
      let test : Waiting → Bool = λ w. not (is_done w) in
      let left = filter test d.state.waiting in
      fold_holds (settle_one p) Settled (λ e w k. settle_holds w.purpose e k) (filter is_done d.state.waiting)
      (with_undone d)
      (record {
        shape =
            other_waiting p (shape_of d.state) h left
            (all_passing IsSo IsSo test (λ w e k. k) d.state.waiting h.waiting);
        some = all_passing IsSo StillWaits test (λ w e k. left_waits w e) d.state.waiting h.waiting;
      })

  -- composing -------------------------------------------------------------------------------------------------------

  written_holds : (n : ℕ) (x : SwitchOf) (wanted : List PhysEntry) (b : Batch) (d : Draft) → Settled d
      → Settled (write n x wanted b d)
  written_holds n x wanted b d h =
      let sent : Sending =
      send_all (switch_messages (is_switch n d.begun) b) (record { known = x.known; messages = [] }) in
      let us = map switch_up (changed_at n (sent_to sent) d.state.switches) in
      let f : List Written → List Written = λ old. standing_after d.state.next_cookie old wanted in
      let one : Shape = record (shape_of d.state) { ups = us } in
      let two : Shape = record one { standing = length (changed_at n f d.state.standing) } in
      let first = other_switch p d.state h.shape n (sent_to sent) (λ y. refl) in
      let second =
      other_standing p one first (length (changed_at n f d.state.standing)) (long_changed n f d.state.standing) in
      record {
        shape =
            other_next p two second (next_after d.state.next_cookie b.adds)
            (next_begun d.state.next_cookie b.adds h.shape.begun) (next_fits d.state.next_cookie b.adds h.shape.fits);
        some = h.some;
      }

  composed_at : (setting : Setting) (d : Draft) (k : ℕ) → Settled d → Settled (compose_at setting d k)
  composed_at setting d k h = by (slice_get d.state.switches k)
    where
      wanted : List PhysEntry
      wanted = installed (entries_of setting k)

      by : (o : Option SwitchOf) → Settled (compose_on k o wanted d)
      by None = h
      by (Some x) = up x.outbox.up
        where
          up : (u : Bool) → Settled
              (if u then write k x wanted (batch_between d.state.next_cookie (standing_of d.state k) wanted) d else d)
          up true = written_holds k x wanted (batch_between d.state.next_cookie (standing_of d.state k) wanted) d h
          up false = h

  pub composed_holds : (d : Draft) → Settled d → Settled (compose p d)
  composed_holds d h =
      fold_holds (compose_at (setting_of p d.state)) Settled (λ e k t. composed_at (setting_of p d.state) e k t)
      (places d.state.switches) d h

  -- telling ---------------------------------------------------------------------------------------------------------

  polled_holds : (n : ℕ) (x : SwitchOf) (a : Asked) (d : Draft) → Settled d → Settled (polled n x a d)
  polled_holds n x a d h =
      let sent = sent_one x (request a) in
      let us = map switch_up (changed_at n (sent_to sent) d.state.switches) in
      let IsSo : Waiting → Type 0 = IsAwaited us (map member_up d.state.members) in
      let k = other_switch p d.state h.shape n (sent_to sent) (λ y. refl) in
      let f : Waiting → Waiting = with_xid a.v n sent.known.xid in
      record {
        shape =
            other_waiting p (record (shape_of d.state) { ups = us }) k (map f d.state.waiting)
            (all_made IsSo IsSo f (asked_of us (map member_up d.state.members) a.v n sent.known.xid) d.state.waiting
            k.waiting);
        some = all_made StillWaits StillWaits f (still_waits a.v n sent.known.xid) d.state.waiting h.some;
      }

  poll_holds : (a : Asked) (d : Draft) (n : ℕ) → Settled d → Settled (poll_at a d n)
  poll_holds a d n h = by (slice_get d.state.switches n)
    where
      by : (o : Option SwitchOf) → Settled (polled_if_up n o a d)
      by None = h
      by (Some x) = up x.outbox.up
        where
          up : (u : Bool) → Settled (if u then polled n x a d else d)
          up true = polled_holds n x a d h
          up false = h

  polls_hold : (d : Draft) (a : Asked) → Settled d → Settled (poll p d a)
  polls_hold d a h = by (nat_lt a.v (length p.virtuals))
    where
      by : (b : Bool) → Settled (if b then fold (poll_at a) d (switches_of p a.v) else d)
      by true = fold_holds (poll_at a) Settled (λ e n k. poll_holds a e n k) (switches_of p a.v) d h
      by false = h

  dispatch_holds : (d : Draft) (o : Sent) → Settled d → Settled (dispatch d o)
  dispatch_holds d o h = by (slice_get d.state.switches o.switch)
    where
      by : (x : Option SwitchOf) → Settled (dispatched_if_up x o d)
      by None = h
      by (Some x) = up x.outbox.up
        where
          up : (u : Bool) → Settled (if u then dispatched o.switch x (packet_out o.port o.bytes) d else d)
          up true = record {
            shape =
                other_switch p d.state h.shape o.switch (sent_to (sent_one x (packet_out o.port o.bytes))) (λ y. refl);
            some = h.some;
          }
          up false = h

  requested_holds : (d : Draft) → Settled d → Settled (request_all p d)
  requested_holds d h =
      fold_holds dispatch Settled dispatch_holds d.sent (fold (poll p) d d.asked)
      (fold_holds (poll p) Settled polls_hold d.asked d h)

  pub told_holds : (before : State) (d : Draft) → Settled d → Settled (tell p before d)
  told_holds before d h =
      let r = requested_holds d h in
      record { shape = r.shape; some = r.some }

  -- putting and taking ----------------------------------------------------------------------------------------------

  pub put_holds : (d : Draft) → Settled d → IsSettled p (put p d)
  put_holds d h =
      let members = map (put_to_member d) (enumerate_from 0 d.state.members) in
      let ups = map switch_up (map (put_to_switch d) (enumerate_from 0 d.state.switches)) in
      let k =
      other_members p (shape_of d.state) h.shape members
      (length-map (enumerate_from 0 d.state.members) (put_to_member d) ∙ length-enumerate_from 0 d.state.members)
      (numbered_each (IsSoundMember p) p.members d.state.members h.shape.members (put_to_member d)
      (λ m i x k. put_kept p m x k d i))
      (ups_put d 0 d.state.members) in
      record {
        shape = other_ups p (record (shape_of d.state) { members = members }) k ups (same_ups p d);
        some = h.some;
      }

  pub taken_holds : (who : Who) (round : ℕ) (s : State) → IsSettled p s → IsSettled p (left_by who round s)
  taken_holds (Member n) round s h = record {
    shape =
        other_member p (shape_of s) h.shape n (λ (x : MemberOf). record x { outbox = taken x.outbox round })
        (λ x. taken_up round x.outbox) (λ m x at got k. taken_kept p m x k round);
    some = h.some;
  }
  taken_holds (Switch n) round s h = record {
    shape =
        other_switch p s h.shape n (λ (x : SwitchOf). record x { outbox = taken x.outbox round })
        (λ x. taken_up round x.outbox);
    some = h.some;
  }
  taken_holds Audit round s h = record { shape = h.shape; some = h.some }
