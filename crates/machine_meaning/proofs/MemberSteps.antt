-- What a step does to members' tables: it changes them by messages that are accepted, by entries that go and by counts
-- that rose, and by nothing else; and the next cookie only rises.
use Rattle.std.proofs.Common.{◌≡◌, ℕ, Bool, true, false, List, filter}
use Rattle.std.proofs.Common.{Option, Some, None, find, fold, length, nat_lt, slice_get, refl, arith}
use Rattle.std.proofs.Common.{if◌then◌else◌}
use Rattle.agreement.specs.Entries.{entries_of}
use Rattle.agreement.specs.declared.state.Setting.{Setting}
use Rattle.cv_io.specs.declared.leaf.Who.{Who}
use Rattle.cv_io.specs.declared.leaf.Who.TheVariants.{Audit, Member, Switch}
use Rattle.events.specs.declared.event.Event.{Event}
use Rattle.events.specs.declared.event.Event.TheVariants as events
use Rattle.events.specs.declared.event.Reply.{Reply}
use Rattle.member_state.specs.Changes.{touched, without}
use Rattle.member_state.specs.States.{MemberStateOf}
use Rattle.member_table.specs.Entries.{has_serial}
use Rattle.member_table.specs.declared.entry.Entry.{Entry}
use Rattle.of10_msgs.specs.declared.message.FlowMod.{FlowMod}
use Rattle.policies.specs.Policies.{PolicyOf}
use Rattle.switch_meaning.specs.Keys.{installed}
use Rattle.switch_meaning.specs.declared.entry.PhysEntry.{PhysEntry}
use Rattle.switch_state.specs.Messages.{packet_out}
use Rattle.waitings.specs.Waitings.{is_done}
use Rattle.waitings.specs.declared.state.Doubt.{Doubt}
use Rattle.waitings.specs.declared.state.Purpose.{Purpose}
use Rattle.waitings.specs.declared.state.Purpose.TheVariants as purposes
use Rattle.machine_meaning.specs.Acting.{act}
use Rattle.machine_meaning.specs.Batches.{batch_between}
use Rattle.machine_meaning.specs.Composing.{compose, compose_at, compose_on, write}
use Rattle.machine_meaning.specs.Counted.{count_of}
use Rattle.machine_meaning.specs.Drafts.{Draft}
use Rattle.machine_meaning.specs.Glances.{glance_of}
use Rattle.machine_meaning.specs.Hearing.{heard}
use Rattle.machine_meaning.specs.Lists.{places}
use Rattle.machine_meaning.specs.Phases.{draft_of, settled_of, slow}
use Rattle.machine_meaning.specs.Putting.{put}
use Rattle.machine_meaning.specs.Removing.{with_kept}
use Rattle.machine_meaning.specs.Requests.{dispatch, dispatched, dispatched_if_up, poll, poll_at, polled, polled_if_up}
use Rattle.machine_meaning.specs.Requests.{request_all}
use Rattle.machine_meaning.specs.Rounds.{Closing, close, close_member}
use Rattle.machine_meaning.specs.Rounds.{close_switch}
use Rattle.machine_meaning.specs.Sessions.{standing_of}
use Rattle.machine_meaning.specs.Settings.{setting_of}
use Rattle.machine_meaning.specs.Settling.{decided, decided_on, entries_at, settle, settle_for, settle_one, with_risen}
use Rattle.machine_meaning.specs.Settling.{with_undone, without_idle}
use Rattle.machine_meaning.specs.States.{State, SwitchOf}
use Rattle.machine_meaning.specs.Steps.{step_by, step_of}
use Rattle.machine_meaning.specs.Takings.{left_by}
use Rattle.machine_meaning.specs.Telling.{tell}
use Rattle.machine_meaning.specs.Ways.{switches_of}
use Rattle.machine_meaning.specs.declared.said.Asked.{Asked}
use Rattle.machine_meaning.specs.declared.said.Sent.{Sent}
use Rattle.machine_meaning.proofs.MemberActs.{act-moves, ended}
use Rattle.machine_meaning.proofs.MemberChanges.{GoesOn, GoodEvent, IsChange, Moves, folded, folded-states, follow-put}
use Rattle.machine_meaning.proofs.MemberChanges.{follow-same, next-rises, on, one, still}

module _ (Good : FlowMod → Type 0) (R : MemberStateOf → MemberStateOf → Type 0) (law : IsChange Good R) where
  -- the later phases ------------------------------------------------------------------------------------------------

  closed-moves : (c : Closing) (d : Draft) → Moves R d (close c d)
  closed-moves c d =
      let e = fold close_switch d c.switches in
      on law d.state e.state (close c d).state (folded law close_switch (λ f n. still law f.state) c.switches d)
      (folded law close_member (λ f n. ended Good R law n f) c.members e)

  decided-moves : (s : State) (doubt : Doubt) → GoesOn R s (decided s doubt)
  decided-moves s doubt = by (find (has_serial doubt.serial) (entries_at (slice_get s.members doubt.member)))
    where
      by : (o : Option Entry) → GoesOn R s (decided_on o doubt s)
      by None = still law s
      by (Some e) = risen (nat_lt doubt.packets (count_of s doubt.member doubt.serial).packets)
        where
          risen : (b : Bool) → GoesOn R s (if b then with_risen doubt s else without_idle doubt e s)
          risen true =
              one law s doubt.member (with_kept (touched doubt.serial s.moment))
              (λ x. law.count doubt.serial s.moment x.kept)
          risen false = one law s doubt.member (with_kept (without doubt.serial)) (λ x. law.removal doubt.serial x.kept)

  settle-moves : (p : PolicyOf) (purpose : Purpose) (d : Draft) → Moves R d (settle_for p purpose d)
  settle-moves p (purposes.Flow asker f) d = still law d.state
  settle-moves p (purposes.Aggregate asker f) d = still law d.state
  settle-moves p (purposes.Port asker port_no told) d = still law d.state
  settle-moves p (purposes.Idle doubts) d = folded-states law decided decided-moves doubts d.state
  settle-moves p (purposes.Barrier asker) d = still law d.state

  settled-moves : (p : PolicyOf) (d : Draft) → Moves R d (settle p d)
  settled-moves p d =
      folded law (settle_one p) (λ e w. settle-moves p w.purpose e) (filter is_done d.state.waiting) (with_undone d)

  compose-moves-at : (setting : Setting) (d : Draft) (k : ℕ) → Moves R d (compose_at setting d k)
  compose-moves-at setting d k = by (slice_get d.state.switches k)
    where
      wanted : List PhysEntry
      wanted = installed (entries_of setting k)

      by : (o : Option SwitchOf) → Moves R d (compose_on k o wanted d)
      by None = still law d.state
      by (Some x) = up x.outbox.up
        where
          up : (u : Bool) → Moves R d
              (if u then write k x wanted (batch_between d.state.next_cookie (standing_of d.state k) wanted) d else d)
          up true = (
            follow-same law d.state.members,
            next-rises d.state.next_cookie (batch_between d.state.next_cookie (standing_of d.state k) wanted).adds,
          )
          up false = still law d.state

  composed-moves : (p : PolicyOf) (d : Draft) → Moves R d (compose p d)
  composed-moves p d =
      folded law (compose_at (setting_of p d.state)) (λ e k. compose-moves-at (setting_of p d.state) e k)
      (places d.state.switches) d

  poll-moves-at : (a : Asked) (d : Draft) (n : ℕ) → Moves R d (poll_at a d n)
  poll-moves-at a d n = by (slice_get d.state.switches n)
    where
      by : (o : Option SwitchOf) → Moves R d (polled_if_up n o a d)
      by None = still law d.state
      by (Some x) = up x.outbox.up
        where
          up : (u : Bool) → Moves R d (if u then polled n x a d else d)
          up true = still law d.state
          up false = still law d.state

  poll-moves : (p : PolicyOf) (d : Draft) (a : Asked) → Moves R d (poll p d a)
  poll-moves p d a = by (nat_lt a.v (length p.virtuals))
    where
      by : (b : Bool) → Moves R d (if b then fold (poll_at a) d (switches_of p a.v) else d)
      by true = folded law (poll_at a) (λ e n. poll-moves-at a e n) (switches_of p a.v) d
      by false = still law d.state

  dispatch-moves : (d : Draft) (o : Sent) → Moves R d (dispatch d o)
  dispatch-moves d o = by (slice_get d.state.switches o.switch)
    where
      by : (x : Option SwitchOf) → Moves R d (dispatched_if_up x o d)
      by None = still law d.state
      by (Some x) = up x.outbox.up
        where
          up : (u : Bool) → Moves R d (if u then dispatched o.switch x (packet_out o.port o.bytes) d else d)
          up true = still law d.state
          up false = still law d.state

  tell-moves : (p : PolicyOf) (before : State) (d : Draft) → Moves R d (tell p before d)
  tell-moves p before d =
      let e = fold (poll p) d d.asked in
      on law d.state e.state (request_all p d).state (folded law (poll p) (poll-moves p) d.asked d)
      (folded law dispatch dispatch-moves d.sent e)

  put-moves : (p : PolicyOf) (d : Draft) → GoesOn R d.state (put p d)
  put-moves p d = (follow-put law d 0 d.state.members, λ lt. (omega arith, lt))

  drafted-moves : (p : PolicyOf) (s : State) (e : Event) (c : Closing) → GoodEvent Good e
      → GoesOn R s (put p (draft_of p s e c))
  drafted-moves p s e c g =
      let acted = act p s e in
      let closed = close c acted in
      let settled = settled_of p s e c in
      let composed = compose p settled in
      let told = tell p s composed in
      on law s acted.state (put p told) (act-moves Good R law p s e g)
      (on law acted.state closed.state (put p told) (closed-moves c acted)
      (on law closed.state settled.state (put p told) (settled-moves p closed)
      (on law settled.state composed.state (put p told) (composed-moves p settled)
      (on law composed.state told.state (put p told) (tell-moves p s composed) (put-moves p told)))))

  -- steps -----------------------------------------------------------------------------------------------------------

  left-moves : (who : Who) (round : ℕ) (s : State) → GoesOn R s (left_by who round s)
  left-moves (Member n) round s = one law s n _ (λ x. law.same x.kept)
  left-moves (Switch n) round s = still law s
  left-moves Audit round s = still law s

  abbrev Stepped : PolicyOf → State → Event → Option Reply → Type 0
  Stepped p s e o = GoesOn R s (step_by o p s e).1

  through : (p : PolicyOf) (s : State) (e : Event) → GoodEvent Good e
      → GoesOn R s (put p (draft_of p (heard s e) e (slow p (heard s e) e)))
  through p s e g = drafted-moves p (heard s e) e (slow p (heard s e) e) g

  forth : (p : PolicyOf) (s : State) (e : Event) → GoodEvent Good e → Stepped p s e None
  forth p s (events.Up who arp) g = through p s (events.Up who arp) g
  forth p s (events.Msg session frame) g = through p s (events.Msg session frame) g
  forth p s (events.Gone session) g = through p s (events.Gone session) g
  forth p s (events.Tick second) g = through p s (events.Tick second) g
  forth p s (events.Take session) g = left-moves session.who session.round s
  forth p s (events.Policy v text) g = through p s (events.Policy v text) g

  stepped : (p : PolicyOf) (s : State) (e : Event) (o : Option Reply) → (o ≡ None → GoodEvent Good e)
      → Stepped p s e o
  stepped p s e (Some reply) g = still law s
  stepped p s e None g = forth p s e (g refl)

  -- an event that isn't answered at once is to be good
  pub steps-go-on : (p : PolicyOf) (s : State) (e : Event) → (glance_of p s e ≡ None → GoodEvent Good e)
      → GoesOn R s (step_of p s e).1
  steps-go-on p s e g = stepped p s e (glance_of p s e) g
