-- Through all phases of a step the members and the switches stay as many, the lines of the audit and the moment stay,
-- and the reply is what the event's own work made it.
use Rattle.std.proofs.Common.{◌≡◌, ◌∙◌, ℕ, Bool, true, false, List, [], ◌∷◌, length, map, filter, Option, Some, None}
use Rattle.std.proofs.Common.{Result, Ok, Err, find, fold, nat_lt, slice_get, if◌then◌else◌}
use Rattle.std.proofs.lemmas.List.{length-map}
use Rattle.agreement.specs.Entries.{entries_of}
use Rattle.agreement.specs.declared.state.Setting.{Setting}
use Rattle.cv_io.specs.declared.leaf.Who.{Who}
use Rattle.cv_io.specs.declared.leaf.Who.TheVariants.{Audit, Member, Switch}
use Rattle.events.specs.declared.event.Event.{Event}
use Rattle.events.specs.declared.event.Reply.{Reply}
use Rattle.grants.specs.declared.denial.Denial.{Denial}
use Rattle.install_plan.specs.declared.written.Batch.{Batch}
use Rattle.machine_meaning.proofs.Composed.{fold_holds}
use Rattle.machine_meaning.proofs.Readied.{long_changed}
use Rattle.machine_meaning.specs.Acting.{act, sends}
use Rattle.machine_meaning.specs.Barriers.{barrier_answered, barrier_for, unanswered_of, with_known}
use Rattle.machine_meaning.specs.Batches.{batch_between}
use Rattle.machine_meaning.specs.Coming.{end_first, goes}
use Rattle.machine_meaning.specs.Composing.{compose, compose_at, compose_on, sent_to, write}
use Rattle.machine_meaning.specs.Counted.{count_of}
use Rattle.machine_meaning.specs.Drafts.{Draft}
use Rattle.machine_meaning.specs.Lists.{changed_at, places}
use Rattle.machine_meaning.specs.MemberMessages.{denial_of, hears_from as hears_from_member, judged, serve}
use Rattle.machine_meaning.specs.MemberMessages.{serve_read, with_config}
use Rattle.machine_meaning.specs.Names.{virtual_of}
use Rattle.machine_meaning.specs.Packets.{comes_by}
use Rattle.machine_meaning.specs.Parts.{part_told}
use Rattle.machine_meaning.specs.Phases.{draft_of, settled_of}
use Rattle.machine_meaning.specs.Removals.{removed_by}
use Rattle.machine_meaning.specs.Removing.{with_kept, without_expired}
use Rattle.machine_meaning.specs.Requests.{dispatch, dispatched, dispatched_if_up, poll, poll_at, polled}
use Rattle.machine_meaning.specs.Requests.{polled_if_up, request, sent_one}
use Rattle.machine_meaning.specs.Rounds.{Closing, close, close_member, close_switch, end_member, end_switch}
use Rattle.machine_meaning.specs.Rounds.{ended_member, ended_switch}
use Rattle.machine_meaning.specs.Sessions.{is_switch, is_up, standing_of}
use Rattle.machine_meaning.specs.Settings.{setting_of}
use Rattle.machine_meaning.specs.Settling.{decided, decided_on, entries_at, settle, settle_for, settle_one}
use Rattle.machine_meaning.specs.Settling.{with_risen, with_undone, without_idle}
use Rattle.machine_meaning.specs.States.{MemberOf, State, SwitchOf}
use Rattle.machine_meaning.specs.Statistics.{statistics}
use Rattle.machine_meaning.specs.SwitchMessages.{hears, hears_from, hears_read, is_ignored, statistics_told}
use Rattle.machine_meaning.specs.Telling.{tell}
use Rattle.machine_meaning.specs.Ticking.{doubt_at, doubts_at, poll_for, ticks}
use Rattle.machine_meaning.specs.Ways.{switches_of}
use Rattle.machine_meaning.specs.declared.said.Asked.{Asked}
use Rattle.machine_meaning.specs.declared.said.Sent.{Sent}
use Rattle.member_state.specs.Changes.{accepted, expired, touched, without}
use Rattle.member_table.specs.Entries.{has_serial}
use Rattle.member_table.specs.declared.entry.Entry.{Entry}
use Rattle.of10_msgs.specs.Reading.{reading}
use Rattle.of10_msgs.specs.Senders.{reading_of_controller}
use Rattle.of10_msgs.specs.declared.fault.FormFault.{FormFault}
use Rattle.of10_msgs.specs.declared.message.Body.{Body}
use Rattle.of10_msgs.specs.declared.message.Message.{Message}
use Rattle.of10_stats.specs.Reading.{reply_in, request_in}
use Rattle.of10_stats.specs.declared.fault.StatsFault.{StatsFault}
use Rattle.of10_stats.specs.declared.reply.ReplyBody.{ReplyBody}
use Rattle.of10_stats.specs.declared.reply.StatsReply.{StatsReply}
use Rattle.of10_stats.specs.declared.request.StatsRequest.{StatsRequest}
use Rattle.policies.specs.Policies.{PolicyOf, plan}
use Rattle.policies.specs.declared.policy.MemberItem.{MemberItem}
use Rattle.script_text.specs.declared.audit.DownCause.{DownCause}
use Rattle.switch_meaning.specs.Counts.{Numbers}
use Rattle.switch_meaning.specs.Keys.{installed}
use Rattle.switch_meaning.specs.declared.entry.PhysEntry.{PhysEntry}
use Rattle.switch_state.specs.Messages.{packet_out, switch_messages}
use Rattle.switch_state.specs.Reports.{answered_number, barrier_reply, flow_removed, port_status, removal}
use Rattle.switch_state.specs.Sending.{send_all}
use Rattle.switch_state.specs.declared.removal.Removal.{Removal}
use Rattle.switch_state.specs.declared.removal.Removal.TheVariants.{Ignored, Strange, Taken}
use Rattle.virtual_topology.specs.Rows.{Spot}
use Rattle.virtual_topology.specs.Wires.{entering_of}
use Rattle.waitings.specs.Waitings.{is_done}
use Rattle.waitings.specs.declared.state.Doubt.{Doubt}
use Rattle.waitings.specs.declared.state.Part.{Part}
use Rattle.waitings.specs.declared.state.Purpose.{Purpose}
use Rattle.of10_msgs.specs.declared.message.Body.TheVariants as bodies
use Rattle.of10_stats.specs.declared.reply.ReplyBody.TheVariants as replies
use Rattle.of10_stats.specs.declared.request.StatsRequest.TheVariants as requests
use Rattle.script_text.specs.declared.audit.DownCause.TheVariants as causes
use Rattle.waitings.specs.declared.state.Purpose.TheVariants as purposes

long_map : {X Y : Type 0} (f : X → Y) (xs : List X) → length (map f xs) ≡ length xs
long_map f xs = length-map xs f

-- so many members and switches, these lines of the audit and this moment, and this reply
module _ (m k : ℕ) (a : List (List ℕ) × ℕ) (r : Reply) where
  -- but that the moment may be another one
  abbrev pub HoldsAt : ℕ → Draft → Type 0
  HoldsAt now d = (length d.state.members ≡ m) × (length d.state.switches ≡ k) × ((d.state.audit, now) ≡ a)
      × (d.reply ≡ r)

  abbrev pub Holds : Draft → Type 0
  Holds d = HoldsAt d.state.moment d

  -- one member or switch becomes another
  member : (n : ℕ) (f : MemberOf → MemberOf) (d : Draft) → Holds d
      → (length (changed_at n f d.state.members) ≡ m) × (length d.state.switches ≡ k)
      × ((d.state.audit, d.state.moment) ≡ a) × (d.reply ≡ r)
  member n f d h = (long_changed n f d.state.members ∙ h.0, h.1, h.2, h.3)

  switch : (n : ℕ) (f : SwitchOf → SwitchOf) (d : Draft) → Holds d
      → (length d.state.members ≡ m) × (length (changed_at n f d.state.switches) ≡ k)
      × ((d.state.audit, d.state.moment) ≡ a) × (d.reply ≡ r)
  switch n f d h = (h.0, long_changed n f d.state.switches ∙ h.1, h.2, h.3)

  ended : (n : ℕ) (cause : DownCause) (d : Draft) → Holds d → Holds (end_switch n cause d)
  ended n cause d h = switch n ended_switch d h

  pub gone_holds : (who : Who) (d : Draft) → Holds d → Holds (goes who d)
  gone_holds (Member n) d h = member n ended_member d h
  gone_holds (Switch n) d h = ended n causes.Gone d h
  gone_holds Audit d h = h

  pub first_holds : (who : Who) (d : Draft) → Holds d → Holds (end_first who d)
  first_holds (Member n) d h = by (is_up d.state (Member n))
    where
      by : (u : Bool) → Holds (if u then end_member n d else d)
      by true = member n ended_member d h
      by false = h
  first_holds (Switch n) d h = by (is_up d.state (Switch n))
    where
      by : (u : Bool) → Holds (if u then end_switch n causes.Again d else d)
      by true = ended n causes.Again d h
      by false = h
  first_holds Audit d h = h

  -- members' messages
  asked_holds : (p : PolicyOf) (n v : ℕ) (x : MemberOf) (xid : ℕ) (r : Result StatsRequest StatsFault) (d : Draft)
      → Holds d → Holds (statistics p n v x xid r d)
  asked_holds p n v x xid (Ok requests.Desc) d h = h
  asked_holds p n v x xid (Ok requests.Table) d h = h
  asked_holds p n v x xid (Ok (requests.Flow m table_id out_port)) d h = h
  asked_holds p n v x xid (Ok (requests.Aggregate m table_id out_port)) d h = h
  asked_holds p n v x xid (Ok (requests.Port port_no)) d h = h
  asked_holds p n v x xid (Err fault) d h = h

  barrier_holds : (n v xid : ℕ) (parts : List Part) (d : Draft) → Holds d → Holds (barrier_for n v xid parts d)
  barrier_holds n v xid [] d h = h
  barrier_holds n v xid (part ∷ parts) d h = h

  serve_holds : (p : PolicyOf) (n : ℕ) (m : MemberItem) (x : MemberOf) (xid : ℕ) (body : Body) (d : Draft)
      → Holds d → Holds (serve p n m x xid body d)
  serve_holds p n m x xid (bodies.SetConfig flags len) d h =
      member n (with_config (record { flags = flags; miss_send_len = len })) d h
  serve_holds p n m x xid (bodies.FlowMod change) d h =
      member n (with_kept (accepted change d.state.moment)) d h
  serve_holds p n m x xid (bodies.StatsRequest body) d h =
      asked_holds p n (virtual_of m) x xid (request_in body) d h
  serve_holds p n m x xid bodies.BarrierRequest d h =
      barrier_holds n (virtual_of m) xid (unanswered_of p d.state (virtual_of m)) d h
  serve_holds p n m x xid body d h = h

  read_holds : (p : PolicyOf) (n : ℕ) (m : MemberItem) (x : MemberOf) (r : Result Message FormFault) (d : Draft)
      → Holds d → Holds (serve_read p n m x r d)
  read_holds p n m x (Ok message) d h = serve_holds p n m x message.xid message.body d h
  read_holds p n m x (Err fault) d h = h

  judged_holds : (p : PolicyOf) (n : ℕ) (m : MemberItem) (x : MemberOf) (frame : List ℕ) (o : Option Denial)
      (d : Draft) → Holds d → Holds (judged p n m x frame o d)
  judged_holds p n m x frame (Some denied) d h = h
  judged_holds p n m x frame None d h = read_holds p n m x (reading_of_controller frame) d h

  member_holds : (p : PolicyOf) (n : ℕ) (m : Option MemberItem) (x : Option MemberOf) (frame : List ℕ) (d : Draft)
      → Holds d → Holds (hears_from_member p n m x frame d)
  member_holds p n (Some m) (Some x) frame d h = judged_holds p n m x frame (denial_of p m x frame) d h
  member_holds p n (Some m) None frame d h = h
  member_holds p n None (Some x) frame d h = h
  member_holds p n None None frame d h = h

  -- switches' messages
  comes_holds : (p : PolicyOf) (total : ℕ) (bytes : List ℕ) (o : Option Spot) (d : Draft) → Holds d
      → Holds (comes_by p total bytes o d)
  comes_holds p total bytes None d h = h
  comes_holds p total bytes (Some (v, port)) d h = h

  answered_holds : (n : ℕ) (x : SwitchOf) (xid : ℕ) (o : Option ℕ) (d : Draft) → Holds d
      → Holds (barrier_answered n xid o d)
  answered_holds n x xid None d h = h
  answered_holds n x xid (Some number) d h =
      switch n (with_known (barrier_reply xid)) d h

  part_holds : (p : PolicyOf) (n xid : ℕ) (more : Bool) (body : ReplyBody) (d : Draft) → Holds d
      → Holds (part_told p n xid more body d)
  part_holds p n xid more (replies.Desc texts) d h = h
  part_holds p n xid more (replies.Flow entries) d h = h
  part_holds p n xid more (replies.Aggregate packets bytes flows) d h = h
  part_holds p n xid more (replies.Table id name wildcards most active lookup matched) d h = h
  part_holds p n xid more (replies.Port stats) d h = h

  told_holds : (p : PolicyOf) (n xid : ℕ) (r : Result StatsReply StatsFault) (d : Draft) → Holds d
      → Holds (statistics_told p n xid r d)
  told_holds p n xid (Ok reply) d h = part_holds p n xid reply.more reply.body d h
  told_holds p n xid (Err fault) d h = ended n causes.Form d h

  removed_holds : (n : ℕ) (x : SwitchOf) (r : Removal) (cookie : ℕ) (numbers : Numbers) (d : Draft)
      → Holds d
      → Holds (removed_by n r cookie numbers d)
  removed_holds n x Ignored cookie numbers d h = h
  removed_holds n x Taken cookie numbers d h = switch n (with_known (flow_removed cookie)) d h
  removed_holds n x Strange cookie numbers d h = ended n causes.Removal d h

  hears_holds : (p : PolicyOf) (n : ℕ) (x : SwitchOf) (xid : ℕ) (body : Body) (d : Draft)
      → Holds d → Holds (hears p n x xid body d)
  hears_holds p n x xid (bodies.Error kind code bytes) d h = ended n causes.Error d h
  hears_holds p n x xid (bodies.PacketIn buffer total port reason bytes) d h =
      comes_holds p total bytes (entering_of (plan p) n port) d h
  hears_holds p n x xid (bodies.FlowRemoved a cookie priority reason sec nsec idle packets bytes) d h =
      removed_holds n x (removal x.known cookie) cookie (record { packets = packets; bytes = bytes }) d h
  hears_holds p n x xid (bodies.PortStatus reason port) d h =
      switch n (with_known (port_status reason port)) d h
  hears_holds p n x xid (bodies.StatsReply body) d h = told_holds p n xid (reply_in body) d h
  hears_holds p n x xid bodies.BarrierReply d h =
      answered_holds n x xid (answered_number xid x.known) d h
  hears_holds p n x xid body d h = h

  switch_read_holds : (p : PolicyOf) (n : ℕ) (x : SwitchOf) (r : Result Message FormFault) (d : Draft)
      → Holds d → Holds (hears_read p n x r d)
  switch_read_holds p n x (Ok m) d h = hears_holds p n x m.xid m.body d h
  switch_read_holds p n x (Err fault) d h = ended n causes.Form d h

  switch_holds : (p : PolicyOf) (n : ℕ) (o : Option SwitchOf) (frame : List ℕ) (d : Draft)
      → Holds d → Holds (hears_from p n o frame d)
  switch_holds p n None frame d h = h
  switch_holds p n (Some x) frame d h = by (is_ignored frame)
    where
      by : (b : Bool) → Holds (if b then d else hears_read p n x (reading frame) d)
      by true = h
      by false = switch_read_holds p n x (reading frame) d h

  pub sends_holds : (p : PolicyOf) (who : Who) (frame : List ℕ) (d : Draft)
      → Holds d → Holds (sends p who frame d)
  sends_holds p (Member n) frame d h =
      member_holds p n (slice_get p.members n) (slice_get d.state.members n) frame d h
  sends_holds p (Switch n) frame d h =
      switch_holds p n (slice_get d.state.switches n) frame d h
  sends_holds p Audit frame d h = h

  -- ticks and expressions
  doubt_holds : (p : PolicyOf) (v : ℕ) (doubts : List Doubt) (d : Draft) → Holds d → Holds (poll_for p v doubts d)
  doubt_holds p v [] d h = h
  doubt_holds p v (doubt ∷ doubts) d h = h

  pub tick_holds : (p : PolicyOf) (now : ℕ) (d : Draft) → HoldsAt now d → Holds (ticks p now d)
  tick_holds p now d h =
      fold_holds (doubt_at p) Holds (λ e v k. doubt_holds p v (doubts_at p e.state v) e k) (places p.virtuals)
      (record d { state = without_expired (record d.state { moment = now }) })
      (long_map (with_kept (expired now)) d.state.members ∙ h.0, h.1, h.2, h.3)

  -- closing
  closed_holds : (c : Closing) (d : Draft) → Holds d → Holds (close c d)
  closed_holds c d h =
      fold_holds close_member Holds (λ e n t. member n ended_member e t) c.members (fold close_switch d c.switches)
      (fold_holds close_switch Holds (λ e n t. ended n causes.Slow e t) c.switches d h)

  -- settling
  abbrev AreMany : State → Type 0
  AreMany s = (length s.members ≡ m) × (length s.switches ≡ k) × ((s.audit, s.moment) ≡ a)

  decided_holds : (s : State) (doubt : Doubt) → AreMany s → AreMany (decided s doubt)
  decided_holds s doubt h = by (find (has_serial doubt.serial) (entries_at (slice_get s.members doubt.member)))
    where
      by : (o : Option Entry) → AreMany (decided_on o doubt s)
      by None = h
      by (Some e) = risen (nat_lt doubt.packets (count_of s doubt.member doubt.serial).packets)
        where
          risen : (b : Bool) → AreMany (if b then with_risen doubt s else without_idle doubt e s)
          risen true = (long_changed doubt.member (with_kept (touched doubt.serial s.moment)) s.members ∙ h.0, h.1, h.2)
          risen false = (long_changed doubt.member (with_kept (without doubt.serial)) s.members ∙ h.0, h.1, h.2)

  settle_holds : (p : PolicyOf) (purpose : Purpose) (d : Draft) → Holds d → Holds (settle_for p purpose d)
  settle_holds p (purposes.Flow asker f) d h = h
  settle_holds p (purposes.Aggregate asker f) d h = h
  settle_holds p (purposes.Port asker port_no told) d h = h
  settle_holds p (purposes.Idle doubts) d h =
      let t = fold_holds decided AreMany decided_holds doubts d.state (h.0, h.1, h.2) in (t.0, t.1, t.2, h.3)
  settle_holds p (purposes.Barrier asker) d h = h

  settled_holds : (p : PolicyOf) (d : Draft) → Holds d → Holds (settle p d)
  settled_holds p d h =
      fold_holds (settle_one p) Holds (λ e w t. settle_holds p w.purpose e t) (filter is_done d.state.waiting)
      (with_undone d) h

  -- composing
  composed_at : (setting : Setting) (d : Draft) (n : ℕ) → Holds d → Holds (compose_at setting d n)
  composed_at setting d n h = by (slice_get d.state.switches n)
    where
      wanted : List PhysEntry
      wanted = installed (entries_of setting n)

      batch : Batch
      batch = batch_between d.state.next_cookie (standing_of d.state n) wanted

      by : (o : Option SwitchOf) → Holds (compose_on n o wanted d)
      by None = h
      by (Some x) = up x.outbox.up
        where
          up : (u : Bool) → Holds (if u then write n x wanted batch d else d)
          up true =
              switch n (sent_to (send_all (switch_messages (is_switch n d.begun) batch)
              (record { known = x.known; messages = [] }))) d h
          up false = h

  composed_holds : (p : PolicyOf) (d : Draft) → Holds d → Holds (compose p d)
  composed_holds p d h =
      fold_holds (compose_at (setting_of p d.state)) Holds (λ e n t. composed_at (setting_of p d.state) e n t)
      (places d.state.switches) d h

  -- telling
  poll_holds : (a : Asked) (d : Draft) (n : ℕ) → Holds d → Holds (poll_at a d n)
  poll_holds a d n h = by (slice_get d.state.switches n)
    where
      by : (o : Option SwitchOf) → Holds (polled_if_up n o a d)
      by None = h
      by (Some x) = up x.outbox.up
        where
          up : (u : Bool) → Holds (if u then polled n x a d else d)
          up true = switch n (sent_to (sent_one x (request a))) d h
          up false = h

  polls_hold : (p : PolicyOf) (d : Draft) (a : Asked) → Holds d → Holds (poll p d a)
  polls_hold p d a h = by (nat_lt a.v (length p.virtuals))
    where
      by : (b : Bool) → Holds (if b then fold (poll_at a) d (switches_of p a.v) else d)
      by true = fold_holds (poll_at a) Holds (λ e n t. poll_holds a e n t) (switches_of p a.v) d h
      by false = h

  dispatch_holds : (d : Draft) (o : Sent) → Holds d → Holds (dispatch d o)
  dispatch_holds d o h = by (slice_get d.state.switches o.switch)
    where
      by : (x : Option SwitchOf) → Holds (dispatched_if_up x o d)
      by None = h
      by (Some x) = up x.outbox.up
        where
          up : (u : Bool) → Holds (if u then dispatched o.switch x (packet_out o.port o.bytes) d else d)
          up true = switch o.switch (sent_to (sent_one x (packet_out o.port o.bytes))) d h
          up false = h

  tell_holds : (p : PolicyOf) (before : State) (d : Draft) → Holds d → Holds (tell p before d)
  tell_holds p before d h =
      fold_holds dispatch Holds dispatch_holds d.sent (fold (poll p) d d.asked)
      (fold_holds (poll p) Holds (polls_hold p) d.asked d h)

  -- after an event's own work
  pub drafted_holds : (p : PolicyOf) (s : State) (e : Event) (c : Closing) → Holds (act p s e)
      → Holds (draft_of p s e c)
  drafted_holds p s e c h =
      tell_holds p s (compose p (settled_of p s e c))
      (composed_holds p (settled_of p s e c)
      (settled_holds p (close c (act p s e)) (closed_holds c (act p s e) h)))
