-- What holds of views, and stays so whatever an event does, holds before switches are composed.
use Rattle.std.proofs.Common.{◌≡◌, ℕ, Bool, true, false, List, [], ◌∷◌, filter, append-nil, Option, Some, None}
use Rattle.std.proofs.Common.{Result, Ok, Err, if◌then◌else◌, refl, subst}
use Rattle.std.specs.Prelude.{find, fold, nat_lt, slice_get}
use Rattle.cv_io.specs.declared.leaf.Who.{Who}
use Rattle.cv_io.specs.declared.leaf.Who.TheVariants.{Audit, Member, Switch}
use Rattle.grants.specs.declared.denial.Denial.{Denial}
use Rattle.member_state.specs.Changes.{accepted, removed_by as removed_entries, touched, without}
use Rattle.member_table.specs.Entries.{has_serial}
use Rattle.member_table.specs.declared.entry.Entry.{Entry}
use Rattle.of10_msgs.specs.Reading.{reading}
use Rattle.of10_msgs.specs.Senders.{reading_of_controller}
use Rattle.of10_msgs.specs.declared.fault.FormFault.{FormFault}
use Rattle.of10_msgs.specs.declared.message.Body.{Body}
use Rattle.of10_msgs.specs.declared.message.Body.TheVariants as bodies
use Rattle.of10_msgs.specs.declared.message.Message.{Message}
use Rattle.of10_stats.specs.Reading.{reply_in, request_in}
use Rattle.of10_stats.specs.declared.fault.StatsFault.{StatsFault}
use Rattle.of10_stats.specs.declared.reply.ReplyBody.{ReplyBody}
use Rattle.of10_stats.specs.declared.reply.ReplyBody.TheVariants as replies
use Rattle.of10_stats.specs.declared.reply.StatsReply.{StatsReply}
use Rattle.of10_stats.specs.declared.request.StatsRequest.{StatsRequest}
use Rattle.of10_stats.specs.declared.request.StatsRequest.TheVariants as requests
use Rattle.policy_expr.specs.Policy.{Policy}
use Rattle.policy_expr.specs.Reading.{reading as reading_of_expression}
use Rattle.policy_expr.specs.declared.fault.ExprFault.{ExprFault}
use Rattle.policies.specs.Exprs.{names}
use Rattle.policies.specs.Policies.{PolicyOf, plan}
use Rattle.policies.specs.Widths.{too_wide_in}
use Rattle.policies.specs.declared.policy.MemberItem.{MemberItem}
use Rattle.script_text.specs.declared.audit.DownCause.{DownCause}
use Rattle.script_text.specs.declared.audit.DownCause.TheVariants as causes
use Rattle.switch_meaning.specs.Counts.{Numbers}
use Rattle.switch_state.specs.Reports.{answered_number, barrier_reply, port_status, removal}
use Rattle.switch_state.specs.declared.removal.Removal.{Removal}
use Rattle.switch_state.specs.declared.removal.Removal.TheVariants.{Ignored, Strange, Taken}
use Rattle.virtual_topology.specs.Rows.{Spot}
use Rattle.virtual_topology.specs.Wires.{entering_of}
use Rattle.machine_meaning.specs.Acting.{act, sends}
use Rattle.machine_meaning.specs.Barriers.{barrier_answered, barrier_for, unanswered_of}
use Rattle.machine_meaning.specs.Coming.{comes_up, end_first, goes, noting}
use Rattle.machine_meaning.specs.Counted.{count_of}
use Rattle.machine_meaning.specs.Drafts.{Draft, untouched}
use Rattle.machine_meaning.specs.Glances.{is_present}
use Rattle.machine_meaning.specs.Lists.{changed_at, places}
use Rattle.machine_meaning.specs.MemberMessages.{denial_of, hears_from as hears_from_member, judged, serve}
use Rattle.machine_meaning.specs.MemberMessages.{serve_read, with_config}
use Rattle.machine_meaning.specs.Names.{virtual_of}
use Rattle.machine_meaning.specs.Packets.{comes_by}
use Rattle.machine_meaning.specs.Parts.{part_told}
use Rattle.machine_meaning.specs.Phases.{settled_of}
use Rattle.machine_meaning.specs.Removals.{removed_by}
use Rattle.machine_meaning.specs.Removing.{with_kept, without_expired}
use Rattle.machine_meaning.specs.Replacing.{exprs_with, replace_by, replace_unless, width_refusal}
use Rattle.machine_meaning.specs.Rounds.{Closing, begin_member, begin_switch, begun_member, close, close_member}
use Rattle.machine_meaning.specs.Rounds.{close_switch, end_member, end_switch, ended_member}
use Rattle.machine_meaning.specs.Sessions.{is_up}
use Rattle.machine_meaning.specs.Settling.{decided, decided_on, entries_at, settle, settle_for, settle_one}
use Rattle.machine_meaning.specs.Settling.{with_risen, with_undone, without_idle}
use Rattle.machine_meaning.specs.States.{MemberOf, State, SwitchOf}
use Rattle.machine_meaning.specs.Statistics.{statistics}
use Rattle.machine_meaning.specs.SwitchMessages.{hears, hears_from, hears_read, is_ignored, statistics_told}
use Rattle.machine_meaning.specs.Ticking.{doubt_at, doubts_at, poll_for, ticks}
use Rattle.waitings.specs.Waitings.{is_done}
use Rattle.events.specs.declared.event.Event.{Event}
use Rattle.events.specs.declared.event.Event.TheVariants as events
use Rattle.events.specs.declared.event.PolicyRefusal.{PolicyRefusal}
use Rattle.machine_meaning.specs.declared.state.Owed.{Owed}
use Rattle.waitings.specs.declared.state.Doubt.{Doubt}
use Rattle.waitings.specs.declared.state.Part.{Part}
use Rattle.waitings.specs.declared.state.Purpose.{Purpose}
use Rattle.waitings.specs.declared.state.Purpose.TheVariants as purposes
use Rattle.machine_meaning.proofs.Composed.{fold_holds}
use Rattle.machine_meaning.proofs.Moves.{idle_moves, message_moves, touched_moves}
use Rattle.machine_meaning.proofs.Views.{IsHeard, IsStable, View, ended_at, ended_down, present_up, status_same}
use Rattle.machine_meaning.proofs.Views.{view_of, was_down}

module _ (Q : View → Type 0) (stable : IsStable Q) where
  abbrev Holds : Draft → Type 0
  Holds d = Q (view_of d.state)

  ended : (n : ℕ) (cause : DownCause) (d : Draft) → Holds d → Holds (end_switch n cause d)
  ended n cause d h = stable.ended n (view_of d.state) h

  up_holds : (p : PolicyOf) (who : Who) (arp : Bool) (d : Draft) → Holds d → Holds (comes_up p who arp d)
  up_holds p (Member n) arp d h = by (is_up d.state (Member n))
    where
      by : (u : Bool) → Holds (begin_member n (if u then end_member n d else d))
      by true =
          stable.member n begun_member (λ x. refl)
          (record (view_of d.state) { members = changed_at n ended_member d.state.members })
          (stable.member n ended_member (λ x. refl) (view_of d.state) h)
      by false = stable.member n begun_member (λ x. refl) (view_of d.state) h
  up_holds p (Switch n) arp d h =
      noted arp (begin_switch n (end_first (Switch n) d)) (by (is_up d.state (Switch n)) refl)
    where
      noted : (b : Bool) (e : Draft) → Holds e → Holds (noting p n b e)
      noted true e k = k
      noted false e k = k

      by : (u : Bool) → is_up d.state (Switch n) ≡ u
          → Holds (begin_switch n (if u then end_switch n causes.Again d else d))
      by true t =
          stable.begun n (ended_at n (view_of d.state)) (ended_down n (view_of d.state))
          (stable.ended n (view_of d.state) h)
      by false t = stable.begun n (view_of d.state) (was_down d.state n t) h
  up_holds p Audit arp d h = h

  gone_holds : (who : Who) (d : Draft) → Holds d → Holds (goes who d)
  gone_holds (Member n) d h = stable.member n ended_member (λ x. refl) (view_of d.state) h
  gone_holds (Switch n) d h = ended n causes.Gone d h
  gone_holds Audit d h = h

  -- members' messages
  asked_holds : (p : PolicyOf) (n v : ℕ) (x : MemberOf) (xid : ℕ) (r : Result StatsRequest StatsFault) (d : Draft)
      → Holds d → Holds (statistics p n v x xid r d)
  asked_holds p n v x xid (Ok requests.Desc) d h = h
  asked_holds p n v x xid (Ok requests.Table) d h = h
  asked_holds p n v x xid (Ok (requests.Flow m table_id out_port)) d h = h
  asked_holds p n v x xid (Ok (requests.Aggregate m table_id out_port)) d h = h
  asked_holds p n v x xid (Ok (requests.Port port_no)) d h = h
  asked_holds p n v x xid (Err fault) d h = h

  barrier_holds : (n v xid : ℕ) (parts : List Part) (d : Draft) → Holds d → Holds (barrier_for n v xid parts d)
  barrier_holds n v xid [] d h = h
  barrier_holds n v xid (part ∷ parts) d h = h

  serve_holds : (p : PolicyOf) (n : ℕ) (m : MemberItem) (x : MemberOf) (xid : ℕ) (body : Body) (d : Draft)
      → slice_get d.state.members n ≡ Some x → Holds d → Holds (serve p n m x xid body d)
  serve_holds p n m x xid (bodies.SetConfig flags len) d at h =
      stable.member n (with_config (record { flags = flags; miss_send_len = len })) (λ y. refl) (view_of d.state) h
  serve_holds p n m x xid (bodies.FlowMod change) d at h =
      stable.moved n 2 d.state.moment (accepted change d.state.moment) (removed_entries change x.kept)
      (view_of d.state) x at (message_moves x.kept.table change d.state.moment) h
  serve_holds p n m x xid (bodies.StatsRequest body) d at h =
      asked_holds p n (virtual_of m) x xid (request_in body) d h
  serve_holds p n m x xid bodies.BarrierRequest d at h =
      barrier_holds n (virtual_of m) xid (unanswered_of p d.state (virtual_of m)) d h
  serve_holds p n m x xid body d at h = h

  read_holds : (p : PolicyOf) (n : ℕ) (m : MemberItem) (x : MemberOf) (r : Result Message FormFault) (d : Draft)
      → slice_get d.state.members n ≡ Some x → Holds d → Holds (serve_read p n m x r d)
  read_holds p n m x (Ok message) d at h = serve_holds p n m x message.xid message.body d at h
  read_holds p n m x (Err fault) d at h = h

  judged_holds : (p : PolicyOf) (n : ℕ) (m : MemberItem) (x : MemberOf) (frame : List ℕ) (o : Option Denial)
      (d : Draft) → slice_get d.state.members n ≡ Some x → Holds d → Holds (judged p n m x frame o d)
  judged_holds p n m x frame (Some denied) d at h = h
  judged_holds p n m x frame None d at h = read_holds p n m x (reading_of_controller frame) d at h

  member_holds : (p : PolicyOf) (n : ℕ) (m : Option MemberItem) (x : Option MemberOf) (frame : List ℕ) (d : Draft)
      → slice_get d.state.members n ≡ x → Holds d → Holds (hears_from_member p n m x frame d)
  member_holds p n (Some m) (Some x) frame d at h = judged_holds p n m x frame (denial_of p m x frame) d at h
  member_holds p n (Some m) None frame d at h = h
  member_holds p n None (Some x) frame d at h = h
  member_holds p n None None frame d at h = h

  -- switches' messages
  comes_holds : (p : PolicyOf) (total : ℕ) (bytes : List ℕ) (o : Option Spot) (d : Draft) → Holds d
      → Holds (comes_by p total bytes o d)
  comes_holds p total bytes None d h = h
  comes_holds p total bytes (Some (v, port)) d h = h

  answered_holds : (n : ℕ) (x : SwitchOf) (xid : ℕ) (o : Option ℕ) (d : Draft) → slice_get d.state.switches n ≡ Some x
      → x.outbox.up ≡ true → Holds d → Holds (barrier_answered n xid o d)
  answered_holds n x xid None d at up h = h
  answered_holds n x xid (Some number) d at up h =
      stable.known n (barrier_reply xid) (λ y. record { xid = refl; first = refl; deleted = refl }) (view_of d.state) x
      at up h

  part_holds : (p : PolicyOf) (n xid : ℕ) (more : Bool) (body : ReplyBody) (d : Draft) → Holds d
      → Holds (part_told p n xid more body d)
  part_holds p n xid more (replies.Desc texts) d h = h
  part_holds p n xid more (replies.Flow entries) d h = h
  part_holds p n xid more (replies.Aggregate packets bytes flows) d h = h
  part_holds p n xid more (replies.Table id name wildcards most active lookup matched) d h = h
  part_holds p n xid more (replies.Port stats) d h = h

  told_holds : (p : PolicyOf) (n xid : ℕ) (r : Result StatsReply StatsFault) (d : Draft) → Holds d
      → Holds (statistics_told p n xid r d)
  told_holds p n xid (Ok reply) d h = part_holds p n xid reply.more reply.body d h
  told_holds p n xid (Err fault) d h = ended n causes.Form d h

  removed_holds : (n : ℕ) (x : SwitchOf) (r : Removal) (cookie : ℕ) (numbers : Numbers) (d : Draft)
      → slice_get d.state.switches n ≡ Some x → x.outbox.up ≡ true → removal x.known cookie ≡ r → Holds d
      → Holds (removed_by n r cookie numbers d)
  removed_holds n x Ignored cookie numbers d at up e h = h
  removed_holds n x Taken cookie numbers d at up e h = stable.removed n cookie numbers (view_of d.state) x at up e h
  removed_holds n x Strange cookie numbers d at up e h = ended n causes.Removal d h

  hears_holds : (p : PolicyOf) (n : ℕ) (x : SwitchOf) (xid : ℕ) (body : Body) (d : Draft)
      → slice_get d.state.switches n ≡ Some x → x.outbox.up ≡ true → Holds d → Holds (hears p n x xid body d)
  hears_holds p n x xid (bodies.Error kind code bytes) d at up h = ended n causes.Error d h
  hears_holds p n x xid (bodies.PacketIn buffer total port reason bytes) d at up h =
      comes_holds p total bytes (entering_of (plan p) n port) d h
  hears_holds p n x xid (bodies.FlowRemoved a cookie priority reason sec nsec idle packets bytes) d at up h =
      removed_holds n x (removal x.known cookie) cookie (record { packets = packets; bytes = bytes }) d at up refl h
  hears_holds p n x xid (bodies.PortStatus reason port) d at up h =
      stable.known n (port_status reason port) (status_same reason port) (view_of d.state) x at up h
  hears_holds p n x xid (bodies.StatsReply body) d at up h = told_holds p n xid (reply_in body) d h
  hears_holds p n x xid bodies.BarrierReply d at up h =
      answered_holds n x xid (answered_number xid x.known) d at up h
  hears_holds p n x xid body d at up h = h

  switch_read_holds : (p : PolicyOf) (n : ℕ) (x : SwitchOf) (r : Result Message FormFault) (d : Draft)
      → slice_get d.state.switches n ≡ Some x → x.outbox.up ≡ true → Holds d → Holds (hears_read p n x r d)
  switch_read_holds p n x (Ok m) d at up h = hears_holds p n x m.xid m.body d at up h
  switch_read_holds p n x (Err fault) d at up h = ended n causes.Form d h

  switch_holds : (p : PolicyOf) (n round : ℕ) (o : Option SwitchOf) (frame : List ℕ) (d : Draft)
      → is_present d.state (record { who = Switch n; round = round }) ≡ true → slice_get d.state.switches n ≡ o
      → Holds d → Holds (hears_from p n o frame d)
  switch_holds p n round None frame d there at h = h
  switch_holds p n round (Some x) frame d there at h = by (is_ignored frame)
    where
      by : (b : Bool) → Holds (if b then d else hears_read p n x (reading frame) d)
      by true = h
      by false = switch_read_holds p n x (reading frame) d at (present_up d.state n round x there at) h

  sends_holds : (p : PolicyOf) (who : Who) (round : ℕ) (frame : List ℕ) (d : Draft)
      → is_present d.state (record { who = who; round = round }) ≡ true → Holds d → Holds (sends p who frame d)
  sends_holds p (Member n) round frame d there h =
      member_holds p n (slice_get p.members n) (slice_get d.state.members n) frame d refl h
  sends_holds p (Switch n) round frame d there h =
      switch_holds p n round (slice_get d.state.switches n) frame d there refl h
  sends_holds p Audit round frame d there h = h

  -- ticks and expressions
  doubt_holds : (p : PolicyOf) (v : ℕ) (doubts : List Doubt) (d : Draft) → Holds d → Holds (poll_for p v doubts d)
  doubt_holds p v [] d h = h
  doubt_holds p v (doubt ∷ doubts) d h = h

  tick_holds : (p : PolicyOf) (now : ℕ) (d : Draft) → Holds d → Holds (ticks p now d)
  tick_holds p now d h =
      fold_holds (doubt_at p) Holds (λ e v k. doubt_holds p v (doubts_at p e.state v) e k) (places p.virtuals)
      (record d { state = without_expired (record d.state { moment = now }) })
      (stable.expired now (view_of d.state) h)

  unless_holds : (p : PolicyOf) (v : ℕ) (e : Policy) (o : Option PolicyRefusal) (d : Draft) → Holds d
      → Holds (replace_unless o p v e d)
  unless_holds p v e (Some refusal) d h = h
  unless_holds p v e None d h = h

  replace_holds : (p : PolicyOf) (v : ℕ) (r : Result Policy ExprFault) (d : Draft) → Holds d
      → Holds (replace_by p v r d)
  replace_holds p v (Ok e) d h =
      unless_holds p v e (width_refusal (too_wide_in (plan p) p.members (exprs_with v e d.state.exprs) p.hops)) d h
  replace_holds p v (Err fault) d h = h

  act_holds : (p : PolicyOf) (s : State) (e : Event) → IsHeard s e → Q (view_of s) → Holds (act p s e)
  act_holds p s (events.Up who arp) there h = up_holds p who arp (untouched s) h
  act_holds p s (events.Msg session frame) there h =
      sends_holds p session.who session.round frame (untouched s) there h
  act_holds p s (events.Gone session) there h = gone_holds session.who (untouched s) h
  act_holds p s (events.Tick second) there h = tick_holds p second (untouched s) h
  act_holds p s (events.Take session) there h = h
  act_holds p s (events.Policy v text) there h =
      replace_holds p v (reading_of_expression (names p.members v) text) (untouched s) h

  -- closing
  closed_holds : (c : Closing) (d : Draft) → Holds d → Holds (close c d)
  closed_holds c d h =
      fold_holds close_member Holds (λ e n k. stable.member n ended_member (λ x. refl) (view_of e.state) k) c.members
      (fold close_switch d c.switches)
      (fold_holds close_switch Holds (λ e n k. ended n causes.Slow e k) c.switches d h)

  -- settling
  decided_holds : (s : State) (doubt : Doubt) → Q (view_of s) → Q (view_of (decided s doubt))
  decided_holds s doubt h = by (slice_get s.members doubt.member) refl
    where
      v : View
      v = view_of s

      by : (o : Option MemberOf) → slice_get s.members doubt.member ≡ o
          → Q (view_of (decided_on (find (has_serial doubt.serial) (entries_at o)) doubt s))
      by None at = h
      by (Some x) at = found (find (has_serial doubt.serial) x.kept.table.entries) refl
        where
          found : (o : Option Entry) → find (has_serial doubt.serial) x.kept.table.entries ≡ o
              → Q (view_of (decided_on o doubt s))
          found None e = h
          found (Some entry) e = risen (nat_lt doubt.packets (count_of s doubt.member doubt.serial).packets)
            where
              risen : (b : Bool) → Q (view_of (if b then with_risen doubt s else without_idle doubt entry s))
              risen true =
                  subst (λ (owed : List Owed). Q (record v {
                    members = changed_at doubt.member (with_kept (touched doubt.serial s.moment)) s.members;
                    owed = owed;
                  })) (append-nil s.owed)
                  (stable.moved doubt.member 0 0 (touched doubt.serial s.moment) [] v x at
                  (touched_moves doubt.serial s.moment x.kept.table) h)
              risen false =
                  stable.moved doubt.member 0 s.moment (without doubt.serial) (entry ∷ []) v x at
                  (idle_moves doubt.serial x.kept.table entry e) h

  settle_holds : (p : PolicyOf) (purpose : Purpose) (d : Draft) → Holds d → Holds (settle_for p purpose d)
  settle_holds p (purposes.Flow asker f) d h = h
  settle_holds p (purposes.Aggregate asker f) d h = h
  settle_holds p (purposes.Port asker port_no told) d h = h
  settle_holds p (purposes.Idle doubts) d h =
      fold_holds decided (λ (s : State). Q (view_of s)) decided_holds doubts d.state h
  settle_holds p (purposes.Barrier asker) d h = h

  all_settled : (p : PolicyOf) (d : Draft) → Holds d → Holds (settle p d)
  all_settled p d h =
      fold_holds (settle_one p) Holds (λ e w k. settle_holds p w.purpose e k) (filter is_done d.state.waiting)
      (with_undone d) h

  -- after what settles it still holds
  pub settled_holds : (p : PolicyOf) (s : State) (e : Event) (c : Closing) → IsHeard s e → Q (view_of s)
      → Q (view_of (settled_of p s e c).state)
  settled_holds p s e c there h =
      all_settled p (close c (act p s e)) (closed_holds c (act p s e) (act_holds p s e there h))
