-- What holds of boxes, and stays so whatever an event does, holds of the event's draft.
use Rattle.std.proofs.Common.{◌≡◌, ℕ, Bool, true, false, List, [], ◌∷◌, map, Option, Some, None, Result, Ok, Err}
use Rattle.std.proofs.Common.{refl, sym, subst}
use Rattle.std.specs.Prelude.{if◌then◌else◌, slice_get}
use Rattle.cv_io.specs.declared.leaf.Who.{Who}
use Rattle.cv_io.specs.declared.leaf.Who.TheVariants.{Audit, Member, Switch}
use Rattle.events.specs.declared.event.Event.{Event}
use Rattle.events.specs.declared.event.Event.TheVariants as events
use Rattle.events.specs.declared.event.PolicyRefusal.{PolicyRefusal}
use Rattle.events.specs.declared.event.PolicyRefusal.TheVariants as refusals
use Rattle.grants.specs.declared.denial.Denial.{Denial}
use Rattle.member_state.specs.Changes.{accepted, expired}
use Rattle.of10_frames.specs.Wire.{xid_field}
use Rattle.of10_msgs.specs.Reading.{reading}
use Rattle.of10_msgs.specs.Senders.{reading_of_controller}
use Rattle.of10_msgs.specs.declared.fault.FormFault.{FormFault}
use Rattle.of10_msgs.specs.declared.message.Body.{Body}
use Rattle.of10_msgs.specs.declared.message.Body.TheVariants as bodies
use Rattle.of10_msgs.specs.declared.message.Message.{Message}
use Rattle.of10_stats.specs.Reading.{reply_in, request_in}
use Rattle.of10_stats.specs.declared.fault.StatsFault.{StatsFault}
use Rattle.of10_stats.specs.declared.reply.ReplyBody.{ReplyBody}
use Rattle.of10_stats.specs.declared.reply.ReplyBody.TheVariants as replies
use Rattle.of10_stats.specs.declared.reply.StatsReply.{StatsReply}
use Rattle.of10_stats.specs.declared.request.StatsRequest.{StatsRequest}
use Rattle.of10_stats.specs.declared.request.StatsRequest.TheVariants as requests
use Rattle.outbox.specs.Outboxes.{OutboxOf, opened}
use Rattle.policy_expr.specs.Policy.{Policy}
use Rattle.policy_expr.specs.Reading.{reading as reading_of_expression}
use Rattle.policy_expr.specs.declared.fault.ExprFault.{ExprFault}
use Rattle.policies.specs.Exprs.{names}
use Rattle.policies.specs.Policies.{PolicyOf, plan}
use Rattle.policies.specs.Widths.{too_wide_in}
use Rattle.policies.specs.declared.policy.MemberItem.{MemberItem}
use Rattle.script_text.specs.declared.audit.DownCause.TheVariants as causes
use Rattle.switch_meaning.specs.Counts.{Numbers}
use Rattle.switch_state.specs.Known.{KnownOf}
use Rattle.switch_state.specs.Reports.{answered_number, barrier_reply, flow_removed, port_status, removal}
use Rattle.switch_state.specs.declared.removal.Removal.{Removal}
use Rattle.switch_state.specs.declared.removal.Removal.TheVariants.{Ignored, Strange, Taken}
use Rattle.virtual_topology.specs.Rows.{Spot}
use Rattle.virtual_topology.specs.Wires.{entering_of}
use Rattle.waitings.specs.declared.state.Doubt.{Doubt}
use Rattle.waitings.specs.declared.state.Part.{Part}
use Rattle.machine_meaning.specs.Acting.{act, sends}
use Rattle.machine_meaning.specs.Barriers.{barrier_answered, barrier_for, unanswered_of, with_known}
use Rattle.machine_meaning.specs.Coming.{comes_up, end_first, goes, noting}
use Rattle.machine_meaning.specs.Drafts.{Draft, untouched}
use Rattle.machine_meaning.specs.Lists.{changed_at, places}
use Rattle.machine_meaning.specs.MemberMessages.{denial_of, hears_from as hears_from_member, judged, serve}
use Rattle.machine_meaning.specs.MemberMessages.{serve_read, with_config}
use Rattle.machine_meaning.specs.Names.{virtual_of}
use Rattle.machine_meaning.specs.Packets.{comes_by}
use Rattle.machine_meaning.specs.Parts.{part_told}
use Rattle.machine_meaning.specs.Phases.{draft_of}
use Rattle.machine_meaning.specs.Removals.{removed_by}
use Rattle.machine_meaning.specs.Removing.{with_kept, without_expired}
use Rattle.machine_meaning.specs.Replacing.{exprs_with, replace_by, replace_unless, width_refusal}
use Rattle.machine_meaning.specs.Rounds.{Closing, begin_member, begin_switch, begun_member, begun_switch, end_member}
use Rattle.machine_meaning.specs.Rounds.{end_switch}
use Rattle.machine_meaning.specs.Sessions.{is_up}
use Rattle.machine_meaning.specs.States.{MemberOf, State, SwitchOf}
use Rattle.machine_meaning.specs.Statistics.{statistics}
use Rattle.machine_meaning.specs.SwitchMessages.{hears, hears_from, hears_read, is_ignored, statistics_told}
use Rattle.machine_meaning.specs.Ticking.{doubt_at, doubts_at, poll_for, ticks}
use Rattle.machine_meaning.proofs.Composed.{fold_holds}
use Rattle.written_tables.proofs.Boxes.{Boxes, IsStable, boxes_of, member_box, seen_changed, switch_box}
use Rattle.written_tables.proofs.Keeping.{ended, member_ends, member_still, members_still, rest_holds, switch_still}

-- a list that is mapped over and looks the same
mapped_unseen : {X Y : Type 0} (v : X → Y) (f : X → X) → ((x : X) → v (f x) ≡ v x) → (xs : List X)
    → map v (map f xs) ≡ map v xs
mapped_unseen v f h [] = refl
mapped_unseen v f h (x ∷ xs) = (λ i. h x i ∷ mapped_unseen v f h xs i)

module _ (p : PolicyOf) (e : Event) (Q : Boxes → Type 0) (stable : IsStable p e Q) where
  abbrev pub Holds : Draft → Type 0
  Holds d = Q (boxes_of d)

  member_begins : (n : ℕ) (arp : Bool) → e ≡ events.Up (Member n) arp → (d : Draft) → Holds d
      → Holds (begin_member n d)
  member_begins n arp is d h =
      subst (λ (bs : List OutboxOf). Q (record (boxes_of d) { members = bs; begun = Some (Member n) }))
      (sym (seen_changed member_box begun_member opened (λ x. refl) n d.state.members))
      (stable.member_begun n arp is (boxes_of d) h)

  switch_begins : (n : ℕ) (arp : Bool) → e ≡ events.Up (Switch n) arp → (d : Draft) → Holds d
      → Holds (begin_switch n d)
  switch_begins n arp is d h =
      subst (λ (bs : List OutboxOf). Q (record (boxes_of d) { switches = bs; begun = Some (Switch n) }))
      (sym (seen_changed switch_box (begun_switch d.state.next_cookie) opened (λ x. refl) n d.state.switches))
      (stable.switch_begun n arp is (boxes_of d) h)

  up_holds : (who : Who) (arp : Bool) → e ≡ events.Up who arp → (d : Draft) → Holds d → Holds (comes_up p who arp d)
  up_holds (Member n) arp is d h = by (is_up d.state (Member n))
    where
      by : (u : Bool) → Holds (begin_member n (if u then end_member n d else d))
      by true = member_begins n arp is (end_member n d) (member_ends p Q stable.ends n d h)
      by false = member_begins n arp is d h
  up_holds (Switch n) arp is d h =
      noting_holds arp (begin_switch n (end_first (Switch n) d)) (by (is_up d.state (Switch n)))
    where
      noting_holds : (b : Bool) (c : Draft) → Holds c → Holds (noting p n b c)
      noting_holds true c k = k
      noting_holds false c k = stable.noted n (boxes_of c) k

      by : (u : Bool) → Holds (begin_switch n (if u then end_switch n causes.Again d else d))
      by true = switch_begins n arp is (end_switch n causes.Again d) (ended p Q stable.ends n causes.Again d h)
      by false = switch_begins n arp is d h
  up_holds Audit arp is d h = h

  gone_holds : (who : Who) (d : Draft) → Holds d → Holds (goes who d)
  gone_holds (Member n) d h = member_ends p Q stable.ends n d h
  gone_holds (Switch n) d h = ended p Q stable.ends n causes.Gone d h
  gone_holds Audit d h = h

  -- members' messages
  asked_holds : (n v : ℕ) (x : MemberOf) (xid : ℕ) (r : Result StatsRequest StatsFault) (d : Draft)
      → Holds d → Holds (statistics p n v x xid r d)
  asked_holds n v x xid (Ok requests.Desc) d h = h
  asked_holds n v x xid (Ok requests.Table) d h = h
  asked_holds n v x xid (Ok (requests.Flow m table_id out_port)) d h = h
  asked_holds n v x xid (Ok (requests.Aggregate m table_id out_port)) d h = h
  asked_holds n v x xid (Ok (requests.Port port_no)) d h = h
  asked_holds n v x xid (Err fault) d h = h

  barrier_holds : (n v xid : ℕ) (parts : List Part) (d : Draft) → Holds d → Holds (barrier_for n v xid parts d)
  barrier_holds n v xid [] d h = h
  barrier_holds n v xid (part ∷ parts) d h = h

  serve_holds : (n : ℕ) (m : MemberItem) (x : MemberOf) (xid : ℕ) (body : Body) (d : Draft) → Holds d
      → Holds (serve p n m x xid body d)
  serve_holds n m x xid (bodies.SetConfig flags len) d h =
      member_still p Q stable.ends n (with_config (record { flags = flags; miss_send_len = len })) (λ y. refl) d h
  serve_holds n m x xid (bodies.FlowMod change) d h =
      member_still p Q stable.ends n (with_kept (accepted change d.state.moment)) (λ y. refl) d h
  serve_holds n m x xid (bodies.StatsRequest body) d h = asked_holds n (virtual_of m) x xid (request_in body) d h
  serve_holds n m x xid bodies.BarrierRequest d h =
      barrier_holds n (virtual_of m) xid (unanswered_of p d.state (virtual_of m)) d h
  serve_holds n m x xid body d h = h

  read_holds : (n : ℕ) (m : MemberItem) (x : MemberOf) (r : Result Message FormFault) (d : Draft) → Holds d
      → Holds (serve_read p n m x r d)
  read_holds n m x (Ok message) d h = serve_holds n m x message.xid message.body d h
  read_holds n m x (Err fault) d h = h

  judged_holds : (n : ℕ) (m : MemberItem) → slice_get p.members n ≡ Some m → (x : MemberOf) (frame : List ℕ)
      (o : Option Denial) (d : Draft) → Holds d → Holds (judged p n m x frame o d)
  judged_holds n m at x frame (Some denial) d h = stable.denied n m at (xid_field frame) denial (boxes_of d) h
  judged_holds n m at x frame None d h = read_holds n m x (reading_of_controller frame) d h

  member_holds : (n : ℕ) (m : Option MemberItem) → slice_get p.members n ≡ m → (x : Option MemberOf) (frame : List ℕ)
      (d : Draft) → Holds d → Holds (hears_from_member p n m x frame d)
  member_holds n (Some m) at (Some x) frame d h = judged_holds n m at x frame (denial_of p m x frame) d h
  member_holds n (Some m) at None frame d h = h
  member_holds n None at (Some x) frame d h = h
  member_holds n None at None frame d h = h

  -- switches' messages
  known_holds : (n : ℕ) (f : KnownOf → KnownOf) (d : Draft) → Holds d
      → Q (record (boxes_of d) { switches = map switch_box (changed_at n (with_known f) d.state.switches) })
  known_holds n f d h = switch_still p Q stable.ends n (with_known f) (λ x. refl) d h

  comes_holds : (total : ℕ) (bytes : List ℕ) (o : Option Spot) (d : Draft) → Holds d
      → Holds (comes_by p total bytes o d)
  comes_holds total bytes None d h = h
  comes_holds total bytes (Some (v, port)) d h = h

  answered_holds : (n xid : ℕ) (o : Option ℕ) (d : Draft) → Holds d → Holds (barrier_answered n xid o d)
  answered_holds n xid None d h = h
  answered_holds n xid (Some number) d h = known_holds n (barrier_reply xid) d h

  part_holds : (n xid : ℕ) (more : Bool) (body : ReplyBody) (d : Draft) → Holds d
      → Holds (part_told p n xid more body d)
  part_holds n xid more (replies.Desc texts) d h = h
  part_holds n xid more (replies.Flow entries) d h = h
  part_holds n xid more (replies.Aggregate packets bytes flows) d h = h
  part_holds n xid more (replies.Table id name wildcards most active lookup matched) d h = h
  part_holds n xid more (replies.Port stats) d h = h

  told_holds : (n xid : ℕ) (r : Result StatsReply StatsFault) (d : Draft) → Holds d
      → Holds (statistics_told p n xid r d)
  told_holds n xid (Ok reply) d h = part_holds n xid reply.more reply.body d h
  told_holds n xid (Err fault) d h = ended p Q stable.ends n causes.Form d h

  removed_holds : (n : ℕ) (r : Removal) (cookie : ℕ) (numbers : Numbers) (d : Draft) → Holds d
      → Holds (removed_by n r cookie numbers d)
  removed_holds n Ignored cookie numbers d h = h
  removed_holds n Taken cookie numbers d h = known_holds n (flow_removed cookie) d h
  removed_holds n Strange cookie numbers d h = ended p Q stable.ends n causes.Removal d h

  hears_holds : (n : ℕ) (x : SwitchOf) (xid : ℕ) (body : Body) (d : Draft) → Holds d → Holds (hears p n x xid body d)
  hears_holds n x xid (bodies.Error kind code bytes) d h = ended p Q stable.ends n causes.Error d h
  hears_holds n x xid (bodies.PacketIn buffer total port reason bytes) d h =
      comes_holds total bytes (entering_of (plan p) n port) d h
  hears_holds n x xid (bodies.FlowRemoved a cookie priority reason sec nsec idle packets bytes) d h =
      removed_holds n (removal x.known cookie) cookie (record { packets = packets; bytes = bytes }) d h
  hears_holds n x xid (bodies.PortStatus reason port) d h = known_holds n (port_status reason port) d h
  hears_holds n x xid (bodies.StatsReply body) d h = told_holds n xid (reply_in body) d h
  hears_holds n x xid bodies.BarrierReply d h = answered_holds n xid (answered_number xid x.known) d h
  hears_holds n x xid body d h = h

  switch_read_holds : (n : ℕ) (x : SwitchOf) (r : Result Message FormFault) (d : Draft) → Holds d
      → Holds (hears_read p n x r d)
  switch_read_holds n x (Ok m) d h = hears_holds n x m.xid m.body d h
  switch_read_holds n x (Err fault) d h = ended p Q stable.ends n causes.Form d h

  switch_holds : (n : ℕ) (o : Option SwitchOf) (frame : List ℕ) (d : Draft) → Holds d → Holds (hears_from p n o frame d)
  switch_holds n None frame d h = h
  switch_holds n (Some x) frame d h = by (is_ignored frame)
    where
      by : (b : Bool) → Holds (if b then d else hears_read p n x (reading frame) d)
      by true = h
      by false = switch_read_holds n x (reading frame) d h

  sends_holds : (who : Who) (frame : List ℕ) (d : Draft) → Holds d → Holds (sends p who frame d)
  sends_holds (Member n) frame d h =
      member_holds n (slice_get p.members n) refl (slice_get d.state.members n) frame d h
  sends_holds (Switch n) frame d h = switch_holds n (slice_get d.state.switches n) frame d h
  sends_holds Audit frame d h = h

  -- ticks and expressions
  doubt_holds : (v : ℕ) (doubts : List Doubt) (d : Draft) → Holds d → Holds (poll_for p v doubts d)
  doubt_holds v [] d h = h
  doubt_holds v (doubt ∷ doubts) d h = h

  tick_holds : (now : ℕ) (d : Draft) → Holds d → Holds (ticks p now d)
  tick_holds now d h =
      let c = record d { state = without_expired (record d.state { moment = now }) } in
      fold_holds (doubt_at p) Holds (λ b v k. doubt_holds v (doubts_at p b.state v) b k) (places p.virtuals) c
      (members_still p Q stable.ends d c.state.members
      (mapped_unseen member_box (with_kept (expired now)) (λ x. refl) d.state.members) h)

  unless_holds : (v : ℕ) (x : Policy) (o : Option PolicyRefusal) (d : Draft) → Holds d
      → Holds (replace_unless o p v x d)
  unless_holds v x (Some refusal) d h = stable.replaced v (Some refusal) (boxes_of d) h
  unless_holds v x None d h = stable.replaced v None (boxes_of d) h

  replace_holds : (v : ℕ) (r : Result Policy ExprFault) (d : Draft) → Holds d → Holds (replace_by p v r d)
  replace_holds v (Ok x) d h =
      unless_holds v x (width_refusal (too_wide_in (plan p) p.members (exprs_with v x d.state.exprs) p.hops)) d h
  replace_holds v (Err fault) d h = stable.replaced v (Some (refusals.Expr fault)) (boxes_of d) h

  pub act_holds : (s : State) → Holds (untouched s) → Holds (act p s e)
  act_holds s h = by e refl
    where
      by : (f : Event) → e ≡ f → Holds (act p s f)
      by (events.Up who arp) is = up_holds who arp is (untouched s) h
      by (events.Msg session frame) is = sends_holds session.who frame (untouched s) h
      by (events.Gone session) is = gone_holds session.who (untouched s) h
      by (events.Tick second) is = tick_holds second (untouched s) h
      by (events.Take session) is = h
      by (events.Policy v text) is = replace_holds v (reading_of_expression (names p.members v) text) (untouched s) h

  pub draft_holds : (s : State) (c : Closing) → Holds (untouched s) → Holds (draft_of p s e c)
  draft_holds s c h = rest_holds p Q stable.ends s e c (act_holds s h)
