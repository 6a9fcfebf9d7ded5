-- An event's own work leaves expressions, members and what is waited for sound.
use Rattle.std.proofs.Common.{◌≡◌, ◌∙◌, ℕ, ◌==◌, ◌&&◌, Bool, true, false, List, [], ◌∷◌, ◌++◌, map, option_map, Option}
use Rattle.std.proofs.Common.{Some, None, Result, Ok, Err, slice_get, refl, sym, ap, ap₂, if◌then◌else◌}
use Rattle.std.specs.List.{AllByRecursion}
use Rattle.std.specs.Option.{option_map_or}
use Rattle.cv_io.specs.declared.leaf.Who.{Who}
use Rattle.cv_io.specs.declared.leaf.Who.TheVariants.{Audit, Member, Switch}
use Rattle.events.specs.declared.event.Event.{Event}
use Rattle.events.specs.declared.event.Event.TheVariants as events
use Rattle.events.specs.declared.event.PolicyRefusal.{PolicyRefusal}
use Rattle.grants.specs.declared.denial.Denial.{Denial}
use Rattle.member_replies.specs.Filters.{filter_of}
use Rattle.member_state.specs.Changes.{accepted, expired}
use Rattle.member_state.specs.Denials.{denial as flow_denial}
use Rattle.member_table.proofs.Least.{and_true}
use Rattle.of10_actions.specs.Actions.{AreInRange}
use Rattle.of10_msgs.specs.Ranges.{IsInRange}
use Rattle.of10_msgs.specs.Reading.{reading}
use Rattle.of10_msgs.specs.Senders.{reading_of_controller}
use Rattle.of10_msgs.specs.declared.fault.FormFault.{FormFault}
use Rattle.of10_msgs.specs.declared.message.Body.{Body}
use Rattle.of10_msgs.specs.declared.message.Body.TheVariants as bodies
use Rattle.of10_msgs.specs.declared.message.FlowMod.{FlowMod}
use Rattle.of10_msgs.specs.declared.message.Message.{Message}
use Rattle.of10_stats.specs.Reading.{reply_in, request_in}
use Rattle.of10_stats.specs.declared.fault.StatsFault.{StatsFault}
use Rattle.of10_stats.specs.declared.reply.ReplyBody.{ReplyBody}
use Rattle.of10_stats.specs.declared.reply.ReplyBody.TheVariants as replies
use Rattle.of10_stats.specs.declared.reply.StatsReply.{StatsReply}
use Rattle.of10_stats.specs.declared.request.StatsRequest.{StatsRequest}
use Rattle.of10_stats.specs.declared.request.StatsRequest.TheVariants as requests
use Rattle.outbox.specs.Outboxes.{OutboxOf, is_open}
use Rattle.policy_expr.specs.Policy.{Policy}
use Rattle.policy_expr.specs.Reading.{reading as reading_of_expression}
use Rattle.policy_expr.specs.declared.fault.ExprFault.{ExprFault}
use Rattle.policies.specs.Exprs.{names}
use Rattle.policies.specs.Policies.{PolicyOf, plan}
use Rattle.policies.specs.Widths.{too_wide_in}
use Rattle.policies.specs.declared.policy.MemberItem.{MemberItem}
use Rattle.script_text.specs.declared.audit.DownCause.TheVariants as causes
use Rattle.switch_meaning.specs.Counts.{Numbers}
use Rattle.switch_state.specs.Reports.{answered_number, barrier_reply, flow_removed, port_status, removal}
use Rattle.switch_state.specs.declared.removal.Removal.{Removal}
use Rattle.switch_state.specs.declared.removal.Removal.TheVariants.{Ignored, Strange, Taken}
use Rattle.virtual_topology.specs.Rows.{Spot}
use Rattle.virtual_topology.specs.Wires.{entering_of}
use Rattle.waitings.specs.Lists.{changed_first}
use Rattle.waitings.specs.Ports.{taking_ports}
use Rattle.waitings.specs.Waitings.{unless_more, unwritten, waits_for_flows, waits_for_ports, without_barrier}
use Rattle.waitings.specs.declared.state.Doubt.{Doubt}
use Rattle.waitings.specs.declared.state.Part.{Part}
use Rattle.waitings.specs.declared.state.Purpose.{Purpose}
use Rattle.waitings.specs.declared.state.Purpose.TheVariants as purposes
use Rattle.waitings.specs.declared.state.Waiting.{Waiting}
use Rattle.machine_meaning.specs.Acting.{act, sends}
use Rattle.machine_meaning.specs.Barriers.{barrier_answered, barrier_for, unanswered_of, with_known}
use Rattle.machine_meaning.specs.Coming.{comes_up, end_first, goes, noting}
use Rattle.machine_meaning.specs.Denials.{body_row, read_row}
use Rattle.machine_meaning.specs.Drafts.{Draft, untouched}
use Rattle.machine_meaning.specs.Events.{AreBytes, IsEvent}
use Rattle.machine_meaning.specs.FlowMods.{flow_mod}
use Rattle.machine_meaning.specs.Glances.{closed_unless, glance_of, is_frame, is_present}
use Rattle.machine_meaning.specs.Lists.{changed_at, places}
use Rattle.machine_meaning.specs.MemberMessages.{denial_of, hears_from as hears_from_member, judged, serve, serve_read}
use Rattle.machine_meaning.specs.MemberMessages.{with_config}
use Rattle.machine_meaning.specs.Names.{all_ports, virtual_of}
use Rattle.machine_meaning.specs.Packets.{comes_by}
use Rattle.machine_meaning.specs.Parts.{part_told}
use Rattle.machine_meaning.specs.Polls.{begin_poll, begin_waiting, switches_up}
use Rattle.machine_meaning.specs.Removals.{removed_by}
use Rattle.machine_meaning.specs.Removing.{with_kept, without_expired}
use Rattle.machine_meaning.specs.Replacing.{exprs_with, replace_by, replace_unless, width_refusal}
use Rattle.machine_meaning.specs.Rounds.{begin_member, begin_switch, end_member, end_switch, without_member}
use Rattle.machine_meaning.specs.Rounds.{without_switch}
use Rattle.machine_meaning.specs.Sessions.{is_up, outbox_of}
use Rattle.machine_meaning.specs.Sound.{IsSoundMember}
use Rattle.machine_meaning.specs.States.{MemberOf, State, SwitchOf}
use Rattle.machine_meaning.specs.Statistics.{asker, statistics}
use Rattle.machine_meaning.specs.SwitchMessages.{hears, hears_from, hears_read, is_ignored, statistics_told}
use Rattle.machine_meaning.specs.Ticking.{doubt_at, doubts_at, poll_for, ticks}
use Rattle.machine_meaning.proofs.Composed.{fold_holds}
use Rattle.machine_meaning.proofs.Frames.{read_in_range}
use Rattle.machine_meaning.proofs.KeptExpressions.{replaced_expressions}
use Rattle.machine_meaning.proofs.KeptMembers.{accepted_member, expired_member, mapped_each, other_session}
use Rattle.machine_meaning.proofs.KeptNumbers.{HasNext}
use Rattle.machine_meaning.proofs.KeptWaiting.{DownUnknown, IsAskedByUp, IsAwaited, IsPartOfUp, all_both}
use Rattle.machine_meaning.proofs.KeptWaiting.{barriers_passed, barriers_up, flows_taken, polled_up, ports_taken}
use Rattle.machine_meaning.proofs.Numbered.{at_changed}
use Rattle.machine_meaning.proofs.Places.{at_place}
use Rattle.machine_meaning.proofs.Readied.{long_map}
use Rattle.machine_meaning.proofs.SoundShapes.{IsShaped, member_begun, member_ended, other_exprs, other_member}
use Rattle.machine_meaning.proofs.SoundShapes.{other_members, other_switch, other_waiting, shape_of, switch_begun}
use Rattle.machine_meaning.proofs.SoundShapes.{switch_ended}
use Rattle.machine_meaning.proofs.WhoIsUp.{is_up_member, member_up, switch_up}

-- what isn't closed passes its test
not_closed : (b : Bool) → closed_unless b ≡ None → b ≡ true
not_closed true e = refl
not_closed false e = absurd (cc)

-- a session in its round is up
present_up : (round : ℕ) (o : Option OutboxOf) → option_map_or (λ (o : OutboxOf). is_open o round) o false ≡ true
    → option_map_or (λ (o : OutboxOf). o.up) o false ≡ true
present_up round None e = e
present_up round (Some o) e = (and_true o.up (o.round == round) e).0

-- a member that is up, of which a frame is heard
record IsHeard (p : PolicyOf) (n : ℕ) (m : MemberItem) (x : MemberOf) (s : State) : Type 0 where
  item : slice_get p.members n ≡ Some m
  member : slice_get s.members n ≡ Some x
  up : is_up s (Member n) ≡ true
  unknown : DownUnknown s

module _ (p : PolicyOf) where
  abbrev Holds : Draft → Type 0
  Holds d = IsShaped p d.state

  -- rounds ----------------------------------------------------------------------------------------------------------

  up_holds : (who : Who) (arp : Bool) (d : Draft) → Holds d → Holds (comes_up p who arp d)
  up_holds (Member n) arp d h = by (is_up d.state (Member n))
    where
      by : (u : Bool) → Holds (begin_member n (if u then end_member n d else d))
      by true = member_begun p (without_member n d.state) (member_ended p d.state h n) n
      by false = member_begun p d.state h n
  up_holds (Switch n) arp d h =
      noted arp (begin_switch n (end_first (Switch n) d)) (by (is_up d.state (Switch n)))
    where
      noted : (b : Bool) (e : Draft) → Holds e → Holds (noting p n b e)
      noted true e k = k
      noted false e k = k

      by : (u : Bool) → Holds (begin_switch n (if u then end_switch n causes.Again d else d))
      by true = switch_begun p (without_switch n d.state) (switch_ended p d.state h n) n
      by false = switch_begun p d.state h n
  up_holds Audit arp d h = h

  gone_holds : (who : Who) (d : Draft) → Holds d → Holds (goes who d)
  gone_holds (Member n) d h = member_ended p d.state h n
  gone_holds (Switch n) d h = switch_ended p d.state h n
  gone_holds Audit d h = h

  -- polls and barriers ----------------------------------------------------------------------------------------------

  waits_holds : (v : ℕ) (parts : List Part) (purpose : Purpose) (d : Draft)
      → AllByRecursion (IsPartOfUp (map switch_up d.state.switches)) parts
      → IsAskedByUp (map member_up d.state.members) purpose → Holds d → Holds (begin_waiting v parts purpose d)
  waits_holds v parts purpose d all asked h =
      let w : Waiting = record { v = v; parts = parts; purpose = purpose } in
      other_waiting p (shape_of d.state) h (d.state.waiting ++ w ∷ [])
      (all_both (IsAwaited (map switch_up d.state.switches) (map member_up d.state.members)) d.state.waiting (w ∷ [])
      h.waiting (record { parts = all; asker = asked }, tt))

  poll_holds : (v : ℕ) (purpose : Purpose) (d : Draft) → IsAskedByUp (map member_up d.state.members) purpose
      → Holds d → Holds (begin_poll p v purpose d)
  poll_holds v purpose d asked h =
      waits_holds v (map unwritten (switches_up p d.state v)) purpose d (polled_up p d.state v) asked h

  asked_holds : (n v : ℕ) (x : MemberOf) (xid : ℕ) (r : Result StatsRequest StatsFault) (d : Draft)
      → is_up d.state (Member n) ≡ true → Holds d → Holds (statistics p n v x xid r d)
  asked_holds n v x xid (Ok requests.Desc) d u h = h
  asked_holds n v x xid (Ok requests.Table) d u h = h
  asked_holds n v x xid (Ok (requests.Flow m table_id out_port)) d u h =
      poll_holds v (purposes.Flow (asker n xid) (filter_of m table_id out_port)) d
      (sym (is_up_member d.state n) ∙ u) h
  asked_holds n v x xid (Ok (requests.Aggregate m table_id out_port)) d u h =
      poll_holds v (purposes.Aggregate (asker n xid) (filter_of m table_id out_port)) d
      (sym (is_up_member d.state n) ∙ u) h
  asked_holds n v x xid (Ok (requests.Port port_no)) d u h =
      poll_holds v (purposes.Port (asker n xid) port_no []) d (sym (is_up_member d.state n) ∙ u) h
  asked_holds n v x xid (Err fault) d u h = h

  barrier_holds : (n v xid : ℕ) (parts : List Part) (d : Draft) → is_up d.state (Member n) ≡ true
      → AllByRecursion (IsPartOfUp (map switch_up d.state.switches)) parts → Holds d
      → Holds (barrier_for n v xid parts d)
  barrier_holds n v xid [] d u all h = h
  barrier_holds n v xid (part ∷ parts) d u all h =
      waits_holds v (part ∷ parts) (purposes.Barrier (asker n xid)) d all (sym (is_up_member d.state n) ∙ u) h

  -- members' messages -----------------------------------------------------------------------------------------------

  modded_holds : (n : ℕ) (m : MemberItem) (x : MemberOf) (change : FlowMod) (d : Draft) → IsHeard p n m x d.state
      → flow_denial m.grant (all_ports p (virtual_of m)) x.kept change ≡ None → AreInRange change.actions
      → AllByRecursion HasNext (flow_mod n x change d).state.members → Holds d → Holds (flow_mod n x change d)
  modded_holds n m x change d g none in_range nexts h =
      other_member p (shape_of d.state) h n f (λ y. refl)
      (λ k y at got sound.
      let item : m ≡ k = cc (g.item, at) in
      let member : x ≡ y = cc (g.member, got) in
      accepted_member p k y sound change d.state.moment
      (sym (ap₂ (λ (k : MemberItem) (y : MemberOf). flow_denial k.grant (all_ports p (virtual_of k)) y.kept change)
      item member) ∙ none)
      in_range
      (at_place HasNext (changed_at n f d.state.members) n (f y) nexts
      (at_changed n f d.state.members ∙ ap (option_map f) got)))
    where
      f : MemberOf → MemberOf
      f = with_kept (accepted change d.state.moment)

  serve_holds : (n : ℕ) (m : MemberItem) (x : MemberOf) (xid : ℕ) (body : Body) (d : Draft) → IsHeard p n m x d.state
      → IsInRange body → body_row m.grant (all_ports p (virtual_of m)) x.kept body ≡ None
      → AllByRecursion HasNext (serve p n m x xid body d).state.members → Holds d → Holds (serve p n m x xid body d)
  serve_holds n m x xid (bodies.SetConfig flags len) d g in_range row nexts h =
      other_member p (shape_of d.state) h n (with_config (record { flags = flags; miss_send_len = len })) (λ y. refl)
      (λ k y at got sound.
      other_session p k y sound (with_config (record { flags = flags; miss_send_len = len }) y) refl sound.outbox)
  serve_holds n m x xid (bodies.FlowMod change) d g in_range row nexts h =
      modded_holds n m x change d g row in_range.1 nexts h
  serve_holds n m x xid (bodies.StatsRequest body) d g in_range row nexts h =
      asked_holds n (virtual_of m) x xid (request_in body) d g.up h
  serve_holds n m x xid bodies.BarrierRequest d g in_range row nexts h =
      barrier_holds n (virtual_of m) xid (unanswered_of p d.state (virtual_of m)) d g.up
      (barriers_up p d.state (virtual_of m) g.unknown) h
  serve_holds n m x xid body d g in_range row nexts h = h

  read_holds : (n : ℕ) (m : MemberItem) (x : MemberOf) (r : Result Message FormFault) (d : Draft)
      → IsHeard p n m x d.state → ((a : Message) → r ≡ Ok a → IsInRange a.body)
      → read_row m.grant (all_ports p (virtual_of m)) x.kept r ≡ None
      → AllByRecursion HasNext (serve_read p n m x r d).state.members → Holds d → Holds (serve_read p n m x r d)
  read_holds n m x (Ok message) d g in_range row nexts h =
      serve_holds n m x message.xid message.body d g (in_range message refl) row nexts h
  read_holds n m x (Err fault) d g in_range row nexts h = h

  judged_holds : (n : ℕ) (m : MemberItem) (x : MemberOf) (frame : List ℕ) (d : Draft) → IsHeard p n m x d.state
      → ((a : Message) → reading_of_controller frame ≡ Ok a → IsInRange a.body)
      → (o : Option Denial) → denial_of p m x frame ≡ o
      → AllByRecursion HasNext (judged p n m x frame o d).state.members → Holds d → Holds (judged p n m x frame o d)
  judged_holds n m x frame d g in_range (Some denied) e nexts h = h
  judged_holds n m x frame d g in_range None e nexts h =
      read_holds n m x (reading_of_controller frame) d g in_range e nexts h

  member_holds : (n : ℕ) (frame : List ℕ) (d : Draft) → is_up d.state (Member n) ≡ true → DownUnknown d.state
      → ((a : Message) → reading_of_controller frame ≡ Ok a → IsInRange a.body)
      → (m : Option MemberItem) → slice_get p.members n ≡ m → (x : Option MemberOf) → slice_get d.state.members n ≡ x
      → AllByRecursion HasNext (hears_from_member p n m x frame d).state.members → Holds d
      → Holds (hears_from_member p n m x frame d)
  member_holds n frame d u unknown in_range (Some m) item (Some x) member nexts h =
      judged_holds n m x frame d (record { item = item; member = member; up = u; unknown = unknown }) in_range
      (denial_of p m x frame) refl nexts h
  member_holds n frame d u unknown in_range (Some m) item None member nexts h = h
  member_holds n frame d u unknown in_range None item (Some x) member nexts h = h
  member_holds n frame d u unknown in_range None item None member nexts h = h

  -- switches' messages ----------------------------------------------------------------------------------------------

  comes_holds : (total : ℕ) (bytes : List ℕ) (o : Option Spot) (d : Draft) → Holds d
      → Holds (comes_by p total bytes o d)
  comes_holds total bytes None d h = h
  comes_holds total bytes (Some (v, port)) d h = h

  answered_holds : (n xid : ℕ) (o : Option ℕ) (d : Draft) → Holds d → Holds (barrier_answered n xid o d)
  answered_holds n xid None d h = h
  answered_holds n xid (Some number) d h =
      let us = map switch_up (changed_at n (with_known (barrier_reply xid)) d.state.switches) in
      let k = other_switch p d.state h n (with_known (barrier_reply xid)) (λ x. refl) in
      other_waiting p (record (shape_of d.state) { ups = us }) k (map (without_barrier n number) d.state.waiting)
      (barriers_passed us (map member_up d.state.members) n number d.state.waiting k.waiting)

  part_holds : (n xid : ℕ) (more : Bool) (body : ReplyBody) (d : Draft) → Holds d
      → Holds (part_told p n xid more body d)
  part_holds n xid more (replies.Desc texts) d h = h
  part_holds n xid more (replies.Flow entries) d h =
      other_waiting p (shape_of d.state) h
      (changed_first (waits_for_flows n xid) (unless_more more n xid) d.state.waiting)
      (flows_taken (map switch_up d.state.switches) (map member_up d.state.members) (waits_for_flows n xid) more n xid
      d.state.waiting h.waiting)
  part_holds n xid more (replies.Aggregate packets bytes flows) d h = h
  part_holds n xid more (replies.Table id name wildcards most active lookup matched) d h = h
  part_holds n xid more (replies.Port stats) d h =
      other_waiting p (shape_of d.state) h
      (changed_first (waits_for_ports n xid) (taking_ports (plan p) n xid more stats) d.state.waiting)
      (ports_taken (map switch_up d.state.switches) (map member_up d.state.members) (waits_for_ports n xid) (plan p) n
      xid more stats d.state.waiting h.waiting)

  told_holds : (n xid : ℕ) (r : Result StatsReply StatsFault) (d : Draft) → Holds d
      → Holds (statistics_told p n xid r d)
  told_holds n xid (Ok reply) d h = part_holds n xid reply.more reply.body d h
  told_holds n xid (Err fault) d h = switch_ended p d.state h n

  removed_holds : (n : ℕ) (r : Removal) (cookie : ℕ) (numbers : Numbers) (d : Draft) → Holds d
      → Holds (removed_by n r cookie numbers d)
  removed_holds n Ignored cookie numbers d h = h
  removed_holds n Taken cookie numbers d h = other_switch p d.state h n (with_known (flow_removed cookie)) (λ x. refl)
  removed_holds n Strange cookie numbers d h = switch_ended p d.state h n

  hears_holds : (n : ℕ) (x : SwitchOf) (xid : ℕ) (body : Body) (d : Draft) → Holds d → Holds (hears p n x xid body d)
  hears_holds n x xid (bodies.Error kind code bytes) d h = switch_ended p d.state h n
  hears_holds n x xid (bodies.PacketIn buffer total port reason bytes) d h =
      comes_holds total bytes (entering_of (plan p) n port) d h
  hears_holds n x xid (bodies.FlowRemoved a cookie priority reason sec nsec idle packets bytes) d h =
      removed_holds n (removal x.known cookie) cookie (record { packets = packets; bytes = bytes }) d h
  hears_holds n x xid (bodies.PortStatus reason port) d h =
      other_switch p d.state h n (with_known (port_status reason port)) (λ y. refl)
  hears_holds n x xid (bodies.StatsReply body) d h = told_holds n xid (reply_in body) d h
  hears_holds n x xid bodies.BarrierReply d h = answered_holds n xid (answered_number xid x.known) d h
  hears_holds n x xid body d h = h

  switch_read_holds : (n : ℕ) (x : SwitchOf) (r : Result Message FormFault) (d : Draft) → Holds d
      → Holds (hears_read p n x r d)
  switch_read_holds n x (Ok m) d h = hears_holds n x m.xid m.body d h
  switch_read_holds n x (Err fault) d h = switch_ended p d.state h n

  switch_holds : (n : ℕ) (o : Option SwitchOf) (frame : List ℕ) (d : Draft) → Holds d
      → Holds (hears_from p n o frame d)
  switch_holds n None frame d h = h
  switch_holds n (Some x) frame d h = by (is_ignored frame)
    where
      by : (b : Bool) → Holds (if b then d else hears_read p n x (reading frame) d)
      by true = h
      by false = switch_read_holds n x (reading frame) d h

  -- ticks and expressions -------------------------------------------------------------------------------------------

  doubt_holds : (v : ℕ) (doubts : List Doubt) (d : Draft) → Holds d → Holds (poll_for p v doubts d)
  doubt_holds v [] d h = h
  doubt_holds v (doubt ∷ doubts) d h = poll_holds v (purposes.Idle (doubt ∷ doubts)) d tt h

  ups_mapped : (f : MemberOf → MemberOf) → ((x : MemberOf) → member_up (f x) ≡ member_up x) → (xs : List MemberOf)
      → map member_up (map f xs) ≡ map member_up xs
  ups_mapped f same [] = refl
  ups_mapped f same (x ∷ xs) = ap₂ (λ (u : Bool) (us : List Bool). u ∷ us) (same x) (ups_mapped f same xs)

  tick_holds : (now : ℕ) (d : Draft) → Holds d → Holds (ticks p now d)
  tick_holds now d h =
      let e = record d { state = without_expired (record d.state { moment = now }) } in
      let f : MemberOf → MemberOf = with_kept (expired now) in
      fold_holds (doubt_at p) Holds (λ e v k. doubt_holds v (doubts_at p e.state v) e k) (places p.virtuals) e
      (other_members p (shape_of d.state) h (map f d.state.members) (long_map f d.state.members)
      (mapped_each (IsSoundMember p) p.members d.state.members h.members f (λ m x k. expired_member p m x k now))
      (ups_mapped f (λ x. refl) d.state.members))

  unless_holds : (v : ℕ) (text : List ℕ) (e : Policy) (d : Draft)
      → reading_of_expression (names p.members v) text ≡ Ok e → (o : Option PolicyRefusal)
      → width_refusal (too_wide_in (plan p) p.members (exprs_with v e d.state.exprs) p.hops) ≡ o → Holds d
      → Holds (replace_unless o p v e d)
  unless_holds v text e d read (Some refusal) wide h = h
  unless_holds v text e d read None wide h =
      other_exprs p (shape_of d.state) h (exprs_with v e d.state.exprs)
      (replaced_expressions p v text e d.state.exprs h.exprs read wide)

  replace_holds : (v : ℕ) (text : List ℕ) (d : Draft) (r : Result Policy ExprFault)
      → reading_of_expression (names p.members v) text ≡ r → Holds d → Holds (replace_by p v r d)
  replace_holds v text d (Ok e) read h =
      unless_holds v text e d read
      (width_refusal (too_wide_in (plan p) p.members (exprs_with v e d.state.exprs) p.hops)) refl h
  replace_holds v text d (Err fault) read h = h

  -- all -------------------------------------------------------------------------------------------------------------

  sends_holds : (who : Who) (round : ℕ) (frame : List ℕ) (d : Draft) → AreBytes frame → is_frame frame ≡ true
      → option_map_or (λ (o : OutboxOf). is_open o round) (outbox_of d.state who) false ≡ true → DownUnknown d.state
      → AllByRecursion HasNext (sends p who frame d).state.members → Holds d → Holds (sends p who frame d)
  sends_holds (Member n) round frame d bytes whole present unknown nexts h =
      member_holds n frame d (present_up round (outbox_of d.state (Member n)) present) unknown
      (read_in_range frame bytes whole) (slice_get p.members n) refl (slice_get d.state.members n) refl nexts h
  sends_holds (Switch n) round frame d bytes whole present unknown nexts h =
      switch_holds n (slice_get d.state.switches n) frame d h
  sends_holds Audit round frame d bytes whole present unknown nexts h = h

  pub act_holds : (s : State) → IsShaped p s → DownUnknown s → (e : Event) → IsEvent e → glance_of p s e ≡ None
      → AllByRecursion HasNext (act p s e).state.members → IsShaped p (act p s e).state
  act_holds s h unknown (events.Up who arp) given none nexts = up_holds who arp (untouched s) h
  act_holds s h unknown (events.Msg session frame) given none nexts =
      let both =
      and_true (is_frame frame) (is_present s session) (not_closed (is_frame frame && is_present s session) none) in
      sends_holds session.who session.round frame (untouched s) given.1 both.0 both.1 unknown nexts h
  act_holds s h unknown (events.Gone session) given none nexts = gone_holds session.who (untouched s) h
  act_holds s h unknown (events.Tick second) given none nexts = tick_holds second (untouched s) h
  act_holds s h unknown (events.Take session) given none nexts = h
  act_holds s h unknown (events.Policy v text) given none nexts =
      replace_holds v text (untouched s) (reading_of_expression (names p.members v) text) refl h
