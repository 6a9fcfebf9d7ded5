-- An event's own work changes members' tables by messages that are accepted and by entries whose time is up, and by
-- nothing else.
use Rattle.std.proofs.Common.{◌≡◌, ℕ, Bool, true, false, List, [], ◌∷◌}
use Rattle.std.proofs.Common.{Option, Some, None, Result, Ok, Err, slice_get, refl, arith}
use Rattle.std.proofs.Common.{if◌then◌else◌}
use Rattle.cv_io.specs.declared.leaf.Who.{Who}
use Rattle.cv_io.specs.declared.leaf.Who.TheVariants.{Audit, Member, Switch}
use Rattle.events.specs.declared.event.Event.{Event}
use Rattle.events.specs.declared.event.Event.TheVariants as events
use Rattle.events.specs.declared.event.PolicyRefusal.{PolicyRefusal}
use Rattle.grants.specs.declared.denial.Denial.{Denial}
use Rattle.member_state.specs.Changes.{accepted, expired}
use Rattle.member_state.specs.States.{MemberStateOf}
use Rattle.of10_msgs.specs.Reading.{reading}
use Rattle.of10_msgs.specs.Senders.{reading_of_controller}
use Rattle.of10_msgs.specs.declared.fault.FormFault.{FormFault}
use Rattle.of10_msgs.specs.declared.message.Body.{Body}
use Rattle.of10_msgs.specs.declared.message.Body.TheVariants as bodies
use Rattle.of10_msgs.specs.declared.message.FlowMod.{FlowMod}
use Rattle.of10_msgs.specs.declared.message.Message.{Message}
use Rattle.of10_stats.specs.Reading.{reply_in, request_in}
use Rattle.of10_stats.specs.declared.fault.StatsFault.{StatsFault}
use Rattle.of10_stats.specs.declared.reply.ReplyBody.{ReplyBody}
use Rattle.of10_stats.specs.declared.reply.ReplyBody.TheVariants as replies
use Rattle.of10_stats.specs.declared.reply.StatsReply.{StatsReply}
use Rattle.of10_stats.specs.declared.request.StatsRequest.{StatsRequest}
use Rattle.of10_stats.specs.declared.request.StatsRequest.TheVariants as requests
use Rattle.policy_expr.specs.Policy.{Policy}
use Rattle.policy_expr.specs.Reading.{reading as reading_of_expression}
use Rattle.policy_expr.specs.declared.fault.ExprFault.{ExprFault}
use Rattle.policies.specs.Exprs.{names}
use Rattle.policies.specs.Policies.{PolicyOf, plan}
use Rattle.policies.specs.Widths.{too_wide_in}
use Rattle.policies.specs.declared.policy.MemberItem.{MemberItem}
use Rattle.script_text.specs.declared.audit.DownCause.TheVariants as causes
use Rattle.switch_meaning.specs.Counts.{Numbers}
use Rattle.switch_state.specs.Reports.{answered_number, removal}
use Rattle.switch_state.specs.declared.removal.Removal.{Removal}
use Rattle.switch_state.specs.declared.removal.Removal.TheVariants.{Ignored, Strange, Taken}
use Rattle.virtual_topology.specs.Rows.{Spot}
use Rattle.virtual_topology.specs.Wires.{entering_of}
use Rattle.waitings.specs.declared.state.Doubt.{Doubt}
use Rattle.waitings.specs.declared.state.Part.{Part}
use Rattle.machine_meaning.specs.Acting.{act, sends}
use Rattle.machine_meaning.specs.Barriers.{barrier_answered, barrier_for, unanswered_of}
use Rattle.machine_meaning.specs.Coming.{comes_up, end_first, goes, noting}
use Rattle.machine_meaning.specs.Drafts.{Draft, untouched}
use Rattle.machine_meaning.specs.Lists.{places}
use Rattle.machine_meaning.specs.MemberMessages.{denial_of, hears_from as hears_from_member, judged, serve, serve_read}
use Rattle.machine_meaning.specs.MemberMessages.{with_config}
use Rattle.machine_meaning.specs.Names.{virtual_of}
use Rattle.machine_meaning.specs.Packets.{comes_by}
use Rattle.machine_meaning.specs.Parts.{part_told}
use Rattle.machine_meaning.specs.Removals.{removed_by}
use Rattle.machine_meaning.specs.Removing.{with_kept, without_expired}
use Rattle.machine_meaning.specs.Replacing.{exprs_with, replace_by, replace_unless, width_refusal}
use Rattle.machine_meaning.specs.Rounds.{begin_member, begin_switch, begun_member}
use Rattle.machine_meaning.specs.Rounds.{end_member, end_switch, ended_member}
use Rattle.machine_meaning.specs.Sessions.{is_up}
use Rattle.machine_meaning.specs.States.{MemberOf, State, SwitchOf}
use Rattle.machine_meaning.specs.Statistics.{statistics}
use Rattle.machine_meaning.specs.SwitchMessages.{hears, hears_from, hears_read, is_ignored, statistics_told}
use Rattle.machine_meaning.specs.Ticking.{doubt_at, doubts_at, poll_for, ticks}
use Rattle.machine_meaning.proofs.MemberChanges.{GoesOn, GoodBody, GoodEvent, GoodFrame, IsChange, Moves, follow-mapped}
use Rattle.machine_meaning.proofs.MemberChanges.{folded, on, one, still}

module _ (Good : FlowMod → Type 0) (R : MemberStateOf → MemberStateOf → Type 0) (law : IsChange Good R) where
  -- rounds ----------------------------------------------------------------------------------------------------------

  pub ended : (n : ℕ) (d : Draft) → Moves R d (end_member n d)
  ended n d = one law d.state n ended_member (λ x. law.same x.kept)

  begun : (n : ℕ) (d : Draft) → Moves R d (begin_member n d)
  begun n d = one law d.state n begun_member (λ x. law.same x.kept)

  up-moves : (p : PolicyOf) (who : Who) (arp : Bool) (d : Draft) → Moves R d (comes_up p who arp d)
  up-moves p (Member n) arp d = by (is_up d.state (Member n))
    where
      by : (u : Bool) → Moves R d (begin_member n (if u then end_member n d else d))
      by true =
          on law d.state (end_member n d).state (begin_member n (end_member n d)).state (ended n d)
          (begun n (end_member n d))
      by false = begun n d
  up-moves p (Switch n) arp d = noted arp (begin_switch n (end_first (Switch n) d)) (by (is_up d.state (Switch n)))
    where
      by : (u : Bool) → Moves R d (begin_switch n (if u then end_switch n causes.Again d else d))
      by true = still law d.state
      by false = still law d.state

      noted : (b : Bool) (e : Draft) → Moves R d e → Moves R d (noting p n b e)
      noted true e k = k
      noted false e k = k
  up-moves p Audit arp d = still law d.state

  gone-moves : (who : Who) (d : Draft) → Moves R d (goes who d)
  gone-moves (Member n) d = ended n d
  gone-moves (Switch n) d = still law d.state
  gone-moves Audit d = still law d.state

  -- members' messages -----------------------------------------------------------------------------------------------

  asked-moves : (p : PolicyOf) (n v : ℕ) (x : MemberOf) (xid : ℕ) (r : Result StatsRequest StatsFault) (d : Draft)
      → Moves R d (statistics p n v x xid r d)
  asked-moves p n v x xid (Ok requests.Desc) d = still law d.state
  asked-moves p n v x xid (Ok requests.Table) d = still law d.state
  asked-moves p n v x xid (Ok (requests.Flow m table_id out_port)) d = still law d.state
  asked-moves p n v x xid (Ok (requests.Aggregate m table_id out_port)) d = still law d.state
  asked-moves p n v x xid (Ok (requests.Port port_no)) d = still law d.state
  asked-moves p n v x xid (Err fault) d = still law d.state

  barrier-moves : (n v xid : ℕ) (parts : List Part) (d : Draft) → Moves R d (barrier_for n v xid parts d)
  barrier-moves n v xid [] d = still law d.state
  barrier-moves n v xid (part ∷ parts) d = still law d.state

  serve-moves : (p : PolicyOf) (n : ℕ) (m : MemberItem) (x : MemberOf) (xid : ℕ) (body : Body) (d : Draft)
      → GoodBody Good body → Moves R d (serve p n m x xid body d)
  serve-moves p n m x xid (bodies.StatsRequest body) d g = asked-moves p n (virtual_of m) x xid (request_in body) d
  serve-moves p n m x xid bodies.BarrierRequest d g =
      barrier-moves n (virtual_of m) xid (unanswered_of p d.state (virtual_of m)) d
  serve-moves p n m x xid (bodies.SetConfig flags len) d g =
      one law d.state n (with_config (record { flags = flags; miss_send_len = len })) (λ y. law.same y.kept)
  serve-moves p n m x xid (bodies.FlowMod change) d g =
      one law d.state n (with_kept (accepted change d.state.moment)) (λ y. law.message change d.state.moment y.kept g)
  serve-moves p n m x xid body d g = still law d.state

  read-moves : (p : PolicyOf) (n : ℕ) (m : MemberItem) (x : MemberOf) (r : Result Message FormFault) (d : Draft)
      → ((a : Message) → r ≡ Ok a → GoodBody Good a.body) → Moves R d (serve_read p n m x r d)
  read-moves p n m x (Ok message) d g = serve-moves p n m x message.xid message.body d (g message refl)
  read-moves p n m x (Err fault) d g = still law d.state

  judged-moves : (p : PolicyOf) (n : ℕ) (m : MemberItem) (x : MemberOf) (frame : List ℕ) (o : Option Denial) (d : Draft)
      → GoodFrame Good frame → Moves R d (judged p n m x frame o d)
  judged-moves p n m x frame (Some denied) d g = still law d.state
  judged-moves p n m x frame None d g = read-moves p n m x (reading_of_controller frame) d g

  member-moves : (p : PolicyOf) (n : ℕ) (m : Option MemberItem) (x : Option MemberOf) (frame : List ℕ) (d : Draft)
      → GoodFrame Good frame → Moves R d (hears_from_member p n m x frame d)
  member-moves p n (Some m) (Some x) frame d g = judged-moves p n m x frame (denial_of p m x frame) d g
  member-moves p n (Some m) None frame d g = still law d.state
  member-moves p n None (Some x) frame d g = still law d.state
  member-moves p n None None frame d g = still law d.state

  -- switches' messages ----------------------------------------------------------------------------------------------

  comes-moves : (p : PolicyOf) (total : ℕ) (bytes : List ℕ) (o : Option Spot) (d : Draft)
      → Moves R d (comes_by p total bytes o d)
  comes-moves p total bytes None d = still law d.state
  comes-moves p total bytes (Some (v, port)) d = still law d.state

  answered-moves : (n xid : ℕ) (o : Option ℕ) (d : Draft) → Moves R d (barrier_answered n xid o d)
  answered-moves n xid None d = still law d.state
  answered-moves n xid (Some number) d = still law d.state

  part-moves : (p : PolicyOf) (n xid : ℕ) (more : Bool) (body : ReplyBody) (d : Draft)
      → Moves R d (part_told p n xid more body d)
  part-moves p n xid more (replies.Desc texts) d = still law d.state
  part-moves p n xid more (replies.Flow entries) d = still law d.state
  part-moves p n xid more (replies.Aggregate packets bytes flows) d = still law d.state
  part-moves p n xid more (replies.Table id name wildcards most active lookup matched) d = still law d.state
  part-moves p n xid more (replies.Port stats) d = still law d.state

  told-moves : (p : PolicyOf) (n xid : ℕ) (r : Result StatsReply StatsFault) (d : Draft)
      → Moves R d (statistics_told p n xid r d)
  told-moves p n xid (Ok reply) d = part-moves p n xid reply.more reply.body d
  told-moves p n xid (Err fault) d = still law d.state

  removed-moves : (n : ℕ) (r : Removal) (cookie : ℕ) (numbers : Numbers) (d : Draft)
      → Moves R d (removed_by n r cookie numbers d)
  removed-moves n Ignored cookie numbers d = still law d.state
  removed-moves n Taken cookie numbers d = still law d.state
  removed-moves n Strange cookie numbers d = still law d.state

  hears-moves : (p : PolicyOf) (n : ℕ) (x : SwitchOf) (xid : ℕ) (body : Body) (d : Draft)
      → Moves R d (hears p n x xid body d)
  hears-moves p n x xid (bodies.PacketIn buffer total port reason bytes) d =
      comes-moves p total bytes (entering_of (plan p) n port) d
  hears-moves p n x xid (bodies.FlowRemoved a cookie priority reason sec nsec idle packets bytes) d =
      removed-moves n (removal x.known cookie) cookie (record { packets = packets; bytes = bytes }) d
  hears-moves p n x xid (bodies.StatsReply body) d = told-moves p n xid (reply_in body) d
  hears-moves p n x xid bodies.BarrierReply d = answered-moves n xid (answered_number xid x.known) d
  hears-moves p n x xid body d = still law d.state

  switch-read-moves : (p : PolicyOf) (n : ℕ) (x : SwitchOf) (r : Result Message FormFault) (d : Draft)
      → Moves R d (hears_read p n x r d)
  switch-read-moves p n x (Ok m) d = hears-moves p n x m.xid m.body d
  switch-read-moves p n x (Err fault) d = still law d.state

  switch-moves : (p : PolicyOf) (n : ℕ) (o : Option SwitchOf) (frame : List ℕ) (d : Draft)
      → Moves R d (hears_from p n o frame d)
  switch-moves p n None frame d = still law d.state
  switch-moves p n (Some x) frame d = by (is_ignored frame)
    where
      by : (b : Bool) → Moves R d (if b then d else hears_read p n x (reading frame) d)
      by true = still law d.state
      by false = switch-read-moves p n x (reading frame) d

  sends-moves : (p : PolicyOf) (who : Who) (frame : List ℕ) (d : Draft) → GoodFrame Good frame
      → Moves R d (sends p who frame d)
  sends-moves p (Member n) frame d g =
      member-moves p n (slice_get p.members n) (slice_get d.state.members n) frame d g
  sends-moves p (Switch n) frame d g = switch-moves p n (slice_get d.state.switches n) frame d
  sends-moves p Audit frame d g = still law d.state

  -- ticks and expressions -------------------------------------------------------------------------------------------

  doubt-moves : (p : PolicyOf) (v : ℕ) (doubts : List Doubt) (d : Draft) → Moves R d (poll_for p v doubts d)
  doubt-moves p v [] d = still law d.state
  doubt-moves p v (doubt ∷ doubts) d = still law d.state

  tick-moves : (p : PolicyOf) (now : ℕ) (d : Draft) → Moves R d (ticks p now d)
  tick-moves p now d =
      let s = without_expired (record d.state { moment = now }) in
      let e = record d { state = s } in
      on law d.state s (ticks p now d).state
      (follow-mapped law (with_kept (expired now)) (λ x. law.time now x.kept) d.state.members, λ lt. (omega arith, lt))
      (folded law (doubt_at p) (λ f v. doubt-moves p v (doubts_at p f.state v) f) (places p.virtuals) e)

  unless-moves : (p : PolicyOf) (v : ℕ) (e : Policy) (o : Option PolicyRefusal) (d : Draft)
      → Moves R d (replace_unless o p v e d)
  unless-moves p v e (Some refusal) d = still law d.state
  unless-moves p v e None d = still law d.state

  replace-moves : (p : PolicyOf) (v : ℕ) (r : Result Policy ExprFault) (d : Draft) → Moves R d (replace_by p v r d)
  replace-moves p v (Ok e) d =
      unless-moves p v e (width_refusal (too_wide_in (plan p) p.members (exprs_with v e d.state.exprs) p.hops)) d
  replace-moves p v (Err fault) d = still law d.state

  pub act-moves : (p : PolicyOf) (s : State) (e : Event) → GoodEvent Good e → GoesOn R s (act p s e).state
  act-moves p s (events.Up who arp) g = up-moves p who arp (untouched s)
  act-moves p s (events.Msg session frame) g = sends-moves p session.who frame (untouched s) g
  act-moves p s (events.Gone session) g = gone-moves session.who (untouched s)
  act-moves p s (events.Tick second) g = tick-moves p second (untouched s)
  act-moves p s (events.Take session) g = still law s
  act-moves p s (events.Policy v text) g =
      replace-moves p v (reading_of_expression (names p.members v) text) (untouched s)
