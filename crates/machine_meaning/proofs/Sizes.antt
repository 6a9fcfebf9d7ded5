-- No event makes a state of other members or switches than there are.
use Rattle.std.proofs.Common.{◌≡◌, ◌∙◌, ℕ, Bool, true, false, List, [], ◌∷◌, length}
use Rattle.std.proofs.Common.{Option, Some, None, Result, Ok, Err, refl, ap}
use Rattle.std.specs.Prelude.{if◌then◌else◌, slice_get}
use Rattle.cv_io.specs.declared.leaf.Who.{Who}
use Rattle.cv_io.specs.declared.leaf.Who.TheVariants.{Audit, Member, Switch}
use Rattle.grants.specs.declared.denial.Denial.{Denial}
use Rattle.of10_msgs.specs.Reading.{reading}
use Rattle.of10_msgs.specs.Senders.{reading_of_controller}
use Rattle.of10_msgs.specs.declared.fault.FormFault.{FormFault}
use Rattle.of10_msgs.specs.declared.message.Body.{Body}
use Rattle.of10_msgs.specs.declared.message.Body.TheVariants as bodies
use Rattle.of10_msgs.specs.declared.message.Message.{Message}
use Rattle.of10_stats.specs.Reading.{reply_in, request_in}
use Rattle.of10_stats.specs.declared.fault.StatsFault.{StatsFault}
use Rattle.of10_stats.specs.declared.reply.ReplyBody.{ReplyBody}
use Rattle.of10_stats.specs.declared.reply.ReplyBody.TheVariants as replies
use Rattle.of10_stats.specs.declared.reply.StatsReply.{StatsReply}
use Rattle.of10_stats.specs.declared.request.StatsRequest.{StatsRequest}
use Rattle.of10_stats.specs.declared.request.StatsRequest.TheVariants as requests
use Rattle.policy_expr.specs.Policy.{Policy}
use Rattle.policy_expr.specs.Reading.{reading as reading_of_expression}
use Rattle.policy_expr.specs.declared.fault.ExprFault.{ExprFault}
use Rattle.policies.specs.Exprs.{names}
use Rattle.policies.specs.Policies.{PolicyOf, plan}
use Rattle.policies.specs.Widths.{too_wide_in}
use Rattle.policies.specs.declared.policy.MemberItem.{MemberItem}
use Rattle.script_text.specs.declared.audit.DownCause.{DownCause}
use Rattle.script_text.specs.declared.audit.DownCause.TheVariants as causes
use Rattle.switch_meaning.specs.Counts.{Numbers}
use Rattle.switch_state.specs.Reports.{answered_number, barrier_reply, flow_removed, port_status, removal}
use Rattle.switch_state.specs.declared.removal.Removal.{Removal}
use Rattle.switch_state.specs.declared.removal.Removal.TheVariants.{Ignored, Strange, Taken}
use Rattle.virtual_topology.specs.Rows.{Spot}
use Rattle.virtual_topology.specs.Wires.{entering_of}
use Rattle.machine_meaning.specs.Acting.{act, sends}
use Rattle.machine_meaning.specs.Barriers.{barrier_answered, barrier_for, unanswered_of, with_known}
use Rattle.machine_meaning.specs.Coming.{comes_up, end_first, goes, noting}
use Rattle.machine_meaning.specs.Drafts.{Draft, untouched}
use Rattle.machine_meaning.specs.Lists.{changed_at, places}
use Rattle.machine_meaning.specs.MemberMessages.{denial_of, hears_from as hears_from_member, judged, serve, serve_read}
use Rattle.machine_meaning.specs.Names.{virtual_of}
use Rattle.machine_meaning.specs.Packets.{comes_by}
use Rattle.machine_meaning.specs.Parts.{part_told}
use Rattle.machine_meaning.specs.Removals.{removed_by}
use Rattle.machine_meaning.specs.Removing.{without_expired}
use Rattle.machine_meaning.specs.Replacing.{exprs_with, replace_by, replace_unless, width_refusal}
use Rattle.machine_meaning.specs.Rounds.{begin_member, begin_switch, begun_member, begun_switch, end_member, end_switch}
use Rattle.machine_meaning.specs.Rounds.{ended_member, ended_switch}
use Rattle.machine_meaning.specs.Sessions.{is_up}
use Rattle.machine_meaning.specs.States.{MemberOf, State, SwitchOf}
use Rattle.machine_meaning.specs.Statistics.{statistics}
use Rattle.machine_meaning.specs.SwitchMessages.{hears, hears_from, hears_read, is_ignored, statistics_told}
use Rattle.machine_meaning.specs.Ticking.{doubt_at, doubts_at, poll_for, ticks}
use Rattle.events.specs.declared.event.Event.{Event}
use Rattle.events.specs.declared.event.Event.TheVariants as events
use Rattle.events.specs.declared.event.PolicyRefusal.{PolicyRefusal}
use Rattle.waitings.specs.declared.state.Doubt.{Doubt}
use Rattle.waitings.specs.declared.state.Part.{Part}
use Rattle.machine_meaning.proofs.Composed.{fold_holds}
use Rattle.machine_meaning.proofs.Readied.{long_changed, long_map}

-- how many members there are, and how many switches
abbrev pub sizes : State → ℕ × ℕ
sizes s = (length s.members, length s.switches)

abbrev Keeps : Draft → Draft → Type 0
Keeps d e = sizes e.state ≡ sizes d.state

of_members : (s : State) (n : ℕ) (f : MemberOf → MemberOf)
    → (length (changed_at n f s.members), length s.switches) ≡ sizes s
of_members s n f = ap (λ (k : ℕ). (k, length s.switches)) (long_changed n f s.members)

of_switches : (s : State) (n : ℕ) (f : SwitchOf → SwitchOf)
    → (length s.members, length (changed_at n f s.switches)) ≡ sizes s
of_switches s n f = ap (λ (k : ℕ). (length s.members, k)) (long_changed n f s.switches)

ended : (n : ℕ) (cause : DownCause) (d : Draft) → Keeps d (end_switch n cause d)
ended n cause d = of_switches d.state n ended_switch

up_keeps : (p : PolicyOf) (who : Who) (arp : Bool) (d : Draft) → Keeps d (comes_up p who arp d)
up_keeps p (Member n) arp d = by (is_up d.state (Member n))
  where
    by : (u : Bool) → Keeps d (begin_member n (if u then end_member n d else d))
    by true =
        of_members (record d.state { members = changed_at n ended_member d.state.members }) n begun_member
        ∙ of_members d.state n ended_member
    by false = of_members d.state n begun_member
up_keeps p (Switch n) arp d =
    noted (begin_switch n (end_first (Switch n) d)) arp (by (is_up d.state (Switch n)))
  where
    by : (u : Bool) → Keeps d (begin_switch n (if u then end_switch n causes.Again d else d))
    by true =
        of_switches (record d.state { switches = changed_at n ended_switch d.state.switches }) n
        (begun_switch d.state.next_cookie)
        ∙ of_switches d.state n ended_switch
    by false = of_switches d.state n (begun_switch d.state.next_cookie)

    noted : (e : Draft) (b : Bool) → Keeps d e → Keeps d (noting p n b e)
    noted e true k = k
    noted e false k = k
up_keeps p Audit arp d = refl

gone_keeps : (who : Who) (d : Draft) → Keeps d (goes who d)
gone_keeps (Member n) d = of_members d.state n ended_member
gone_keeps (Switch n) d = ended n causes.Gone d
gone_keeps Audit d = refl

asked_keeps : (p : PolicyOf) (n v : ℕ) (x : MemberOf) (xid : ℕ) (r : Result StatsRequest StatsFault) (d : Draft)
    → Keeps d (statistics p n v x xid r d)
asked_keeps p n v x xid (Ok requests.Desc) d = refl
asked_keeps p n v x xid (Ok requests.Table) d = refl
asked_keeps p n v x xid (Ok (requests.Flow m table_id out_port)) d = refl
asked_keeps p n v x xid (Ok (requests.Aggregate m table_id out_port)) d = refl
asked_keeps p n v x xid (Ok (requests.Port port_no)) d = refl
asked_keeps p n v x xid (Err fault) d = refl

barrier_keeps : (n v xid : ℕ) (parts : List Part) (d : Draft) → Keeps d (barrier_for n v xid parts d)
barrier_keeps n v xid [] d = refl
barrier_keeps n v xid (part ∷ parts) d = refl

serve_keeps : (p : PolicyOf) (n : ℕ) (m : MemberItem) (x : MemberOf) (xid : ℕ) (body : Body) (d : Draft)
    → Keeps d (serve p n m x xid body d)
serve_keeps p n m x xid (bodies.StatsRequest body) d = asked_keeps p n (virtual_of m) x xid (request_in body) d
serve_keeps p n m x xid bodies.BarrierRequest d =
    barrier_keeps n (virtual_of m) xid (unanswered_of p d.state (virtual_of m)) d
serve_keeps p n m x xid (bodies.SetConfig flags len) d = of_members d.state n _
serve_keeps p n m x xid (bodies.FlowMod change) d = of_members d.state n _
serve_keeps p n m x xid body d = refl

read_keeps : (p : PolicyOf) (n : ℕ) (m : MemberItem) (x : MemberOf) (r : Result Message FormFault) (d : Draft)
    → Keeps d (serve_read p n m x r d)
read_keeps p n m x (Ok message) d = serve_keeps p n m x message.xid message.body d
read_keeps p n m x (Err fault) d = refl

judged_keeps : (p : PolicyOf) (n : ℕ) (m : MemberItem) (x : MemberOf) (frame : List ℕ) (o : Option Denial) (d : Draft)
    → Keeps d (judged p n m x frame o d)
judged_keeps p n m x frame (Some denied) d = refl
judged_keeps p n m x frame None d = read_keeps p n m x (reading_of_controller frame) d

member_keeps : (p : PolicyOf) (n : ℕ) (m : Option MemberItem) (x : Option MemberOf) (frame : List ℕ) (d : Draft)
    → Keeps d (hears_from_member p n m x frame d)
member_keeps p n (Some m) (Some x) frame d = judged_keeps p n m x frame (denial_of p m x frame) d
member_keeps p n (Some m) None frame d = refl
member_keeps p n None (Some x) frame d = refl
member_keeps p n None None frame d = refl

comes_keeps : (p : PolicyOf) (total : ℕ) (bytes : List ℕ) (o : Option Spot) (d : Draft)
    → Keeps d (comes_by p total bytes o d)
comes_keeps p total bytes None d = refl
comes_keeps p total bytes (Some (v, port)) d = refl

answered_keeps : (n xid : ℕ) (o : Option ℕ) (d : Draft) → Keeps d (barrier_answered n xid o d)
answered_keeps n xid None d = refl
answered_keeps n xid (Some number) d = of_switches d.state n (with_known (barrier_reply xid))

part_keeps : (p : PolicyOf) (n xid : ℕ) (more : Bool) (body : ReplyBody) (d : Draft)
    → Keeps d (part_told p n xid more body d)
part_keeps p n xid more (replies.Desc texts) d = refl
part_keeps p n xid more (replies.Flow entries) d = refl
part_keeps p n xid more (replies.Aggregate packets bytes flows) d = refl
part_keeps p n xid more (replies.Table id name wildcards most active lookup matched) d = refl
part_keeps p n xid more (replies.Port stats) d = refl

told_keeps : (p : PolicyOf) (n xid : ℕ) (r : Result StatsReply StatsFault) (d : Draft)
    → Keeps d (statistics_told p n xid r d)
told_keeps p n xid (Ok reply) d = part_keeps p n xid reply.more reply.body d
told_keeps p n xid (Err fault) d = ended n causes.Form d

removed_keeps : (n : ℕ) (r : Removal) (cookie : ℕ) (numbers : Numbers) (d : Draft)
    → Keeps d (removed_by n r cookie numbers d)
removed_keeps n Ignored cookie numbers d = refl
removed_keeps n Taken cookie numbers d = of_switches d.state n (with_known (flow_removed cookie))
removed_keeps n Strange cookie numbers d = ended n causes.Removal d

hears_keeps : (p : PolicyOf) (n : ℕ) (x : SwitchOf) (xid : ℕ) (body : Body) (d : Draft)
    → Keeps d (hears p n x xid body d)
hears_keeps p n x xid (bodies.Error kind code bytes) d = ended n causes.Error d
hears_keeps p n x xid (bodies.PacketIn buffer total port reason bytes) d =
    comes_keeps p total bytes (entering_of (plan p) n port) d
hears_keeps p n x xid (bodies.FlowRemoved a cookie priority reason sec nsec idle packets bytes) d =
    removed_keeps n (removal x.known cookie) cookie (record { packets = packets; bytes = bytes }) d
hears_keeps p n x xid (bodies.PortStatus reason port) d = of_switches d.state n (with_known (port_status reason port))
hears_keeps p n x xid (bodies.StatsReply body) d = told_keeps p n xid (reply_in body) d
hears_keeps p n x xid bodies.BarrierReply d = answered_keeps n xid (answered_number xid x.known) d
hears_keeps p n x xid body d = refl

switch_read_keeps : (p : PolicyOf) (n : ℕ) (x : SwitchOf) (r : Result Message FormFault) (d : Draft)
    → Keeps d (hears_read p n x r d)
switch_read_keeps p n x (Ok m) d = hears_keeps p n x m.xid m.body d
switch_read_keeps p n x (Err fault) d = ended n causes.Form d

switch_keeps : (p : PolicyOf) (n : ℕ) (o : Option SwitchOf) (frame : List ℕ) (d : Draft)
    → Keeps d (hears_from p n o frame d)
switch_keeps p n None frame d = refl
switch_keeps p n (Some x) frame d = by (is_ignored frame)
  where
    by : (b : Bool) → Keeps d (if b then d else hears_read p n x (reading frame) d)
    by true = refl
    by false = switch_read_keeps p n x (reading frame) d

sends_keeps : (p : PolicyOf) (who : Who) (frame : List ℕ) (d : Draft) → Keeps d (sends p who frame d)
sends_keeps p (Member n) frame d = member_keeps p n (slice_get p.members n) (slice_get d.state.members n) frame d
sends_keeps p (Switch n) frame d = switch_keeps p n (slice_get d.state.switches n) frame d
sends_keeps p Audit frame d = refl

doubt_keeps : (p : PolicyOf) (v : ℕ) (doubts : List Doubt) (d : Draft) → Keeps d (poll_for p v doubts d)
doubt_keeps p v [] d = refl
doubt_keeps p v (doubt ∷ doubts) d = refl

tick_keeps : (p : PolicyOf) (now : ℕ) (d : Draft) → Keeps d (ticks p now d)
tick_keeps p now d =
    let e = record d { state = without_expired (record d.state { moment = now }) } in
    fold_holds (doubt_at p) (λ (f : Draft). sizes f.state ≡ sizes e.state)
    (λ f v k. doubt_keeps p v (doubts_at p f.state v) f ∙ k) (places p.virtuals) e refl
    ∙ ap (λ (k : ℕ). (k, length d.state.switches)) (long_map _ d.state.members)

unless_keeps : (p : PolicyOf) (v : ℕ) (e : Policy) (o : Option PolicyRefusal) (d : Draft)
    → Keeps d (replace_unless o p v e d)
unless_keeps p v e (Some refusal) d = refl
unless_keeps p v e None d = refl

replace_keeps : (p : PolicyOf) (v : ℕ) (r : Result Policy ExprFault) (d : Draft) → Keeps d (replace_by p v r d)
replace_keeps p v (Ok e) d =
    unless_keeps p v e (width_refusal (too_wide_in (plan p) p.members (exprs_with v e d.state.exprs) p.hops)) d
replace_keeps p v (Err fault) d = refl

pub act_keeps : (p : PolicyOf) (s : State) (e : Event) → sizes (act p s e).state ≡ sizes s
act_keeps p s (events.Up who arp) = up_keeps p who arp (untouched s)
act_keeps p s (events.Msg session frame) = sends_keeps p session.who frame (untouched s)
act_keeps p s (events.Gone session) = gone_keeps session.who (untouched s)
act_keeps p s (events.Tick second) = tick_keeps p second (untouched s)
act_keeps p s (events.Take session) = refl
act_keeps p s (events.Policy v text) =
    replace_keeps p v (reading_of_expression (names p.members v) text) (untouched s)
