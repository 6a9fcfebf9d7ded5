-- What an event does to counts.
use Rattle.std.proofs.Common.{◌≡◌, ◌∙◌, ℕ, Bool, true, false, List, [], ◌∷◌, ◌++◌, length, map, filter, Option, Some}
use Rattle.std.proofs.Common.{None}
use Rattle.std.proofs.Common.{Result, Ok, Err, refl, sym, ap, ap₂}
use Rattle.std.specs.Prelude.{find, fold, if◌then◌else◌, nat_lt, slice_get}
use Rattle.std.specs.List.{list_any}
use Rattle.agreement.specs.Entries.{entries_of}
use Rattle.agreement.specs.declared.state.Setting.{Setting}
use Rattle.cv_io.specs.declared.leaf.Who.{Who}
use Rattle.cv_io.specs.declared.leaf.Who.TheVariants.{Audit, Member, Switch}
use Rattle.grants.specs.declared.denial.Denial.{Denial}
use Rattle.member_table.specs.Entries.{has_serial}
use Rattle.member_table.specs.declared.entry.Entry.{Entry}
use Rattle.of10_msgs.specs.Reading.{reading}
use Rattle.of10_msgs.specs.Senders.{reading_of_controller}
use Rattle.of10_msgs.specs.declared.fault.FormFault.{FormFault}
use Rattle.of10_msgs.specs.declared.message.Body.{Body}
use Rattle.of10_msgs.specs.declared.message.Body.TheVariants as bodies
use Rattle.of10_msgs.specs.declared.message.Message.{Message}
use Rattle.of10_stats.specs.Reading.{reply_in, request_in}
use Rattle.of10_stats.specs.declared.fault.StatsFault.{StatsFault}
use Rattle.of10_stats.specs.declared.reply.FlowStat.{FlowStat}
use Rattle.of10_stats.specs.declared.reply.ReplyBody.{ReplyBody}
use Rattle.of10_stats.specs.declared.reply.ReplyBody.TheVariants as replies
use Rattle.of10_stats.specs.declared.reply.StatsReply.{StatsReply}
use Rattle.of10_stats.specs.declared.request.StatsRequest.{StatsRequest}
use Rattle.of10_stats.specs.declared.request.StatsRequest.TheVariants as requests
use Rattle.policy_expr.specs.Policy.{Policy}
use Rattle.policy_expr.specs.Reading.{reading as reading_of_expression}
use Rattle.policy_expr.specs.declared.fault.ExprFault.{ExprFault}
use Rattle.policies.specs.Exprs.{names}
use Rattle.policies.specs.Policies.{PolicyOf, plan}
use Rattle.policies.specs.Widths.{too_wide_in}
use Rattle.policies.specs.declared.policy.MemberItem.{MemberItem}
use Rattle.script_text.specs.declared.audit.DownCause.TheVariants as causes
use Rattle.stats_map.specs.Counting.{CountsOf, downed}
use Rattle.stats_map.specs.Histories.{Dropped, Step, WentDown, after, run}
use Rattle.switch_meaning.specs.Counts.{Numbers}
use Rattle.switch_meaning.specs.Keys.{installed}
use Rattle.switch_meaning.specs.declared.entry.PhysEntry.{PhysEntry}
use Rattle.switch_state.specs.Messages.{packet_out}
use Rattle.switch_state.specs.Reports.{answered_number, removal}
use Rattle.switch_state.specs.declared.removal.Removal.{Removal}
use Rattle.switch_state.specs.declared.removal.Removal.TheVariants.{Ignored, Strange, Taken}
use Rattle.virtual_topology.specs.Rows.{Spot}
use Rattle.virtual_topology.specs.Wires.{entering_of}
use Rattle.machine_meaning.specs.Acting.{act, sends}
use Rattle.machine_meaning.specs.Barriers.{barrier_answered, barrier_for, unanswered_of}
use Rattle.machine_meaning.specs.Batches.{batch_between, coming, counts_with}
use Rattle.machine_meaning.specs.Coming.{comes_up, goes, noting}
use Rattle.machine_meaning.specs.Composing.{compose, compose_at, compose_on, write}
use Rattle.machine_meaning.specs.Counted.{count_of, dropped_between}
use Rattle.machine_meaning.specs.Drafts.{Draft, untouched}
use Rattle.machine_meaning.specs.Ever.{counted_from, counted_through, down_by, last_by, told_by, wrote, wrote_at}
use Rattle.machine_meaning.specs.Ever.{wrote_by}
use Rattle.machine_meaning.specs.Ever.{wrote_from, wrote_on}
use Rattle.machine_meaning.specs.Glances.{glance_of}
use Rattle.machine_meaning.specs.Hearing.{Report, counts_told, flow_report, heard, reports_in, reports_in_body}
use Rattle.machine_meaning.specs.Hearing.{reports_in_frame}
use Rattle.machine_meaning.specs.Hearing.{reports_from, reports_in_part, reports_in_read, reports_in_removal}
use Rattle.machine_meaning.specs.Hearing.{reports_in_reply}
use Rattle.machine_meaning.specs.Laws.{CountsAreCounted}
use Rattle.machine_meaning.specs.Lists.{places}
use Rattle.machine_meaning.specs.MemberMessages.{denial_of, hears_from as hears_from_member, hears_member, judged}
use Rattle.machine_meaning.specs.MemberMessages.{serve}
use Rattle.machine_meaning.specs.MemberMessages.{serve_read}
use Rattle.machine_meaning.specs.Names.{virtual_of}
use Rattle.machine_meaning.specs.Packets.{comes_by}
use Rattle.machine_meaning.specs.Parts.{part_told}
use Rattle.machine_meaning.specs.Phases.{drafted, settled_of, slow}
use Rattle.machine_meaning.specs.Removals.{removed_by}
use Rattle.machine_meaning.specs.Removing.{without_expired}
use Rattle.machine_meaning.specs.Replacing.{exprs_with, replace_by, replace_unless, replaces, width_refusal}
use Rattle.machine_meaning.specs.Requests.{dispatch, dispatched, dispatched_if_up, poll, poll_at, polled, polled_if_up}
use Rattle.machine_meaning.specs.Requests.{request_all}
use Rattle.machine_meaning.specs.Rounds.{Closing, begin_member, begin_switch, close, close_member, close_switch}
use Rattle.machine_meaning.specs.Rounds.{end_member, end_switch}
use Rattle.machine_meaning.specs.Sessions.{is_up, standing_of}
use Rattle.machine_meaning.specs.Settings.{setting_of}
use Rattle.machine_meaning.specs.Settling.{decided, decided_on, entries_at, settle, settle_for, settle_one, with_risen}
use Rattle.machine_meaning.specs.Settling.{with_undone, without_idle}
use Rattle.machine_meaning.specs.States.{MemberOf, State, SwitchOf}
use Rattle.machine_meaning.specs.Statistics.{statistics}
use Rattle.machine_meaning.specs.Steps.{step_by}
use Rattle.machine_meaning.specs.SwitchMessages.{hears, hears_from, hears_read, is_ignored, statistics_told}
use Rattle.machine_meaning.specs.Takings.{left_by}
use Rattle.machine_meaning.specs.Telling.{forget, tell_ports, tell_removals, uncounted}
use Rattle.machine_meaning.specs.Ticking.{doubt, doubt_at, doubts_at, poll_for, ticks}
use Rattle.waitings.specs.Waitings.{is_done, waits_for_flows}
use Rattle.machine_meaning.specs.Ways.{switches_of}
use Rattle.events.specs.declared.event.Event.{Event}
use Rattle.events.specs.declared.event.Event.TheVariants as events
use Rattle.events.specs.declared.event.PolicyRefusal.{PolicyRefusal}
use Rattle.events.specs.declared.event.Reply.{Reply}
use Rattle.machine_meaning.specs.declared.said.Asked.{Asked}
use Rattle.machine_meaning.specs.declared.said.Down.{Down}
use Rattle.machine_meaning.specs.declared.said.Sent.{Sent}
use Rattle.waitings.specs.declared.state.Doubt.{Doubt}
use Rattle.waitings.specs.declared.state.Part.{Part}
use Rattle.waitings.specs.declared.state.Purpose.{Purpose}
use Rattle.waitings.specs.declared.state.Purpose.TheVariants as purposes

-- runs --------------------------------------------------------------------------------------------------------------

pub run_both : (xs ys : List Step) (c : CountsOf) → run (xs ++ ys) c ≡ run ys (run xs c)
run_both [] ys c = refl
run_both (x ∷ xs) ys c = run_both xs ys (after x c)

run_fold : {X : Type 0} (f : CountsOf → X → CountsOf) (step : X → Step)
    → ((c : CountsOf) (x : X) → f c x ≡ after (step x) c)
    → (xs : List X) (c : CountsOf) → fold f c xs ≡ run (map step xs) c
run_fold f step h [] c = refl
run_fold f step h (x ∷ xs) c = ap (λ (d : CountsOf). fold f d xs) (h c x) ∙ run_fold f step h xs (after (step x) c)

map_both : {X Y : Type 0} (f : X → Y) (xs ys : List X) → map f (xs ++ ys) ≡ map f xs ++ map f ys
map_both f [] ys = refl
map_both f (x ∷ xs) ys = ap (λ zs. f x ∷ zs) (map_both f xs ys)

-- phases that count nothing -----------------------------------------------------------------------------------------

-- counts, and the switches that went, stay as they are
record KeepsCounts (d e : Draft) : Type 0 where
  counts : e.state.counts ≡ d.state.counts
  downs : e.downs ≡ d.downs

kept : (d : Draft) → KeepsCounts d d
kept d = record { counts = refl; downs = refl }

both_keep : {d e f : Draft} → KeepsCounts d e → KeepsCounts e f → KeepsCounts d f
both_keep a b = record { counts = b.counts ∙ a.counts; downs = b.downs ∙ a.downs }

fold_keeps : {X : Type 0} (f : Draft → X → Draft) → ((d : Draft) (x : X) → KeepsCounts d (f d x)) → (xs : List X)
    (d : Draft) → KeepsCounts d (fold f d xs)
fold_keeps f h [] d = kept d
fold_keeps f h (x ∷ xs) d = both_keep (h d x) (fold_keeps f h xs (f d x))

-- acting ------------------------------------------------------------------------------------------------------------

-- the counts of a draft are those after some last reports, and after its switches went
abbrev Acts : CountsOf → List Report → Draft → Type 0
Acts c reports d = d.state.counts ≡ run (map down_by d.downs)
    (run (map last_by (filter (λ (r : Report). r.last) reports)) c)

noted : (p : PolicyOf) (n : ℕ) (arp : Bool) (d : Draft) → KeepsCounts d (noting p n arp d)
noted p n true d = kept d
noted p n false d = record { counts = refl; downs = refl }

up_acts : (p : PolicyOf) (who : Who) (arp : Bool) (h : State) → Acts h.counts [] (comes_up p who arp (untouched h))
up_acts p (Member n) arp h = by (is_up h (Member n))
  where
    by : (u : Bool) → Acts h.counts [] (begin_member n (if u then end_member n (untouched h) else untouched h))
    by true = refl
    by false = refl
up_acts p (Switch n) true h = by (is_up h (Switch n))
  where
    by : (u : Bool)
        → Acts h.counts [] (begin_switch n (if u then end_switch n causes.Again (untouched h) else untouched h))
    by true = refl
    by false = refl
up_acts p (Switch n) false h = by (is_up h (Switch n))
  where
    by : (u : Bool) → Acts h.counts []
        (noting p n false (begin_switch n (if u then end_switch n causes.Again (untouched h) else untouched h)))
    by true = refl
    by false = refl
up_acts p Audit arp h = refl

gone_acts : (who : Who) (h : State) → Acts h.counts [] (goes who (untouched h))
gone_acts (Member n) h = refl
gone_acts (Switch n) h = refl
gone_acts Audit h = refl

-- members' messages
asked_keeps : (p : PolicyOf) (n v : ℕ) (x : MemberOf) (xid : ℕ) (r : Result StatsRequest StatsFault) (d : Draft)
    → KeepsCounts d (statistics p n v x xid r d)
asked_keeps p n v x xid (Ok requests.Desc) d = record { counts = refl; downs = refl }
asked_keeps p n v x xid (Ok requests.Table) d = record { counts = refl; downs = refl }
asked_keeps p n v x xid (Ok (requests.Flow m table_id out_port)) d = record { counts = refl; downs = refl }
asked_keeps p n v x xid (Ok (requests.Aggregate m table_id out_port)) d = record { counts = refl; downs = refl }
asked_keeps p n v x xid (Ok (requests.Port port_no)) d = record { counts = refl; downs = refl }
asked_keeps p n v x xid (Err fault) d = kept d

barrier_keeps : (n v xid : ℕ) (parts : List Part) (d : Draft) → KeepsCounts d (barrier_for n v xid parts d)
barrier_keeps n v xid [] d = record { counts = refl; downs = refl }
barrier_keeps n v xid (part ∷ parts) d = record { counts = refl; downs = refl }

serve_keeps : (p : PolicyOf) (n : ℕ) (m : MemberItem) (x : MemberOf) (xid : ℕ) (body : Body) (d : Draft)
    → KeepsCounts d (serve p n m x xid body d)
serve_keeps p n m x xid (bodies.Hello bytes) d = kept d
serve_keeps p n m x xid (bodies.Error kind code bytes) d = kept d
serve_keeps p n m x xid (bodies.EchoRequest bytes) d = record { counts = refl; downs = refl }
serve_keeps p n m x xid (bodies.EchoReply bytes) d = kept d
serve_keeps p n m x xid bodies.FeaturesRequest d = record { counts = refl; downs = refl }
serve_keeps p n m x xid (bodies.FeaturesReply dpid buffers tables capabilities actions ports) d = kept d
serve_keeps p n m x xid bodies.GetConfigRequest d = record { counts = refl; downs = refl }
serve_keeps p n m x xid (bodies.GetConfigReply flags len) d = kept d
serve_keeps p n m x xid (bodies.SetConfig flags len) d = record { counts = refl; downs = refl }
serve_keeps p n m x xid (bodies.PacketIn buffer total port reason bytes) d = kept d
serve_keeps p n m x xid (bodies.FlowRemoved a cookie priority reason sec nsec idle packets bytes) d = kept d
serve_keeps p n m x xid (bodies.PortStatus reason port) d = kept d
serve_keeps p n m x xid (bodies.PacketOut sent) d = record { counts = refl; downs = refl }
serve_keeps p n m x xid (bodies.FlowMod change) d = record { counts = refl; downs = refl }
serve_keeps p n m x xid (bodies.PortMod bytes) d = kept d
serve_keeps p n m x xid (bodies.StatsRequest body) d = asked_keeps p n (virtual_of m) x xid (request_in body) d
serve_keeps p n m x xid (bodies.StatsReply body) d = kept d
serve_keeps p n m x xid bodies.BarrierRequest d =
    barrier_keeps n (virtual_of m) xid (unanswered_of p d.state (virtual_of m)) d
serve_keeps p n m x xid bodies.BarrierReply d = kept d
serve_keeps p n m x xid (bodies.QueueGetConfigRequest bytes) d = kept d
serve_keeps p n m x xid (bodies.QueueGetConfigReply bytes) d = kept d

read_keeps : (p : PolicyOf) (n : ℕ) (m : MemberItem) (x : MemberOf) (r : Result Message FormFault) (d : Draft)
    → KeepsCounts d (serve_read p n m x r d)
read_keeps p n m x (Ok message) d = serve_keeps p n m x message.xid message.body d
read_keeps p n m x (Err fault) d = kept d

judged_keeps : (p : PolicyOf) (n : ℕ) (m : MemberItem) (x : MemberOf) (frame : List ℕ) (o : Option Denial) (d : Draft)
    → KeepsCounts d (judged p n m x frame o d)
judged_keeps p n m x frame (Some denied) d = record { counts = refl; downs = refl }
judged_keeps p n m x frame None d = read_keeps p n m x (reading_of_controller frame) d

member_keeps : (p : PolicyOf) (n : ℕ) (m : Option MemberItem) (x : Option MemberOf) (frame : List ℕ) (d : Draft)
    → KeepsCounts d (hears_from_member p n m x frame d)
member_keeps p n (Some m) (Some x) frame d = judged_keeps p n m x frame (denial_of p m x frame) d
member_keeps p n (Some m) None frame d = kept d
member_keeps p n None (Some x) frame d = kept d
member_keeps p n None None frame d = kept d

-- switches' messages
comes_keeps : (p : PolicyOf) (total : ℕ) (bytes : List ℕ) (o : Option Spot) (d : Draft)
    → KeepsCounts d (comes_by p total bytes o d)
comes_keeps p total bytes None d = kept d
comes_keeps p total bytes (Some (v, port)) d = record { counts = refl; downs = refl }

answered_keeps : (n xid : ℕ) (o : Option ℕ) (d : Draft) → KeepsCounts d (barrier_answered n xid o d)
answered_keeps n xid None d = kept d
answered_keeps n xid (Some number) d = record { counts = refl; downs = refl }

part_keeps : (p : PolicyOf) (n xid : ℕ) (more : Bool) (body : ReplyBody) (d : Draft)
    → KeepsCounts d (part_told p n xid more body d)
part_keeps p n xid more (replies.Desc texts) d = record { counts = refl; downs = refl }
part_keeps p n xid more (replies.Flow entries) d = record { counts = refl; downs = refl }
part_keeps p n xid more (replies.Aggregate packets bytes flows) d = record { counts = refl; downs = refl }
part_keeps p n xid more (replies.Table id name wildcards most active lookup matched) d =
    record { counts = refl; downs = refl }
part_keeps p n xid more (replies.Port stats) d = record { counts = refl; downs = refl }

-- entries that are polled are still there
none_last : (n : ℕ) (entries : List FlowStat) → filter (λ (r : Report). r.last) (map (flow_report n) entries) ≡ []
none_last n [] = refl
none_last n (e ∷ es) = none_last n es

none_last_in : (s : State) (n xid : ℕ) (body : ReplyBody)
    → filter (λ (r : Report). r.last) (reports_in_part s n xid body) ≡ []
none_last_in s n xid (replies.Desc texts) = refl
none_last_in s n xid (replies.Flow entries) = by (list_any (waits_for_flows n xid) s.waiting)
  where
    by : (b : Bool) → filter (λ (r : Report). r.last) (if b then map (flow_report n) entries else []) ≡ []
    by true = none_last n entries
    by false = refl
none_last_in s n xid (replies.Aggregate packets bytes flows) = refl
none_last_in s n xid (replies.Table id name wildcards most active lookup matched) = refl
none_last_in s n xid (replies.Port stats) = refl

-- what keeps counts acts, where nothing is last
acts_kept : (h : State) (reports : List Report) → filter (λ (r : Report). r.last) reports ≡ [] → (d : Draft)
    → KeepsCounts (untouched h) d → Acts h.counts reports d
acts_kept h reports e d k =
    k.counts
    ∙ sym (ap₂ (λ (xs : List Down) (rs : List Report). run (map down_by xs) (run (map last_by rs) h.counts)) k.downs e)

reply_acts : (p : PolicyOf) (s h : State) (n xid : ℕ) (r : Result StatsReply StatsFault)
    → Acts h.counts (reports_in_reply s n xid r) (statistics_told p n xid r (untouched h))
reply_acts p s h n xid (Ok reply) =
    acts_kept h (reports_in_part s n xid reply.body) (none_last_in s n xid reply.body)
    (part_told p n xid reply.more reply.body (untouched h))
    (part_keeps p n xid reply.more reply.body (untouched h))
reply_acts p s h n xid (Err fault) = refl

removal_acts : (h : State) (n : ℕ) (r : Removal) (cookie : ℕ) (numbers : Numbers)
    → Acts h.counts (reports_in_removal r (n, cookie) numbers) (removed_by n r cookie numbers (untouched h))
removal_acts h n Taken cookie numbers = refl
removal_acts h n Ignored cookie numbers = refl
removal_acts h n Strange cookie numbers = refl

hears_acts : (p : PolicyOf) (s h : State) (n : ℕ) (x : SwitchOf) (xid : ℕ) (body : Body)
    → Acts h.counts (reports_in_body s n x xid body) (hears p n x xid body (untouched h))
hears_acts p s h n x xid (bodies.Hello bytes) = refl
hears_acts p s h n x xid (bodies.Error kind code bytes) = refl
hears_acts p s h n x xid (bodies.EchoRequest bytes) = refl
hears_acts p s h n x xid (bodies.EchoReply bytes) = refl
hears_acts p s h n x xid bodies.FeaturesRequest = refl
hears_acts p s h n x xid (bodies.FeaturesReply dpid buffers tables capabilities actions ports) = refl
hears_acts p s h n x xid bodies.GetConfigRequest = refl
hears_acts p s h n x xid (bodies.GetConfigReply flags len) = refl
hears_acts p s h n x xid (bodies.SetConfig flags len) = refl
hears_acts p s h n x xid (bodies.PacketIn buffer total port reason bytes) =
    let o = entering_of (plan p) n port in
    acts_kept h [] refl (comes_by p total bytes o (untouched h)) (comes_keeps p total bytes o (untouched h))
hears_acts p s h n x xid (bodies.FlowRemoved a cookie priority reason sec nsec idle packets bytes) =
    removal_acts h n (removal x.known cookie) cookie (record { packets = packets; bytes = bytes })
hears_acts p s h n x xid (bodies.PortStatus reason port) = refl
hears_acts p s h n x xid (bodies.PacketOut sent) = refl
hears_acts p s h n x xid (bodies.FlowMod change) = refl
hears_acts p s h n x xid (bodies.PortMod bytes) = refl
hears_acts p s h n x xid (bodies.StatsRequest body) = refl
hears_acts p s h n x xid (bodies.StatsReply body) = reply_acts p s h n xid (reply_in body)
hears_acts p s h n x xid bodies.BarrierRequest = refl
hears_acts p s h n x xid bodies.BarrierReply =
    let o = answered_number xid x.known in
    acts_kept h [] refl (barrier_answered n xid o (untouched h)) (answered_keeps n xid o (untouched h))
hears_acts p s h n x xid (bodies.QueueGetConfigRequest bytes) = refl
hears_acts p s h n x xid (bodies.QueueGetConfigReply bytes) = refl

switch_read_acts : (p : PolicyOf) (s h : State) (n : ℕ) (x : SwitchOf) (r : Result Message FormFault)
    → Acts h.counts (reports_in_read s n x r) (hears_read p n x r (untouched h))
switch_read_acts p s h n x (Ok m) = hears_acts p s h n x m.xid m.body
switch_read_acts p s h n x (Err fault) = refl

switch_acts : (p : PolicyOf) (s h : State) (n : ℕ) (o : Option SwitchOf) (frame : List ℕ)
    → Acts h.counts (reports_in_frame s n o frame) (hears_from p n o frame (untouched h))
switch_acts p s h n None frame = refl
switch_acts p s h n (Some x) frame = by (is_ignored frame)
  where
    by : (b : Bool) → Acts h.counts (if b then [] else reports_in_read s n x (reading frame))
        (if b then untouched h else hears_read p n x (reading frame) (untouched h))
    by true = refl
    by false = switch_read_acts p s h n x (reading frame)

-- ticks and expressions
doubt_keeps : (p : PolicyOf) (v : ℕ) (doubts : List Doubt) (d : Draft) → KeepsCounts d (poll_for p v doubts d)
doubt_keeps p v [] d = kept d
doubt_keeps p v (doubt ∷ doubts) d = record { counts = refl; downs = refl }

tick_keeps : (p : PolicyOf) (now : ℕ) (d : Draft) → KeepsCounts d (ticks p now d)
tick_keeps p now d =
    let e = record d { state = without_expired (record d.state { moment = now }) } in
    both_keep {d = d} {e = e} (record { counts = refl; downs = refl })
    (fold_keeps (doubt_at p) (λ f v. doubt_keeps p v (doubts_at p f.state v) f) (places p.virtuals) e)

unless_keeps : (p : PolicyOf) (v : ℕ) (e : Policy) (o : Option PolicyRefusal) (d : Draft)
    → KeepsCounts d (replace_unless o p v e d)
unless_keeps p v e (Some refusal) d = record { counts = refl; downs = refl }
unless_keeps p v e None d = record { counts = refl; downs = refl }

replace_keeps : (p : PolicyOf) (v : ℕ) (r : Result Policy ExprFault) (d : Draft) → KeepsCounts d (replace_by p v r d)
replace_keeps p v (Ok e) d =
    unless_keeps p v e (width_refusal (too_wide_in (plan p) p.members (exprs_with v e d.state.exprs) p.hops)) d
replace_keeps p v (Err fault) d = record { counts = refl; downs = refl }

acts : (p : PolicyOf) (s : State) (e : Event) → Acts (heard s e).counts (reports_in s e) (act p (heard s e) e)
acts p s (events.Up who arp) = up_acts p who arp s
acts p s (events.Msg session frame) = by session.who
  where
    by : (who : Who)
        → Acts (fold counts_told s.counts (reports_from s who frame)) (reports_from s who frame)
        (sends p who frame (untouched (record s { counts = fold counts_told s.counts (reports_from s who frame) })))
    by (Member n) =
        acts_kept s [] refl (hears_member p n frame (untouched s))
        (member_keeps p n (slice_get p.members n) (slice_get s.members n) frame (untouched s))
    by (Switch n) =
        switch_acts p s (record s { counts = fold counts_told s.counts (reports_from s (Switch n) frame) }) n
        (slice_get s.switches n) frame
    by Audit = refl
acts p s (events.Gone session) = gone_acts session.who s
acts p s (events.Tick second) = acts_kept s [] refl (ticks p second (untouched s)) (tick_keeps p second (untouched s))
acts p s (events.Take session) = refl
acts p s (events.Policy v text) =
    acts_kept s [] refl (replaces p v text (untouched s))
    (replace_keeps p v (reading_of_expression (names p.members v) text) (untouched s))

-- closing -----------------------------------------------------------------------------------------------------------

-- the counts of a draft are those of a moment, after its switches went
abbrev WentFrom : CountsOf → Draft → Type 0
WentFrom c d = d.state.counts ≡ run (map down_by d.downs) c

switch_closed : (c : CountsOf) (d : Draft) (n : ℕ) → WentFrom c d → WentFrom c (close_switch d n)
switch_closed c d n h =
    ap (downed n) h
    ∙ sym (ap (λ (steps : List Step). run steps c)
    (map_both down_by d.downs (record { switch = n; cause = causes.Slow } ∷ []))
    ∙ run_both (map down_by d.downs) (WentDown n ∷ []) c)

switches_closed : (c : CountsOf) (ns : List ℕ) (d : Draft) → WentFrom c d → WentFrom c (fold close_switch d ns)
switches_closed c [] d h = h
switches_closed c (n ∷ ns) d h = switches_closed c ns (close_switch d n) (switch_closed c d n h)

still_from : (c : CountsOf) (d e : Draft) → KeepsCounts d e → WentFrom c d → WentFrom c e
still_from c d e k h = k.counts ∙ (h ∙ sym (ap (λ (xs : List Down). run (map down_by xs) c) k.downs))

closed_from : (c : CountsOf) (closing : Closing) (d : Draft) → WentFrom c d → WentFrom c (close closing d)
closed_from c closing d h =
    still_from c (fold close_switch d closing.switches) (close closing d)
    (fold_keeps close_member (λ e n. record { counts = refl; downs = refl }) closing.members
    (fold close_switch d closing.switches))
    (switches_closed c closing.switches d h)

-- settling ----------------------------------------------------------------------------------------------------------

decided_counts : (s : State) (doubt : Doubt) → (decided s doubt).counts ≡ s.counts
decided_counts s doubt = by (find (has_serial doubt.serial) (entries_at (slice_get s.members doubt.member)))
  where
    by : (o : Option Entry) → (decided_on o doubt s).counts ≡ s.counts
    by None = refl
    by (Some e) = risen (nat_lt doubt.packets (count_of s doubt.member doubt.serial).packets)
      where
        risen : (b : Bool) → (if b then with_risen doubt s else without_idle doubt e s).counts ≡ s.counts
        risen true = refl
        risen false = refl

all_decided_counts : (doubts : List Doubt) (s : State) → (fold decided s doubts).counts ≡ s.counts
all_decided_counts [] s = refl
all_decided_counts (doubt ∷ doubts) s = all_decided_counts doubts (decided s doubt) ∙ decided_counts s doubt

settle_keeps : (p : PolicyOf) (purpose : Purpose) (d : Draft) → KeepsCounts d (settle_for p purpose d)
settle_keeps p (purposes.Flow asker f) d = record { counts = refl; downs = refl }
settle_keeps p (purposes.Aggregate asker f) d = record { counts = refl; downs = refl }
settle_keeps p (purposes.Port asker port_no told) d = record { counts = refl; downs = refl }
settle_keeps p (purposes.Idle doubts) d = record { counts = all_decided_counts doubts d.state; downs = refl }
settle_keeps p (purposes.Barrier asker) d = record { counts = refl; downs = refl }

settled_keeps : (p : PolicyOf) (d : Draft) → KeepsCounts d (settle p d)
settled_keeps p d =
    both_keep {d = d} {e = with_undone d} (record { counts = refl; downs = refl })
    (fold_keeps (settle_one p) (λ e w. settle_keeps p w.purpose e) (filter is_done d.state.waiting) (with_undone d))

-- composing ---------------------------------------------------------------------------------------------------------

-- what a draft writes is counted, and no switch goes
record Writes (steps : List Step) (d e : Draft) : Type 0 where
  counts : e.state.counts ≡ run steps d.state.counts
  downs : e.downs ≡ d.downs

on_writes : (setting : Setting) (d : Draft) (n : ℕ) (o : Option SwitchOf) (wanted : List PhysEntry)
    → Writes (wrote_on n o wanted d) d (compose_on n o wanted d)
on_writes setting d n None wanted = record { counts = refl; downs = refl }
on_writes setting d n (Some x) wanted = by x.outbox.up
  where
    by : (u : Bool) → Writes
        (if u then map (wrote_by n) (coming d.state.next_cookie (standing_of d.state n) wanted) else [])
        d (if u then write n x wanted (batch_between d.state.next_cookie (standing_of d.state n) wanted) d else d)
    by true = record {
      counts =
          run_fold (counts_with n) (wrote_by n) (λ c w. refl)
          (coming d.state.next_cookie (standing_of d.state n) wanted)
          d.state.counts;
      downs = refl;
    }
    by false = record { counts = refl; downs = refl }

from_writes : (setting : Setting) (ns : List ℕ) (d : Draft)
    → Writes (wrote_from setting d ns) d (fold (compose_at setting) d ns)
from_writes setting [] d = record { counts = refl; downs = refl }
from_writes setting (n ∷ ns) d =
    let first = on_writes setting d n (slice_get d.state.switches n) (installed (entries_of setting n)) in
    let rest = from_writes setting ns (compose_at setting d n) in
    record {
      counts =
          rest.counts
          ∙ (ap (run (wrote_from setting (compose_at setting d n) ns)) first.counts
          ∙ sym (run_both (wrote_at setting d n) (wrote_from setting (compose_at setting d n) ns) d.state.counts));
      downs = rest.downs ∙ first.downs;
    }

composed_writes : (p : PolicyOf) (d : Draft) → Writes (wrote p d) d (compose p d)
composed_writes p d = from_writes (setting_of p d.state) (places d.state.switches) d

-- telling -----------------------------------------------------------------------------------------------------------

poll_keeps : (n : ℕ) (o : Option SwitchOf) (a : Asked) (d : Draft) → KeepsCounts d (polled_if_up n o a d)
poll_keeps n None a d = kept d
poll_keeps n (Some x) a d = by x.outbox.up
  where
    by : (u : Bool) → KeepsCounts d (if u then polled n x a d else d)
    by true = record { counts = refl; downs = refl }
    by false = record { counts = refl; downs = refl }

dispatch_keeps : (o : Option SwitchOf) (a : Sent) (d : Draft) → KeepsCounts d (dispatched_if_up o a d)
dispatch_keeps None a d = kept d
dispatch_keeps (Some x) a d = by x.outbox.up
  where
    by : (u : Bool) → KeepsCounts d (if u then dispatched a.switch x (packet_out a.port a.bytes) d else d)
    by true = record { counts = refl; downs = refl }
    by false = record { counts = refl; downs = refl }

polls_keep : (p : PolicyOf) (a : Asked) (d : Draft) → KeepsCounts d (poll p d a)
polls_keep p a d =
    by (nat_lt a.v (length p.virtuals))
    (fold_keeps (poll_at a) (λ f n. poll_keeps n (slice_get f.state.switches n) a f) (switches_of p a.v) d)
  where
    by : (b : Bool) → KeepsCounts d (fold (poll_at a) d (switches_of p a.v))
        → KeepsCounts d (if b then fold (poll_at a) d (switches_of p a.v) else d)
    by true k = k
    by false k = kept d

requests_keep : (p : PolicyOf) (d : Draft) → KeepsCounts d (request_all p d)
requests_keep p d =
    both_keep (fold_keeps (poll p) (λ e a. polls_keep p a e) d.asked d)
    (fold_keeps dispatch (λ e a. dispatch_keeps (slice_get e.state.switches a.switch) a e) d.sent
    (fold (poll p) d d.asked))

told_keeps : (p : PolicyOf) (before : State) (d : Draft)
    → KeepsCounts d (tell_removals (tell_ports p before (request_all p d)))
told_keeps p before d = let r = requests_keep p d in record { counts = r.counts; downs = r.downs }

-- leaves that are dropped
forgets : (before : State) (d : Draft)
    → (forget before d).state.counts ≡ run (map Dropped (dropped_between before d.state)) d.state.counts
forgets before d = run_fold uncounted Dropped (λ c leaf. refl) (dropped_between before d.state) d.state.counts

-- all ---------------------------------------------------------------------------------------------------------------

heard_counts : (s : State) (e : Event) → (heard s e).counts ≡ run (map told_by (reports_in s e)) s.counts
heard_counts s e = run_fold counts_told told_by (λ c r. refl) (reports_in s e) s.counts

run_five : (a b c w d : List Step) (counts : CountsOf)
    → run (a ++ (b ++ (c ++ (w ++ d)))) counts ≡ run d (run w (run c (run b (run a counts))))
run_five a b c w d counts =
    run_both a (b ++ (c ++ (w ++ d))) counts
    ∙ (run_both b (c ++ (w ++ d)) (run a counts)
    ∙ (run_both c (w ++ d) (run b (run a counts)) ∙ run_both w d (run c (run b (run a counts)))))

module _ (p : PolicyOf) (s : State) (e : Event) where
  abbrev begun : State
  begun = heard s e

  abbrev lasts : List Step
  lasts = map last_by (filter (λ (r : Report). r.last) (reports_in s e))

  abbrev settled : Draft
  settled = settled_of p begun e (slow p begun e)

  abbrev told : Draft
  told = tell_removals (tell_ports p begun (request_all p (compose p settled)))

  abbrev dropped : List Step
  dropped = map Dropped (dropped_between begun told.state)

  went : WentFrom (run lasts begun.counts) settled
  went =
      let closed = close (slow p begun e) (act p begun e) in
      still_from (run lasts begun.counts) closed settled (settled_keeps p closed)
      (closed_from (run lasts begun.counts) (slow p begun e) (act p begun e) (acts p s e))

  through : (drafted p begun e).state.counts ≡ run (counted_through p s e) s.counts
  through =
      let composed = composed_writes p settled in
      let tells = told_keeps p begun (compose p settled) in
      forgets begun told
      ∙ (ap (run dropped) (tells.counts ∙ (composed.counts ∙ ap (run (wrote p settled)) went))
      ∙ (ap (λ (xs : List Down). run dropped (run (wrote p settled) (run (map down_by xs) (run lasts begun.counts))))
      (sym (tells.downs ∙ composed.downs))
      ∙ (ap (λ (c : CountsOf). run dropped (run (wrote p settled) (run (map down_by told.downs) (run lasts c))))
      (heard_counts s e)
      ∙ sym (run_five (map told_by (reports_in s e)) lasts (map down_by told.downs)
      (wrote p settled) dropped s.counts))))

left_counts : (s : State) (who : Who) (round : ℕ) → (left_by who round s).counts ≡ s.counts
left_counts s (Member n) round = refl
left_counts s (Switch n) round = refl
left_counts s Audit round = refl

pub counts_counted : CountsAreCounted
counts_counted p s e = by (glance_of p s e)
  where
    forth : (e : Event) → (step_by None p s e).1.counts ≡ run (counted_from None p s e) s.counts
    forth (events.Up who arp) = through p s (events.Up who arp)
    forth (events.Msg session frame) = through p s (events.Msg session frame)
    forth (events.Gone session) = through p s (events.Gone session)
    forth (events.Tick second) = through p s (events.Tick second)
    forth (events.Take session) = left_counts s session.who session.round
    forth (events.Policy v text) = through p s (events.Policy v text)

    by : (o : Option Reply) → (step_by o p s e).1.counts ≡ run (counted_from o p s e) s.counts
    by (Some reply) = refl
    by None = forth e
