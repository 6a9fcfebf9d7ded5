-- A switch in memory is one of the switches that agreement speaks of.
use Rattle.std.proofs.Common.{◌≡◌, ◌∙◌, ℕ, ◌+◌, ◌<◌, ◌≤◌, ◌^◌, ◌==◌, Bool, true, false, ◌&&◌, not, List, [], ◌∷◌, ◌++◌}
use Rattle.std.proofs.Common.{map, filter, Some, None, Option, if◌then◌else◌, cond, refl, sym, ap, ap₂, subst, nat_lt}
use Rattle.std.proofs.Common.{arith, lt-ltb}
use Rattle.std.specs.List.{AllByRecursion}
use Rattle.std.specs.Prelude.{flat_map, option_map}
use Rattle.std.proofs.lemmas.List.{append-nil, length-append, map-append}
use Rattle.install_plan.specs.declared.written.Written.{Written}
use Rattle.of10_actions.specs.Numbers.{ACTION, CONTROLLER, IN_PORT, NONE}
use Rattle.of10_actions.specs.declared.action.Action.{Action}
use Rattle.of10_actions.specs.declared.action.Action.TheVariants.{Output, SetVlanVid, SetVlanPcp, StripVlan, SetDlSrc}
use Rattle.of10_actions.specs.declared.action.Action.TheVariants.{SetDlDst, SetNwSrc, SetNwDst, SetNwTos, SetTpSrc}
use Rattle.of10_actions.specs.declared.action.Action.TheVariants.{SetTpDst, Enqueue}
use Rattle.of10_match.specs.Fields.{HeaderOf}
use Rattle.of10_match.specs.Highest.{higher}
use Rattle.of10_match.specs.Matching.{holds}
use Rattle.of10_match.specs.Numbers.{ARP, IPV4}
use Rattle.of10_match.specs.Wildcards.{normal_of}
use Rattle.of10_msgs.specs.Commands.{command_at}
use Rattle.of10_msgs.specs.declared.command.Command.{Command}
use Rattle.of10_msgs.specs.declared.command.Command.TheVariants as commands
use Rattle.of10_msgs.specs.declared.message.Body.{Body}
use Rattle.of10_msgs.specs.declared.message.Body.TheVariants as bodies
use Rattle.of10_msgs.specs.declared.message.FlowMod.{FlowMod as FlowModOf}
use Rattle.pkt_bytes.specs.Headers.{header_in, link_header, no_header, with_arp, with_ipv4, with_payload}
use Rattle.pkt_bytes.specs.Ipv4.{ipv4_at}
use Rattle.pkt_bytes.specs.Link.{link_of}
use Rattle.pkt_bytes.specs.Numbers.{has}
use Rattle.pkt_bytes.specs.declared.ipv4.Ipv4.{Ipv4}
use Rattle.pkt_bytes.specs.declared.link.Payload.{Payload}
use Rattle.switch_meaning.proofs.Highest.{highest-may}
use Rattle.switch_meaning.specs.Choosing.{chosen_entry}
use Rattle.switch_meaning.specs.Firing.{both_fired, copied, fire, fire_entry, sent, sent_by, set_in, unsent}
use Rattle.switch_meaning.specs.Firing.{output as fired_output}
use Rattle.switch_meaning.specs.MayUse.{MayUse, rank_of}
use Rattle.switch_meaning.specs.Tables.{has_key, table_after, table_after_all, takes_out}
use Rattle.switch_meaning.specs.declared.choosing.Reading.TheVariants.{ExactFirst}
use Rattle.switch_meaning.specs.declared.entry.Change.{Change}
use Rattle.switch_meaning.specs.declared.entry.Change.TheVariants as changes
use Rattle.switch_meaning.specs.declared.entry.FlowEntry.{FlowEntry}
use Rattle.switch_meaning.specs.declared.fired.Fired.{Fired}
use Rattle.switch_meaning.specs.declared.fired.Sent.{Sent}
use Rattle.switch_state.specs.Messages.{addition, beginning, delete_strict, phase}
use Rattle.switch_state.specs.Writing.{changes_by, changes_of}
use Rattle.soft_net.specs.Alike.{BatchesAreSuch, ChoosesAlike, ChoosesAllowed, GoesAlike, HoldsAlike, IsOfKind, IsWritten}
use Rattle.soft_net.specs.Alike.{SendsAlike, used_flow}
use Rattle.soft_net.specs.Changes.{after, after_command, selection_in}
use Rattle.soft_net.specs.Entries.{entry_of, flows, is_at, outputs_to}
use Rattle.soft_net.specs.Passing.{bare, both_passed, done, dressed, handled_by, output, sends, sent_at, set, told}
use Rattle.soft_net.specs.Passing.{unpassed}
use Rattle.soft_net.specs.Tables.{TableOf, best_entry, is_full, is_meant, is_selected, with_entry}
use Rattle.soft_net.specs.declared.dress.Dress.{Dress}
use Rattle.soft_net.specs.declared.entry.SoftEntry.{SoftEntry}
use Rattle.soft_net.specs.declared.passed.Packet.{Packet}
use Rattle.soft_net.specs.declared.passed.Passed.{Passed}
use Rattle.soft_net.specs.declared.selection.Selection.{Selection}

-- ---- the entry that is used

abbrev flow_if : Option SoftEntry → Option FlowEntry
flow_if None = None
flow_if (Some e) = Some e.flow

higher_alike : (e : SoftEntry) (o : Option SoftEntry)
    → flow_if (higher (λ (d : SoftEntry). rank_of d.flow) e o) ≡ higher rank_of e.flow (flow_if o)
higher_alike e None = refl
higher_alike e (Some d) = by (nat_lt (rank_of e.flow) (rank_of d.flow))
  where
    by : (b : Bool) → flow_if (Some (if b then d else e)) ≡ Some (if b then d.flow else e.flow)
    by true = refl
    by false = refl

alike : (es : List SoftEntry) (h : HeaderOf) → flow_if (best_entry es h) ≡ chosen_entry ExactFirst (flows es) h
alike [] h = refl
alike (e ∷ es) h = by (holds e.flow.m h) (alike es h)
  where
    by : (b : Bool) → flow_if (best_entry es h) ≡ chosen_entry ExactFirst (flows es) h
        → flow_if (if b then higher (λ (d : SoftEntry). rank_of d.flow) e (best_entry es h) else best_entry es h)
        ≡ (if b then higher rank_of e.flow (chosen_entry ExactFirst (flows es) h)
        else chosen_entry ExactFirst (flows es) h)
    by true m = higher_alike e (best_entry es h) ∙ ap (higher rank_of e.flow) m
    by false m = m

mapped : (es : List SoftEntry) (h : HeaderOf) → used_flow es h ≡ flow_if (best_entry es h)
mapped es h = by (best_entry es h)
  where
    by : (o : Option SoftEntry) → option_map (λ (e : SoftEntry). e.flow) o ≡ flow_if o
    by None = refl
    by (Some e) = refl

pub chooses_alike : ChoosesAlike
chooses_alike es h = mapped es h ∙ alike es h

pub chooses_allowed : ChoosesAllowed
chooses_allowed es h = subst (MayUse (flows es) h) (sym (chooses_alike es h)) (highest-may ExactFirst (flows es) h)

-- ---- where packets go

both_alike : (a b : Passed) (f g : Fired) → GoesAlike a f → GoesAlike b g → GoesAlike (both_passed a b) (both_fired f g)
both_alike a b f g x y = record {
  ports = map-append (λ (p : Packet). p.port) a.outs b.outs ∙ (ap₂ (λ ps qs. ps ++ qs) x.ports y.ports
      ∙ sym (map-append (λ (s : Sent). s.port) f.outs g.outs));
  copies = length-append a.copies b.copies ∙ (ap₂ (λ m n. m + n) x.copies y.copies
      ∙ sym (length-append f.copies g.copies));
}

output_alike : (port : ℕ) (d : Dress) (h : HeaderOf) (frame : List ℕ)
    → GoesAlike (output port d h.in_port frame) (fired_output port h)
output_alike port d h frame = by (port == CONTROLLER) (port == IN_PORT) (port == h.in_port)
  where
    by : (a b c : Bool)
        → GoesAlike (if a then told ACTION h.in_port (dressed d frame)
        else (if b then sent_at h.in_port (dressed d frame)
        else (if c then unpassed else sent_at port (dressed d frame))))
        (if a then copied h else (if b then sent h.in_port h else (if c then unsent else sent port h)))
    by true b c = record { ports = refl; copies = refl }
    by false true c = record { ports = refl; copies = refl }
    by false false true = record { ports = refl; copies = refl }
    by false false false = record { ports = refl; copies = refl }

sends_alike : (action : Action) (d : Dress) (h : HeaderOf) (frame : List ℕ)
    → GoesAlike (sends action d h.in_port frame) (sent_by action h)
sends_alike (Output port max_len) d h frame = output_alike port d h frame
sends_alike (SetVlanVid vid) d h frame = record { ports = refl; copies = refl }
sends_alike (SetVlanPcp pcp) d h frame = record { ports = refl; copies = refl }
sends_alike StripVlan d h frame = record { ports = refl; copies = refl }
sends_alike (SetDlSrc address) d h frame = record { ports = refl; copies = refl }
sends_alike (SetDlDst address) d h frame = record { ports = refl; copies = refl }
sends_alike (SetNwSrc address) d h frame = record { ports = refl; copies = refl }
sends_alike (SetNwDst address) d h frame = record { ports = refl; copies = refl }
sends_alike (SetNwTos tos) d h frame = record { ports = refl; copies = refl }
sends_alike (SetTpSrc port) d h frame = record { ports = refl; copies = refl }
sends_alike (SetTpDst port) d h frame = record { ports = refl; copies = refl }
sends_alike (Enqueue port queue) d h frame = output_alike port d h frame

-- no action changes the port by which a packet came
same_port : (action : Action) (h : HeaderOf) → (set_in action h).in_port ≡ h.in_port
same_port (Output port max_len) h = refl
same_port (SetVlanVid vid) h = refl
same_port (SetVlanPcp pcp) h = refl
same_port StripVlan h = refl
same_port (SetDlSrc address) h = refl
same_port (SetDlDst address) h = refl
same_port (SetNwSrc address) h = refl
same_port (SetNwDst address) h = refl
same_port (SetNwTos tos) h = refl
same_port (SetTpSrc port) h = refl
same_port (SetTpDst port) h = refl
same_port (Enqueue port queue) h = refl

done_alike : (actions : List Action) (d : Dress) (h : HeaderOf) (frame : List ℕ)
    → GoesAlike (done actions d h.in_port frame) (fire actions h)
done_alike [] d h frame = record { ports = refl; copies = refl }
done_alike (action ∷ actions) d h frame =
    let rest : GoesAlike (done actions (set action d) h.in_port frame) (fire actions (set_in action h)) =
    subst (λ p. GoesAlike (done actions (set action d) p frame) (fire actions (set_in action h))) (same_port action h)
    (done_alike actions (set action d) (set_in action h) frame) in
    both_alike (sends action d h.in_port frame) (done actions (set action d) h.in_port frame) (sent_by action h)
    (fire actions (set_in action h)) (sends_alike action d h frame) rest

handled_alike : (o : Option SoftEntry) (h : HeaderOf) (frame : List ℕ)
    → GoesAlike (handled_by o h.in_port frame) (fire_entry (flow_if o) h)
handled_alike None h frame = record { ports = refl; copies = refl }
handled_alike (Some e) h frame = let d = done_alike e.flow.actions (bare frame) h frame in
    record { ports = d.ports; copies = d.copies }

-- a header has the port by which the frame came
ipv4_port : (o : Option Ipv4) (bytes : List ℕ) (h : HeaderOf) → (with_ipv4 o bytes h).in_port ≡ h.in_port
ipv4_port None bytes h = refl
ipv4_port (Some ip) bytes h = refl

payload_port : (p : Payload) (bytes : List ℕ) (h : HeaderOf) → (with_payload p bytes h).in_port ≡ h.in_port
payload_port p bytes h = by (p.dl_type == IPV4) (p.dl_type == ARP && has (p.place + 28) bytes)
  where
    by : (b c : Bool)
        → (if b then with_ipv4 (ipv4_at p.place bytes) bytes h else (if c then with_arp p.place bytes h else h)).in_port
        ≡ h.in_port
    by true c = ipv4_port (ipv4_at p.place bytes) bytes h
    by false true = refl
    by false false = refl

header_port : (port : ℕ) (bytes : List ℕ) → (header_in port bytes).in_port ≡ port
header_port port bytes = by (has 14 bytes)
  where
    by : (b : Bool)
        → (if b then with_payload (link_of bytes).payload bytes (link_header (link_of bytes) port bytes)
        else no_header port).in_port ≡ port
    by true = payload_port (link_of bytes).payload bytes (link_header (link_of bytes) port bytes)
    by false = refl

pub sends_where : SendsAlike
sends_where es port frame =
    let h = header_in port frame in
    let o = best_entry es h in
    let at : GoesAlike (handled_by o port frame) (fire_entry (flow_if o) h) =
    subst (λ p. GoesAlike (handled_by o p frame) (fire_entry (flow_if o) h)) (header_port port frame)
    (handled_alike o h frame) in
    let used : GoesAlike (handled_by o port frame) (fire_entry (chosen_entry ExactFirst (flows es) h) h) =
    subst (λ u. GoesAlike (handled_by o port frame) (fire_entry u h)) (alike es h) at in
    record { ports = used.ports; copies = used.copies }

-- ---- what it holds

kept_alike : (p : FlowEntry → Bool) (q : SoftEntry → Bool) → ((e : SoftEntry) → q e ≡ p e.flow) → (es : List SoftEntry)
    → flows (filter q es) ≡ filter p (flows es)
kept_alike p q same [] = refl
kept_alike p q same (e ∷ es) =
    ap (λ b. flows (cond b (e ∷ filter q es) (filter q es))) (same e) ∙ by (p e.flow) (kept_alike p q same es)
  where
    by : (b : Bool) → flows (filter q es) ≡ filter p (flows es)
        → flows (cond b (e ∷ filter q es) (filter q es)) ≡ cond b (e.flow ∷ filter p (flows es)) (filter p (flows es))
    by true m = ap (λ fs. e.flow ∷ fs) m
    by false m = m

put_alike : (t : TableOf) (new : SoftEntry)
    → flows (with_entry t new).entries ≡ table_after (flows t.entries) (changes.Add new.flow)
put_alike t new =
    let stays : SoftEntry → Bool = λ e. not (is_at (record { m = new.flow.m; priority = new.flow.priority }) e) in
    map-append (λ (e : SoftEntry). e.flow) (filter stays t.entries) (new ∷ [])
    ∙ ap (λ fs. fs ++ new.flow ∷ [])
    (kept_alike (λ f. not (has_key new.flow.m new.flow.priority f)) stays (λ e. refl) t.entries)

-- whichever ports the entries send to, those that are meant are selected
selected : (s : Selection) (port : ℕ) (e : SoftEntry) → port ≡ NONE → is_selected s port e ≡ is_meant s e
selected s port e none =
    ap (λ q. is_meant s e && outputs_to q e) none ∙ by (is_meant s e)
  where
    by : (b : Bool) → (b && true) ≡ b
    by true = refl
    by false = refl

gone_alike : (s : Selection) (change : Change) (t : TableOf) (port : ℕ) → port ≡ NONE
    → ((e : SoftEntry) → is_meant s e ≡ takes_out change e.flow)
    → flows (filter (λ e. not (is_selected s port e)) t.entries)
    ≡ filter (λ f. not (takes_out change f)) (flows t.entries) ++ []
gone_alike s change t port none same =
    kept_alike (λ f. not (takes_out change f)) (λ e. not (is_selected s port e))
    (λ e. ap not (selected s port e none ∙ same e)) t.entries
    ∙ sym (append-nil (filter (λ f. not (takes_out change f)) (flows t.entries)))

commanded : (o : Option Command) (t : TableOf) (m : FlowModOf) → t.next + 1 < 2 ^ 64 → IsOfKind o m
    → flows (after_command o t m).entries ≡ table_after_all (flows t.entries) (changes_by o m)
commanded None t m l k = refl
commanded (Some commands.Add) t m l k =
    ap (λ b. flows (if not b then t else with_entry t (entry_of t.next m)).entries) (lt-ltb (t.next + 1) (2 ^ 64) l)
    ∙ put_alike t (entry_of t.next m)
commanded (Some commands.Modify) t m l k = absurd k
commanded (Some commands.ModifyStrict) t m l k = absurd k
commanded (Some commands.Delete) t m l k =
    gone_alike (selection_in false m) (changes.Delete (normal_of m.m)) t m.out_port k (λ e. refl)
commanded (Some commands.DeleteStrict) t m l k =
    gone_alike (selection_in true m) (changes.DeleteStrict (normal_of m.m) m.priority) t m.out_port k (λ e. refl)

heard : (t : TableOf) (body : Body) → t.next + 1 < 2 ^ 64 → IsWritten body
    → flows (after t body).entries ≡ table_after_all (flows t.entries) (changes_of body)
heard t (bodies.FlowMod m) l k = commanded (command_at m.command) t m l k
heard t (bodies.Hello bytes) l k = refl
heard t (bodies.Error kind code bytes) l k = refl
heard t (bodies.EchoRequest bytes) l k = refl
heard t (bodies.EchoReply bytes) l k = refl
heard t bodies.FeaturesRequest l k = refl
heard t (bodies.FeaturesReply id buffers tables capabilities actions ports) l k = refl
heard t bodies.GetConfigRequest l k = refl
heard t (bodies.GetConfigReply flags miss_send_len) l k = refl
heard t (bodies.SetConfig flags miss_send_len) l k = refl
heard t (bodies.PacketIn buffer total in_port reason bytes) l k = refl
heard t (bodies.FlowRemoved m cookie priority reason sec nsec idle packets bytes) l k = refl
heard t (bodies.PortStatus reason port) l k = refl
heard t (bodies.PacketOut out) l k = refl
heard t (bodies.PortMod bytes) l k = refl
heard t (bodies.StatsRequest body) l k = refl
heard t (bodies.StatsReply body) l k = refl
heard t bodies.BarrierRequest l k = refl
heard t bodies.BarrierReply l k = refl
heard t (bodies.QueueGetConfigRequest bytes) l k = refl
heard t (bodies.QueueGetConfigReply bytes) l k = refl

-- a message takes one number at most
numbered : (o : Option Command) (t : TableOf) (m : FlowModOf) → IsOfKind o m → (after_command o t m).next ≤ t.next + 1
numbered None t m k = omega arith
numbered (Some commands.Add) t m k = by (is_full t)
  where
    by : (b : Bool) → (if b then t else with_entry t (entry_of t.next m)).next ≤ t.next + 1
    by true = omega arith
    by false = omega arith
numbered (Some commands.Modify) t m k = absurd k
numbered (Some commands.ModifyStrict) t m k = absurd k
numbered (Some commands.Delete) t m k = omega arith
numbered (Some commands.DeleteStrict) t m k = omega arith

one_number : (t : TableOf) (body : Body) → IsWritten body → (after t body).next ≤ t.next + 1
one_number t (bodies.FlowMod m) k = numbered (command_at m.command) t m k
one_number t (bodies.Hello bytes) k = omega arith
one_number t (bodies.Error kind code bytes) k = omega arith
one_number t (bodies.EchoRequest bytes) k = omega arith
one_number t (bodies.EchoReply bytes) k = omega arith
one_number t bodies.FeaturesRequest k = omega arith
one_number t (bodies.FeaturesReply id buffers tables capabilities actions ports) k = omega arith
one_number t bodies.GetConfigRequest k = omega arith
one_number t (bodies.GetConfigReply flags miss_send_len) k = omega arith
one_number t (bodies.SetConfig flags miss_send_len) k = omega arith
one_number t (bodies.PacketIn buffer total in_port reason bytes) k = omega arith
one_number t (bodies.FlowRemoved m cookie priority reason sec nsec idle packets bytes) k = omega arith
one_number t (bodies.PortStatus reason port) k = omega arith
one_number t (bodies.PacketOut out) k = omega arith
one_number t (bodies.PortMod bytes) k = omega arith
one_number t (bodies.StatsRequest body) k = omega arith
one_number t (bodies.StatsReply body) k = omega arith
one_number t bodies.BarrierRequest k = omega arith
one_number t bodies.BarrierReply k = omega arith
one_number t (bodies.QueueGetConfigRequest bytes) k = omega arith
one_number t (bodies.QueueGetConfigReply bytes) k = omega arith

-- changes in two lots, one after the other
after_both : (fs : List FlowEntry) (cs ds : List Change)
    → table_after_all fs (cs ++ ds) ≡ table_after_all (table_after_all fs cs) ds
after_both fs [] ds = refl
after_both fs (c ∷ cs) ds = after_both (table_after fs c) cs ds

pub holds_alike : HoldsAlike
holds_alike t [] l k = refl
holds_alike t (body ∷ rest) l k =
    let one = one_number t body k.0 in
    let cs = changes_of body in
    let ds = flat_map changes_of rest in
    holds_alike (after t body) rest (omega (arith, l, one)) k.1
    ∙ (ap (λ fs. table_after_all fs ds) (heard t body (omega (arith, l)) k.0) ∙ sym (after_both (flows t.entries) cs ds))

-- ---- what is written

all_append : (xs ys : List Body) → AllByRecursion IsWritten xs → AllByRecursion IsWritten ys
    → AllByRecursion IsWritten (xs ++ ys)
all_append [] ys a b = b
all_append (x ∷ xs) ys a b = (a.0, all_append xs ys a.1 b)

all_deletes : (ws : List Written) → AllByRecursion IsWritten (map delete_strict ws)
all_deletes [] = tt
all_deletes (w ∷ ws) = (refl, all_deletes ws)

all_additions : (ws : List Written) → AllByRecursion IsWritten (map addition ws)
all_additions [] = tt
all_additions (w ∷ ws) = (tt, all_additions ws)

in_phase : (xs : List Body) → AllByRecursion IsWritten xs → AllByRecursion IsWritten (phase xs)
in_phase [] a = tt
in_phase (x ∷ xs) a = all_append (x ∷ xs) (bodies.BarrierRequest ∷ []) a (tt, tt)

begun : (begins : Bool) → AllByRecursion IsWritten (beginning begins)
begun true = (tt, (refl, (tt, tt)))
begun false = tt

pub batches_are_such : BatchesAreSuch
batches_are_such begins b =
    all_append (beginning begins) (phase (map delete_strict b.deletes) ++ phase (map addition b.adds)) (begun begins)
    (all_append (phase (map delete_strict b.deletes)) (phase (map addition b.adds))
    (in_phase (map delete_strict b.deletes) (all_deletes b.deletes))
    (in_phase (map addition b.adds) (all_additions b.adds)))
