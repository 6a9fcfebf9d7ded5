-- Packets that leave for members' messages are short.
use Rattle.std.proofs.Common.{◌≡◌, ℕ, ◌<◌, Bool, true, false, List, [], ◌∷◌, ◌++◌, Option, None, Some, Result}
use Rattle.std.proofs.Common.{length, refl, subst, sym}
use Rattle.std.specs.Prelude.{◌==◌, filter_map, option_map}
use Rattle.std.specs.List.{cons_option}
use Rattle.member_state.specs.States.{HeldState}
use Rattle.of10_actions.specs.declared.effects.PortView.{PortView}
use Rattle.of10_msgs.specs.Ranges.{CanWrite}
use Rattle.of10_msgs.specs.declared.message.Body.{Body}
use Rattle.of10_msgs.specs.declared.message.Body.TheVariants as bodies
use Rattle.of10_msgs.specs.declared.message.PacketOut.{PacketOut}
use Rattle.of10_stats.specs.declared.fault.StatsFault.{StatsFault}
use Rattle.of10_stats.specs.declared.request.StatsRequest.{StatsRequest}
use Rattle.of10_stats.specs.declared.request.StatsRequest.TheVariants as statistics_of
use Rattle.pkt_bytes.specs.Headers.{header_in}
use Rattle.pkt_bytes.specs.Rewritten.{rewritten}
use Rattle.pkt_bytes.proofs.BytesAfter.{length_stays}
use Rattle.policies.specs.Policies.{PolicyOf, plan}
use Rattle.policies.specs.declared.policy.MemberItem.{MemberItem}
use Rattle.policy_meaning.specs.declared.walking.PortOut.{PortOut}
use Rattle.virtual_topology.specs.Rows.{Spot}
use Rattle.virtual_topology.specs.Wires.{outside_of}
use Rattle.waitings.specs.declared.state.Part.{Part}
use Rattle.machine_meaning.specs.Barriers.{barrier_for, unanswered_of}
use Rattle.machine_meaning.specs.Drafts.{Draft}
use Rattle.event_acts.specs.InsideJudging.{Asks, is_served}
use Rattle.machine_drafts.specs.InsideRequests.{AreSendable}
use Rattle.machine_meaning.specs.MemberMessages.{serve}
use Rattle.machine_meaning.specs.Names.{virtual_of}
use Rattle.machine_meaning.specs.Packets.{leaving, packet_goes, sent_in}
use Rattle.machine_meaning.specs.Settings.{setting_of}
use Rattle.machine_meaning.specs.States.{MemberOf}
use Rattle.machine_meaning.specs.Statistics.{asked, statistics}
use Rattle.event_acts.specs.declared.judging.Request.{Request}
use Rattle.event_acts.specs.declared.judging.Request.TheVariants as requests
use Rattle.machine_meaning.specs.declared.said.Sent.{Sent}
use Rattle.event_acts.proofs.PacketOuts.{data_short, packet_dropped}

-- packets -----------------------------------------------------------------------------------------------------------

both_sendable : (xs ys : List Sent) → AreSendable xs → AreSendable ys → AreSendable (xs ++ ys)
both_sendable [] ys a b = b
both_sendable (x ∷ xs) ys a b = (a.0, both_sendable xs ys a.1 b)

one_sendable : (bytes : List ℕ) (o : PortOut) (found : Option Spot) (rest : List Sent) → length bytes < 65512
    → AreSendable rest
    → AreSendable (cons_option
    (option_map (λ (s : Spot). record { switch = s.0; port = s.1; bytes = rewritten o.rewrite bytes }) found) rest)
one_sendable bytes o None rest short all = all
one_sendable bytes o (Some s) rest short all =
    (subst (λ (k : ℕ). k < 65512) (sym (length_stays o.rewrite bytes)) short, all)

leaving_sendable : (p : PolicyOf) (bytes : List ℕ) (outs : List PortOut) → length bytes < 65512
    → AreSendable (filter_map (leaving p bytes) outs)
leaving_sendable p bytes [] short = tt
leaving_sendable p bytes (o ∷ outs) short =
    one_sendable bytes o (outside_of (plan p) o.v o.port) _ short (leaving_sendable p bytes outs short)

packet_sends : (p : PolicyOf) (n : ℕ) (view : PortView) (m : PacketOut) (d : Draft) → CanWrite (bodies.PacketOut m)
    → AreSendable d.sent → AreSendable (packet_goes p n view m d).sent
packet_sends p n view m d w all = by (length m.actions == 0) refl
  where
    by : (b : Bool) → (length m.actions == 0) ≡ b → AreSendable (packet_goes p n view m d).sent
    by true e = subst (λ (x : Draft). AreSendable x.sent) (sym (packet_dropped p n view m d e)) all
    by false e =
        both_sendable d.sent
        (filter_map (leaving p m.bytes) (sent_in (setting_of p d.state) n view m (header_in m.in_port m.bytes)).outs)
        all (leaving_sendable p m.bytes _ (data_short m w e))

-- other messages ----------------------------------------------------------------------------------------------------

asked_sends : (p : PolicyOf) (n v : ℕ) (x : MemberOf) (xid : ℕ) (request : StatsRequest) (d : Draft)
    → AreSendable d.sent → AreSendable (asked p n v x xid request d).sent
asked_sends p n v x xid statistics_of.Desc d all = all
asked_sends p n v x xid statistics_of.Table d all = all
asked_sends p n v x xid (statistics_of.Flow m table_id out_port) d all = all
asked_sends p n v x xid (statistics_of.Aggregate m table_id out_port) d all = all
asked_sends p n v x xid (statistics_of.Port port_no) d all = all

barrier_sends : (n v xid : ℕ) (parts : List Part) (d : Draft) → AreSendable d.sent
    → AreSendable (barrier_for n v xid parts d).sent
barrier_sends n v xid [] d all = all
barrier_sends n v xid (part ∷ parts) d all = all

nothing_sends : (p : PolicyOf) (n : ℕ) (m : MemberItem) (x : MemberOf) (xid : ℕ) (body : Body) (d : Draft)
    → is_served body ≡ false → AreSendable d.sent → AreSendable (serve p n m x xid body d).sent
nothing_sends p n m x xid (bodies.EchoRequest bytes) d e all = absurd (cc)
nothing_sends p n m x xid bodies.FeaturesRequest d e all = absurd (cc)
nothing_sends p n m x xid bodies.GetConfigRequest d e all = absurd (cc)
nothing_sends p n m x xid (bodies.SetConfig flags miss_send_len) d e all = absurd (cc)
nothing_sends p n m x xid (bodies.PacketOut sent) d e all = absurd (cc)
nothing_sends p n m x xid (bodies.FlowMod change) d e all = absurd (cc)
nothing_sends p n m x xid (bodies.StatsRequest bytes) d e all = absurd (cc)
nothing_sends p n m x xid bodies.BarrierRequest d e all = absurd (cc)
nothing_sends p n m x xid body d e all = all

as_body : (p : PolicyOf) (n : ℕ) (m : MemberItem) (x : MemberOf) (xid : ℕ) (body other : Body) (d : Draft)
    → body ≡ other → AreSendable (serve p n m x xid other d).sent → AreSendable (serve p n m x xid body d).sent
as_body p n m x xid body other d e all =
    subst (λ (b : Body). AreSendable (serve p n m x xid b d).sent) (sym e) all

-- whatever a member asks for, packets that leave are short
pub serve_sends : (p : PolicyOf) (n : ℕ) (m : MemberItem) (x : MemberOf) (h : HeldState) (now xid : ℕ) (body : Body)
    (request : Request) (d : Draft) → Asks h now body request → AreSendable d.sent
    → AreSendable (serve p n m x xid body d).sent
serve_sends p n m x h now xid body (requests.Echo bytes) d a all =
    as_body p n m x xid body (bodies.EchoRequest bytes) d a.is all
serve_sends p n m x h now xid body requests.Features d a all =
    as_body p n m x xid body bodies.FeaturesRequest d a all
serve_sends p n m x h now xid body requests.GetConfig d a all =
    as_body p n m x xid body bodies.GetConfigRequest d a all
serve_sends p n m x h now xid body (requests.SetConfig config) d a all =
    as_body p n m x xid body (bodies.SetConfig config.flags config.miss_send_len) d a all
serve_sends p n m x h now xid body (requests.PacketOut sent) d a all =
    as_body p n m x xid body (bodies.PacketOut sent) d a.is (packet_sends p n m.grant.ports sent d a.read all)
serve_sends p n m x h now xid body (requests.FlowMod change planned) d a all =
    as_body p n m x xid body (bodies.FlowMod change) d a.is all
serve_sends p n m x h now xid body (requests.Statistics request) d a all =
    as_body p n m x xid body (bodies.StatsRequest a.bytes) d a.is
    (subst (λ (r : Result StatsRequest StatsFault). AreSendable (statistics p n (virtual_of m) x xid r d).sent)
    (sym a.read) (asked_sends p n (virtual_of m) x xid request d all))
serve_sends p n m x h now xid body requests.Barrier d a all =
    as_body p n m x xid body bodies.BarrierRequest d a
    (barrier_sends n (virtual_of m) xid (unanswered_of p d.state (virtual_of m)) d all)
serve_sends p n m x h now xid body requests.Nothing d a all = nothing_sends p n m x xid body d a all
