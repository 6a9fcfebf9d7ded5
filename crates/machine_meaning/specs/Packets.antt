-- Packets: what members are told of them, and where they leave.
use Rattle.std.specs.Prelude.{ℕ, List, ◌++◌, Option, Some, None, filter_map, length, map, option_map, slice_get}
use Rattle.agreement.specs.declared.state.Setting.{Setting}
use Rattle.member_replies.specs.Packets.{packet_in}
use Rattle.of10_actions.specs.Effects.{effects_of}
use Rattle.of10_actions.specs.declared.effects.Effects.{Effects}
use Rattle.of10_actions.specs.declared.effects.PortView.{PortView}
use Rattle.of10_match.specs.Fields.{HeaderOf}
use Rattle.of10_msgs.specs.declared.message.PacketOut.{PacketOut}
use Rattle.packet_map.specs.Sending.{given, ingress_of, taken_up}
use Rattle.pkt_bytes.specs.Headers.{header_in}
use Rattle.pkt_bytes.specs.Rewritten.{rewritten}
use Rattle.policies.specs.Policies.{PolicyOf, plan}
use Rattle.policy_meaning.specs.Networks.{ground_of, switch_links}
use Rattle.policy_meaning.specs.Walk.{both_walked, walk, what_follows}
use Rattle.policy_meaning.specs.declared.walking.PortOut.{PortOut}
use Rattle.policy_meaning.specs.declared.walking.Told.{Told}
use Rattle.policy_meaning.specs.declared.walking.Walked.{Walked}
use Rattle.virtual_topology.specs.Rows.{Spot}
use Rattle.virtual_topology.specs.Wires.{entering_of, outside_of}
use Rattle.machine_meaning.specs.Drafts.{Draft, letter, message}
use Rattle.machine_meaning.specs.Settings.{setting_of}
use Rattle.machine_meaning.specs.declared.said.Letter.{Letter}
use Rattle.machine_meaning.specs.declared.said.Sent.{Sent}

-- the walk of a packet of a header that comes to a virtual switch
abbrev pub walk_in : Setting → ℕ → HeaderOf → Walked
walk_in s v h = walk (ground_of s.network) s.hops v h

-- what the actions of a PACKET_OUT give for a header, and what the policy does where it takes the packet up
abbrev pub given_in : Setting → PortView → PacketOut → Effects → HeaderOf → Walked
given_in s view m effects h =
    both_walked (given view.v (ingress_of m.in_port) m.in_port effects.outs)
    (what_follows (taken_up (switch_links (slice_get s.network.switches view.v)) view.v effects.tail m) (walk_in s) h)

-- what a PACKET_OUT of the member of this number, which sees these ports, gives for data of a header
abbrev pub sent_in : Setting → ℕ → PortView → PacketOut → HeaderOf → Walked
sent_in s n view m h = given_in s view m (effects_of view n m.actions) h

-- the PACKET_IN of a telling, about a packet of so many bytes of which these are there
abbrev pub telling : ℕ → List ℕ → Told → Letter
telling total_len bytes t =
    letter t.member (message 0 (packet_in total_len t.in_port t.reason (rewritten t.rewrite bytes)))

-- a packet that leaves, at the physical port that its port is
abbrev pub leaving : PolicyOf → List ℕ → PortOut → Option Sent
leaving p bytes o =
    option_map (λ (s : Spot). record { switch = s.0; port = s.1; bytes = rewritten o.rewrite bytes })
    (outside_of (plan p) o.v o.port)

-- members are told of a packet
abbrev pub telling_all : ℕ → List ℕ → List Told → Draft → Draft
telling_all total_len bytes told d = record d { told = d.told ++ map (telling total_len bytes) told }

-- packets leave at switches
abbrev pub leaving_all : PolicyOf → List ℕ → List PortOut → Draft → Draft
leaving_all p bytes outs d = record d { sent = d.sent ++ filter_map (leaving p bytes) outs }

-- a packet that a switch sent came by an outside port: its walk says who is told; at another port it is ignored
abbrev pub comes_by : PolicyOf → ℕ → List ℕ → Option Spot → Draft → Draft
comes_by p total_len bytes None d = d
comes_by p total_len bytes (Some (v, port)) d =
    telling_all total_len bytes (walk_in (setting_of p d.state) v (header_in port bytes)).told d

-- a PACKET_IN of a switch
abbrev pub packet_comes : PolicyOf → ℕ → ℕ → ℕ → List ℕ → Draft → Draft
packet_comes p n total_len in_port bytes d = comes_by p total_len bytes (entering_of (plan p) n in_port) d

-- what a walk gives of data that a member sent
abbrev pub gives : PolicyOf → List ℕ → Walked → Draft → Draft
gives p bytes w d = leaving_all p bytes w.outs (telling_all (length bytes) bytes w.told d)

-- a PACKET_OUT of a member
abbrev pub packet_goes : PolicyOf → ℕ → PortView → PacketOut → Draft → Draft
packet_goes p n view m d = gives p m.bytes (sent_in (setting_of p d.state) n view m (header_in m.in_port m.bytes)) d
