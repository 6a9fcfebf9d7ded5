-- Packets that switches and members send.
use Rattle.std.specs.Prelude.{◌≡◌, refl, ℕ, List, [], ◌∷◌, ◌++◌, drop}
use Rattle.cv_io.specs.declared.leaf.Who.TheVariants.{Member, Switch}
use Rattle.of10_actions.specs.Reading.{action_at, actions_at}
use Rattle.of10_actions.specs.declared.action.Action.TheVariants.{Output, SetNwDst}
use Rattle.of10_match.specs.Matching.{everything}
use Rattle.of10_msgs.specs.Reading.{flow_mod_of, packet_out_at, packet_out_of}
use Rattle.of10_msgs.specs.Spelling.{body_bytes, flow_mod_fields, packet_out_fields}
use Rattle.of10_msgs.specs.declared.message.Body.{Body}
use Rattle.of10_msgs.specs.declared.message.Body.TheVariants.{PacketIn, PacketOut}
use Rattle.pkt_bytes.specs.Checksums.{change, mended, ones_sum}
use Rattle.pkt_bytes.specs.Ipv4.{ipv4_at, ports_of}
use Rattle.pkt_bytes.specs.Link.{link_of, payload_at}
use Rattle.pkt_bytes.specs.Numbers.{put}
use Rattle.pkt_bytes.specs.Rewritten.{address_change, checksum_place, header_checksum, new_checksum, nw_change}
use Rattle.pkt_bytes.specs.Rewritten.{rewritten, tos_change, tp_change, transport_checksum, with_dl, with_ip, with_nw}
use Rattle.pkt_bytes.specs.Rewritten.{with_tp}
use Rattle.policy_setting.specs.OfPolicies.{seen, sees_its}
use Rattle.machine_meaning.specs.Drafts.{message}
use Rattle.machine_meaning.specs.Runs.{run_of}
use Rattle.machine_meaning.specs.States.{State}
use Rattle.machine_meaning.specs.WorkedPolicies.{balanced, built_in}
use Rattle.machine_meaning.specs.WorkedSteps.{flow_mod, member_up, of_member, of_switch, switch_up, to_net, waiting_for}
use Rattle.events.specs.declared.event.Event.{Event}

-- a UDP packet from 10.0.0.1 to 1.2.3.4
abbrev pub packet : List ℕ
packet =
    0x00 ∷ 0x00 ∷ 0x00 ∷ 0x00 ∷ 0x00 ∷ 0x02 ∷ 0x00 ∷ 0x00 ∷ 0x00 ∷ 0x00 ∷ 0x00 ∷ 0x01 ∷ 0x08 ∷ 0x00 ∷
    0x45 ∷ 0x00 ∷ 0x00 ∷ 0x1c ∷ 0x00 ∷ 0x00 ∷ 0x00 ∷ 0x00 ∷ 0x40 ∷ 0x11 ∷ 0x6c ∷ 0xcb ∷ 0x0a ∷ 0x00 ∷
    0x00 ∷ 0x01 ∷ 0x01 ∷ 0x02 ∷ 0x03 ∷ 0x04 ∷ 0x13 ∷ 0x88 ∷ 0x00 ∷ 0x35 ∷ 0x00 ∷ 0x08 ∷ 0xde ∷ 0x1a ∷ []

-- the same to 2.0.0.1, with both checksums mended
abbrev pub redirected : List ℕ
redirected =
    0x00 ∷ 0x00 ∷ 0x00 ∷ 0x00 ∷ 0x00 ∷ 0x02 ∷ 0x00 ∷ 0x00 ∷ 0x00 ∷ 0x00 ∷ 0x00 ∷ 0x01 ∷ 0x08 ∷ 0x00 ∷
    0x45 ∷ 0x00 ∷ 0x00 ∷ 0x1c ∷ 0x00 ∷ 0x00 ∷ 0x00 ∷ 0x00 ∷ 0x40 ∷ 0x11 ∷ 0x6e ∷ 0xd0 ∷ 0x0a ∷ 0x00 ∷
    0x00 ∷ 0x01 ∷ 0x02 ∷ 0x00 ∷ 0x00 ∷ 0x01 ∷ 0x13 ∷ 0x88 ∷ 0x00 ∷ 0x35 ∷ 0x00 ∷ 0x08 ∷ 0xe0 ∷ 0x1f ∷ []

-- the monitor is sent all packets; the balancer sends those to 1.2.3.4 on to 2.0.0.1, where the router has no entry
abbrev pub balancing : List Event
balancing =
    switch_up 0 ∷ member_up 0 ∷ member_up 1 ∷ member_up 2
    ∷ of_member 0 1 (flow_mod 0 100 everything (Output 0xfffd 0 ∷ []))
    ∷ of_member 1 2 (flow_mod 0 100 (to_net 0x01020304 32) (SetNwDst 0x02000001 ∷ Output 0xfffa 0 ∷ [])) ∷ []

-- the packet comes by port 1
abbrev pub come : State
come = run_of balanced (balancing ++ of_switch 0 0 (PacketIn 0xffffffff 42 1 0 packet) ∷ [])

-- the monitor is told by its action, and the router of a miss, of the packet as it came to it
abbrev pub TwoAreTold : Type 0
TwoAreTold =
    (waiting_for (Member 0) come ≡ message 0 (PacketIn 0xffffffff 42 1 1 packet) ∷ [])
    × (waiting_for (Member 1) come ≡ [])
    × (waiting_for (Member 2) come ≡ message 0 (PacketIn 0xffffffff 42 1 0 redirected) ∷ [])

pub two_told : TwoAreTold
unfolding
    body_bytes flow_mod_fields flow_mod_of action_at actions_at seen sees_its change mended ones_sum ipv4_at ports_of
    link_of payload_at put
    address_change checksum_place header_checksum new_checksum nw_change rewritten tos_change tp_change
    transport_checksum with_dl with_ip with_nw with_tp
two_told = (refl, refl, refl)

-- a packet of a member that came by no port, to all ports
abbrev pub sending : Body
sending =
    PacketOut (record { buffer_id = 0xffffffff; in_port = 0xffff; actions = Output 0xfffb 0 ∷ []; bytes = packet })

-- a packet that leaves by a port
abbrev pub leaving : ℕ → Body
leaving port =
    PacketOut (record { buffer_id = 0xffffffff; in_port = 0xffff; actions = Output port 0 ∷ []; bytes = packet })

-- it leaves by each port of the virtual switch
abbrev pub APacketLeaves : Type 0
APacketLeaves =
    drop 5 (waiting_for (Switch 0) (run_of built_in (switch_up 0 ∷ member_up 0 ∷ of_member 0 4 sending ∷ [])))
    ≡ message 6 (leaving 1) ∷ message 7 (leaving 2) ∷ message 8 (leaving 3) ∷ message 9 (leaving 4) ∷ []

pub packet_leaves : APacketLeaves
unfolding
    body_bytes flow_mod_fields packet_out_at packet_out_fields packet_out_of action_at actions_at seen sees_its change
    mended ones_sum ipv4_at ports_of
    link_of payload_at put address_change checksum_place header_checksum new_checksum nw_change rewritten tos_change
    tp_change transport_checksum with_dl
    with_ip with_nw with_tp
packet_leaves = refl
