-- The definitions, computed on examples.
use Rattle.std.specs.Prelude.{◌≡◌, refl, ℕ, true, false, Some, None, List, [], ◌∷◌, ◌++◌, replicate, length}
use Rattle.install_plan.specs.declared.written.Batch.{Batch}
use Rattle.install_plan.specs.declared.written.Written.{Written}
use Rattle.of10_actions.specs.declared.action.Action.{Action}
use Rattle.of10_actions.specs.declared.action.Action.TheVariants.{Output}
use Rattle.of10_match.specs.Fields.{MatchOf}
use Rattle.of10_match.specs.Matching.{everything}
use Rattle.of10_match.specs.Wildcards.{match_bytes}
use Rattle.of10_msgs.specs.Spelling.{body_bytes, flow_mod_fields, packet_out_fields, spelling}
use Rattle.of10_msgs.specs.declared.message.Body.{Body}
use Rattle.of10_msgs.specs.declared.message.Body.TheVariants.{BarrierRequest, FlowMod}
use Rattle.of10_msgs.specs.declared.message.PhyPort.{PhyPort}
use Rattle.switch_state.specs.Known.{KnownOf, is_dark, is_outstanding, nothing_known}
use Rattle.switch_state.specs.Messages.{batch_messages, echo_reply, flow_request, packet_out, switch_messages}
use Rattle.switch_state.specs.Reports.{answered_number, barrier_reply, flow_removed, port_status, removal}
use Rattle.switch_state.specs.Sending.{Sending, send_all, sending_of}
use Rattle.switch_state.specs.declared.removal.Removal.TheVariants.{Ignored, Taken, Strange}

-- what is known, and no messages yet
abbrev pub from : KnownOf → Sending
from x = sending_of x []

-- an entry under its cookie
abbrev pub written : MatchOf → ℕ → List Action → ℕ → Written
written m priority actions cookie = record {
  entry = record { m = m; priority = priority; actions = actions; ancestry = [] };
  cookie = cookie;
}

-- ---- a switch comes up

-- its one entry: what no entry of the member holds goes to the controller
abbrev pub one_miss : Batch
one_miss = record { deletes = []; adds = written everything 2 (Output 0xfffd 0xffff ∷ []) 1 ∷ [] }

-- the match of every packet
abbrev pub all_bytes : List ℕ
all_bytes = 0x00 ∷ 0x38 ∷ 0x20 ∷ 0xff ∷ replicate 36 0

abbrev pub set_config : List ℕ
set_config = 0x01 ∷ 0x09 ∷ 0x00 ∷ 0x0c ∷ 0x00 ∷ 0x00 ∷ 0x00 ∷ 0x01 ∷ 0x00 ∷ 0x00 ∷ 0xff ∷ 0xff ∷ []

abbrev pub delete_everything : List ℕ
delete_everything =
    (0x01 ∷ 0x0e ∷ 0x00 ∷ 0x48 ∷ 0x00 ∷ 0x00 ∷ 0x00 ∷ 0x02 ∷ []) ++ (all_bytes ++ (replicate 8 0
    ++ 0x00 ∷ 0x03 ∷ 0x00 ∷ 0x00 ∷ 0x00 ∷ 0x00 ∷ 0x00 ∷ 0x00
    ∷ 0xff ∷ 0xff ∷ 0xff ∷ 0xff ∷ 0xff ∷ 0xff ∷ 0x00 ∷ 0x00 ∷ []))

abbrev pub barrier_of : ℕ → List ℕ
barrier_of xid = 0x01 ∷ 0x12 ∷ 0x00 ∷ 0x08 ∷ 0x00 ∷ 0x00 ∷ 0x00 ∷ xid ∷ []

abbrev pub add_miss : List ℕ
add_miss =
    (0x01 ∷ 0x0e ∷ 0x00 ∷ 0x50 ∷ 0x00 ∷ 0x00 ∷ 0x00 ∷ 0x04 ∷ []) ++ (all_bytes ++ (replicate 7 0
    ++ 0x01 ∷ 0x00 ∷ 0x00 ∷ 0x00 ∷ 0x00 ∷ 0x00 ∷ 0x00 ∷ 0x00 ∷ 0x02
    ∷ 0xff ∷ 0xff ∷ 0xff ∷ 0xff ∷ 0xff ∷ 0xff ∷ 0x00 ∷ 0x01
    ∷ 0x00 ∷ 0x00 ∷ 0x00 ∷ 0x08 ∷ 0xff ∷ 0xfd ∷ 0xff ∷ 0xff ∷ []))

-- It is configured and emptied, and gets its entry: five messages. Two barriers wait for their answers.
abbrev pub ASwitchIsInstalled : Type 0
ASwitchIsInstalled =
    send_all (switch_messages true one_miss) (from (nothing_known 1)) ≡ record {
      known = record (nothing_known 1) {
        xid = 5;
        begun = 2;
        barriers = record { number = 1; xid = 3 } ∷ record { number = 2; xid = 5 } ∷ [];
      };
      messages = set_config ∷ delete_everything ∷ barrier_of 3 ∷ add_miss ∷ barrier_of 5 ∷ [];
    }

-- ---- a batch

-- packets of IPv4 to a net
abbrev pub to_net : ℕ → MatchOf
to_net len = record everything { dl_type = Some 0x0800; nw_dst = Some (record { addr = 0x0a000000; len = len }) }

-- two entries go and one comes
abbrev pub net_goes : Batch
net_goes = record {
  deletes = written (to_net 24) 9 (Output 2 0 ∷ []) 3 ∷ written (to_net 32) 11 (Output 3 0 ∷ []) 2 ∷ [];
  adds = written (to_net 32) 11 (Output 2 0 ∷ []) 8 ∷ [];
}

-- a message, and a FLOW_MOD with its command, flags and actions
abbrev pub message : ℕ → Body → List ℕ
message xid body = spelling (record { xid = xid; body = body })

abbrev pub as_written : ℕ → MatchOf → ℕ → ℕ → ℕ → List Action → Body
as_written command m cookie priority flags actions = FlowMod (record {
  m = match_bytes m;
  cookie = cookie;
  command = command;
  idle_timeout = 0;
  hard_timeout = 0;
  priority = priority;
  buffer_id = 0xffffffff;
  out_port = 0xffff;
  flags = flags;
  actions = actions;
})

-- Two deletes and a barrier, an add and a barrier. The cookies of what goes are outstanding.
abbrev pub ABatchIsSent : Type 0
ABatchIsSent =
    send_all (batch_messages net_goes) (from (record (nothing_known 1) { xid = 17; begun = 4; answered = true }))
    ≡ record {
      known = record (nothing_known 1) {
        xid = 22;
        begun = 6;
        answered = true;
        deleted = 2 ∷ 3 ∷ [];
        barriers = record { number = 5; xid = 20 } ∷ record { number = 6; xid = 22 } ∷ [];
      };
      messages = message 18 (as_written 4 (to_net 24) 3 9 0 []) ∷ message 19 (as_written 4 (to_net 32) 2 11 0 [])
          ∷ message 20 BarrierRequest
          ∷ message 21 (as_written 0 (to_net 32) 8 11 1 (Output 2 0 ∷ [])) ∷ message 22 BarrierRequest ∷ [];
    }

-- without deletes there is one phase, and without anything no message
abbrev pub EmptyPhasesAreLeftOut : Type 0
EmptyPhasesAreLeftOut =
    (length (batch_messages one_miss) ≡ 2) × (batch_messages (record { deletes = []; adds = [] }) ≡ [])

-- ---- xids

-- after the greatest xid comes 1
abbrev pub XidsBeginAgain : Type 0
XidsBeginAgain =
    send_all (BarrierRequest ∷ flow_request ∷ []) (from (record (nothing_known 1) { xid = 4294967294 })) ≡ record {
      known = record (nothing_known 1) { xid = 1; begun = 1; barriers = record { number = 1; xid = 4294967295 } ∷ [] };
      messages = message 4294967295 BarrierRequest ∷ message 1 flow_request ∷ [];
    }

-- ---- other messages

-- the poll of all entries, with xid 9
abbrev pub poll_bytes : List ℕ
poll_bytes =
    (0x01 ∷ 0x10 ∷ 0x00 ∷ 0x38 ∷ 0x00 ∷ 0x00 ∷ 0x00 ∷ 0x09 ∷ 0x00 ∷ 0x01 ∷ 0x00 ∷ 0x00 ∷ [])
    ++ (all_bytes ++ 0xff ∷ 0x00 ∷ 0xff ∷ 0xff ∷ [])

-- a packet of 42 bytes that is to leave by port 1
abbrev pub out_head : List ℕ
out_head =
    0x01 ∷ 0x0d ∷ 0x00 ∷ 0x42 ∷ 0x00 ∷ 0x00 ∷ 0x00 ∷ 0x06 ∷ 0xff ∷ 0xff ∷ 0xff ∷ 0xff ∷ 0xff ∷ 0xff ∷ 0x00 ∷ 0x08
    ∷ 0x00 ∷ 0x00 ∷ 0x00 ∷ 0x08 ∷ 0x00 ∷ 0x01 ∷ 0x00 ∷ 0x00 ∷ []

-- a poll, a packet, and an echo of two bytes
abbrev pub MessagesAreSpelled : Type 0
MessagesAreSpelled =
    (message 9 flow_request ≡ poll_bytes)
    × (message 6 (packet_out 1 (replicate 42 0xaa)) ≡ out_head ++ replicate 42 0xaa)
    × (echo_reply 7 (0x68 ∷ 0x69 ∷ []) ≡ 0x01 ∷ 0x03 ∷ 0x00 ∷ 0x0a ∷ 0x00 ∷ 0x00 ∷ 0x00 ∷ 0x07 ∷ 0x68 ∷ 0x69 ∷ [])

-- ---- reports

-- a round whose first cookie is 5, in which two barriers wait and cookie 6 is outstanding
abbrev pub in_round : KnownOf
in_round = record (nothing_known 5) {
  xid = 9;
  begun = 2;
  barriers = record { number = 1; xid = 3 } ∷ record { number = 2; xid = 9 } ∷ [];
  deleted = 6 ∷ [];
}

-- Before an answer all removals are ignored. Then one from before the round is; that of cookie 6 is taken, once; any
-- other is strange.
abbrev pub RemovalsAreJudged : Type 0
RemovalsAreJudged =
    (removal in_round 6 ≡ Ignored) × (removal in_round 7 ≡ Ignored)
    × (removal (barrier_reply 3 in_round) 4 ≡ Ignored) × (removal (barrier_reply 3 in_round) 6 ≡ Taken)
    × (removal (flow_removed 6 (barrier_reply 3 in_round)) 6 ≡ Strange)
    × (removal (barrier_reply 3 in_round) 5 ≡ Strange)
    × (is_outstanding (flow_removed 6 in_round) 6 ≡ true)

-- a barrier is answered by its xid, also out of turn; an unknown xid changes nothing
abbrev pub BarriersAreAnswered : Type 0
BarriersAreAnswered =
    (answered_number 9 in_round ≡ Some 2) × (answered_number 4 in_round ≡ None) × (barrier_reply 4 in_round ≡ in_round)
    × ((barrier_reply 9 in_round).barriers ≡ record { number = 1; xid = 3 } ∷ [])
    × (answered_number 9 (barrier_reply 9 in_round) ≡ None)

abbrev pub port_of : ℕ → ℕ → PhyPort
port_of n state = record {
  port_no = n;
  hw_addr = 0;
  name = replicate 16 0;
  config = 0;
  state = state;
  curr = 0;
  advertised = 0;
  supported = 0;
  peer = 0;
}

-- a port is down after its deletion or with LINK_DOWN, and up again after a status without
abbrev pub PortsAreSeen : Type 0
PortsAreSeen =
    (is_dark (port_status 1 (port_of 3 0) in_round) 3 ≡ true)
    × (is_dark (port_status 2 (port_of 3 1) in_round) 3 ≡ true)
    × (is_dark (port_status 2 (port_of 3 0) (port_status 2 (port_of 3 1) in_round)) 3 ≡ false)
    × (is_dark (port_status 2 (port_of 3 1) in_round) 4 ≡ false)

-- ---- the examples are as computed

pub switch_is_installed : ASwitchIsInstalled
unfolding body_bytes flow_mod_fields
switch_is_installed = refl

pub messages_are_spelled : MessagesAreSpelled
unfolding body_bytes packet_out_fields
messages_are_spelled = (refl, refl, refl)
