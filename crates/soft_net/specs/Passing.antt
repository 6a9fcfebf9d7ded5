-- What a switch makes of a packet with the entry that handles it (sections 3.3, 5.2.4 and 5.4.1 of the OpenFlow Switch
-- Specification 1.0.0).
use Rattle.std.specs.Prelude.{ℕ, ◌+◌, ◌*◌, ◌/◌, ◌%◌, ◌==◌, min, List, [], ◌∷◌, ◌++◌, length, Option, Some, None, unwrap_or}
use Rattle.std.specs.Prelude.{if◌then◌else◌}
use Rattle.of10_actions.specs.Effects.{set_by}
use Rattle.of10_actions.specs.Numbers.{ACTION, CONTROLLER, IN_PORT, NO_MATCH}
use Rattle.of10_actions.specs.Rewriting.{and_then, no_rewrite}
use Rattle.of10_actions.specs.declared.action.Action.{Action}
use Rattle.of10_actions.specs.declared.action.Action.TheVariants.{Output, SetVlanVid, SetVlanPcp, StripVlan, Enqueue}
use Rattle.of10_msgs.specs.Numbers.{NO_BUFFER}
use Rattle.of10_msgs.specs.declared.message.Body.{Body}
use Rattle.of10_msgs.specs.declared.message.Body.TheVariants as bodies
use Rattle.of10_msgs.specs.declared.message.Body.TheVariants.{PacketIn}
use Rattle.of10_msgs.specs.declared.message.Message.{Message}
use Rattle.of10_msgs.specs.declared.message.PacketOut.{PacketOut}
use Rattle.pkt_bytes.specs.Headers.{header_in}
use Rattle.pkt_bytes.specs.Rewritten.{rewritten}
use Rattle.soft_net.specs.Tables.{best_entry}
use Rattle.soft_net.specs.Tags.{tag_in, with_tag}
use Rattle.soft_net.specs.declared.dress.Dress.{Dress}
use Rattle.soft_net.specs.declared.entry.SoftEntry.{SoftEntry}
use Rattle.soft_net.specs.declared.passed.Hit.{Hit}
use Rattle.soft_net.specs.declared.passed.Hit.TheVariants as hits
use Rattle.soft_net.specs.declared.passed.Passed.{Passed}

-- nothing is set yet, and the tag is the frame's
abbrev pub bare : List ℕ → Dress
bare frame = record { rewrite = no_rewrite; tag = tag_in frame }

-- the tag after an action: a packet without one gets one where its VLAN number or priority is set
abbrev pub tag_after : Action → Option ℕ → Option ℕ
tag_after (SetVlanVid vid) tag = Some (unwrap_or tag 0 / 4096 * 4096 + vid)
tag_after (SetVlanPcp pcp) tag = Some (pcp * 8192 + unwrap_or tag 0 % 8192)
tag_after StripVlan tag = None
tag_after action tag = tag

-- what is set after an action
abbrev pub set : Action → Dress → Dress
set action d = record { rewrite = and_then d.rewrite (set_by action); tag = tag_after action d.tag }

-- the packet as it is then: its fields are rewritten, and then the tag is put
abbrev pub dressed : Dress → List ℕ → List ℕ
dressed d frame = with_tag d.tag (rewritten d.rewrite frame)

-- nothing is sent, told or counted
abbrev pub unpassed : Passed
unpassed = record { outs = []; copies = []; hits = [] }

-- one after the other
abbrev pub both_passed : Passed → Passed → Passed
both_passed a b = record { outs = a.outs ++ b.outs; copies = a.copies ++ b.copies; hits = a.hits ++ b.hits }

-- a packet goes out at a port, and is counted there
abbrev pub sent_at : ℕ → List ℕ → Passed
sent_at port bytes = record {
  outs = record { port = port; bytes = bytes } ∷ [];
  copies = [];
  hits = hits.Sent port (length bytes) ∷ [];
}

-- a PACKET_IN, whole and without a buffer
abbrev pub packet_in : ℕ → ℕ → List ℕ → Message
packet_in reason in_port bytes = record {
  xid = 0;
  body = PacketIn NO_BUFFER (min (length bytes) 65535) in_port reason bytes;
}

-- a copy goes to the controller
abbrev pub told : ℕ → ℕ → List ℕ → Passed
told reason in_port bytes = record { outs = []; copies = packet_in reason in_port bytes ∷ []; hits = [] }

-- an output of a packet: a switch sends nothing back by number, but to IN_PORT
abbrev pub output : ℕ → Dress → ℕ → List ℕ → Passed
output port d in_port frame =
    if port == CONTROLLER then told ACTION in_port (dressed d frame)
    else (if port == IN_PORT then sent_at in_port (dressed d frame)
    else (if port == in_port then unpassed else sent_at port (dressed d frame)))

-- what an action sends
abbrev pub sends : Action → Dress → ℕ → List ℕ → Passed
sends (Output port max_len) d in_port frame = output port d in_port frame
sends (Enqueue port queue) d in_port frame = output port d in_port frame
sends action d in_port frame = unpassed

-- what a list of actions makes of a packet
abbrev pub done : List Action → Dress → ℕ → List ℕ → Passed
done [] d in_port frame = unpassed
done (action ∷ actions) d in_port frame =
    both_passed (sends action d in_port frame) (done actions (set action d) in_port frame)

-- one more packet is counted
abbrev pub noted : Hit → Passed
noted hit = record { outs = []; copies = []; hits = hit ∷ [] }

-- what the entry that handles a packet makes of it; a packet that no entry holds goes to the controller
abbrev pub handled_by : Option SoftEntry → ℕ → List ℕ → Passed
handled_by None port frame = told NO_MATCH port frame
handled_by (Some e) port frame =
    both_passed (noted (hits.Entry e.serial (length frame))) (done e.flow.actions (bare frame) port frame)

-- what a switch with these entries makes of a packet that comes by a port
abbrev pub passes : List SoftEntry → ℕ → List ℕ → Passed
passes es port frame =
    both_passed (noted (hits.Received port (length frame)))
    (handled_by (best_entry es (header_in port frame)) port frame)

-- what a switch makes of a PACKET_OUT; it has no buffers
abbrev pub sends_out : PacketOut → Passed
sends_out out = if out.buffer_id == NO_BUFFER then done out.actions (bare out.bytes) out.in_port out.bytes else unpassed

-- what a switch makes of a message: a PACKET_OUT's packet is sent
abbrev pub sent_by : Body → Passed
sent_by (bodies.PacketOut out) = sends_out out
sent_by body = unpassed
