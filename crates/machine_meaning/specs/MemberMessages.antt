-- A message of a member.
use Rattle.std.specs.Prelude.{ℕ, List, [], ◌∷◌, ◌++◌, Option, Some, None, Result, Ok, Err, slice_get}
use Rattle.grants.specs.declared.denial.Denial.{Denial}
use Rattle.member_replies.specs.Refusals.{deny_line, refusal}
use Rattle.member_replies.specs.Switches.{config, echo, features}
use Rattle.of10_frames.specs.Wire.{xid_field}
use Rattle.of10_msgs.specs.Senders.{reading_of_controller}
use Rattle.of10_msgs.specs.declared.fault.FormFault.{FormFault}
use Rattle.of10_msgs.specs.declared.message.Body.{Body}
use Rattle.of10_msgs.specs.declared.message.Body.TheVariants as bodies
use Rattle.of10_msgs.specs.declared.message.Message.{Message}
use Rattle.of10_stats.specs.Reading.{request_in}
use Rattle.policies.specs.Policies.{PolicyOf}
use Rattle.policies.specs.declared.policy.MemberItem.{MemberItem}
use Rattle.machine_meaning.specs.Barriers.{barrier_asked}
use Rattle.machine_meaning.specs.Denials.{denial}
use Rattle.machine_meaning.specs.Drafts.{Draft, answer, answering}
use Rattle.machine_meaning.specs.FlowMods.{flow_mod}
use Rattle.machine_meaning.specs.Lists.{changed_at}
use Rattle.machine_meaning.specs.Names.{all_ports, virtual_dpid, virtual_of}
use Rattle.machine_meaning.specs.Packets.{packet_goes}
use Rattle.machine_meaning.specs.Ports.{dark_ports}
use Rattle.machine_meaning.specs.States.{MemberOf}
use Rattle.machine_meaning.specs.Statistics.{statistics}
use Rattle.machine_meaning.specs.declared.state.Config.{Config}

-- a message is refused: its sender gets an ERROR, and the audit a line
abbrev pub refuse : ℕ → MemberItem → List ℕ → Denial → Draft → Draft
refuse n m frame denied d = record (answering n (refusal denied frame ∷ []) d) {
  denials = d.denials ++ deny_line m.controller m.vsw (xid_field frame) denied ∷ [];
}

-- the configuration of a member's round
abbrev pub with_config : Config → MemberOf → MemberOf
with_config c x = record x { config = c }

abbrev pub configured : ℕ → Config → Draft → Draft
configured n c d = record d { state = record d.state { members = changed_at n (with_config c) d.state.members } }

-- a message that isn't refused, by its type
abbrev pub serve : PolicyOf → ℕ → MemberItem → MemberOf → ℕ → Body → Draft → Draft
serve p n m x xid (bodies.EchoRequest bytes) d = answer n xid (echo bytes) d
serve p n m x xid bodies.FeaturesRequest d =
    answer n xid (features (virtual_dpid p (virtual_of m)) m.grant (virtual_of m) (dark_ports p d.state (virtual_of m)))
    d
serve p n m x xid bodies.GetConfigRequest d = answer n xid (config x.config.flags x.config.miss_send_len) d
serve p n m x xid (bodies.SetConfig flags miss_send_len) d =
    configured n (record { flags = flags; miss_send_len = miss_send_len }) d
serve p n m x xid (bodies.PacketOut sent) d = packet_goes p n m.grant.ports sent d
serve p n m x xid (bodies.FlowMod change) d = flow_mod n x change d
serve p n m x xid (bodies.StatsRequest body) d = statistics p n (virtual_of m) x xid (request_in body) d
serve p n m x xid bodies.BarrierRequest d = barrier_asked p n (virtual_of m) xid d
serve p n m x xid body d = d

-- a frame that can't be read is refused before
abbrev pub serve_read : PolicyOf → ℕ → MemberItem → MemberOf → Result Message FormFault → Draft → Draft
serve_read p n m x (Ok message) d = serve p n m x message.xid message.body d
serve_read p n m x (Err fault) d = d

-- where a rule refuses the frame nothing else is done
abbrev pub judged : PolicyOf → ℕ → MemberItem → MemberOf → List ℕ → Option Denial → Draft → Draft
judged p n m x frame (Some denied) d = refuse n m frame denied d
judged p n m x frame None d = serve_read p n m x (reading_of_controller frame) d

-- the first rule that refuses a frame of a member
abbrev pub denial_of : PolicyOf → MemberItem → MemberOf → List ℕ → Option Denial
denial_of p m x frame = denial m.grant (all_ports p (virtual_of m)) x.kept frame

-- a member that is there sends a frame
abbrev pub hears_from : PolicyOf → ℕ → Option MemberItem → Option MemberOf → List ℕ → Draft → Draft
hears_from p n (Some m) (Some x) frame d = judged p n m x frame (denial_of p m x frame) d
hears_from p n m x frame d = d

abbrev pub hears_member : PolicyOf → ℕ → List ℕ → Draft → Draft
hears_member p n frame d = hears_from p n (slice_get p.members n) (slice_get d.state.members n) frame d
