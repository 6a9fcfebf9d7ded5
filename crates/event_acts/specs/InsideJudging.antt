-- What is known of a member's frame once it is judged.
use Rattle.std.specs.Prelude.{◌≡◌, ℕ, ◌+◌, ◌^◌, ◌<◌, Bool, true, false, List, None, Some, Ok, length}
use Rattle.grants.specs.declared.grant.Grant.{Grant}
use Rattle.member_state.specs.Changes.{accepted}
use Rattle.member_state.specs.Plans.{IsReady, after_planned}
use Rattle.member_state.specs.States.{HeldState}
use Rattle.member_state.specs.declared.planned.Planned.{Planned}
use Rattle.member_table.specs.Planning.{change_of}
use Rattle.of10_actions.specs.declared.effects.PortView.{PortView}
use Rattle.of10_msgs.specs.Ranges.{CanWrite}
use Rattle.of10_msgs.specs.Senders.{reading_of_controller}
use Rattle.of10_msgs.specs.declared.message.Body.{Body}
use Rattle.of10_msgs.specs.declared.message.Body.TheVariants as bodies
use Rattle.of10_msgs.specs.declared.message.FlowMod.{FlowMod}
use Rattle.of10_msgs.specs.declared.message.PacketOut.{PacketOut}
use Rattle.of10_stats.specs.Reading.{request_in}
use Rattle.of10_stats.specs.declared.request.StatsRequest.{StatsRequest}
use Rattle.machine_meaning.specs.Denials.{denial}
use Rattle.event_acts.specs.declared.judging.Judged.{Judged}
use Rattle.event_acts.specs.declared.judging.Judged.TheVariants.{Refused, Served}
use Rattle.event_acts.specs.declared.judging.Request.{Request}
use Rattle.event_acts.specs.declared.judging.Request.TheVariants as requests

-- something is done for messages of the type
abbrev pub is_served : Body → Bool
is_served (bodies.EchoRequest bytes) = true
is_served bodies.FeaturesRequest = true
is_served bodies.GetConfigRequest = true
is_served (bodies.SetConfig flags miss_send_len) = true
is_served (bodies.PacketOut m) = true
is_served (bodies.FlowMod m) = true
is_served (bodies.StatsRequest body) = true
is_served bodies.BarrierRequest = true
is_served body = false

-- an echo, which can be answered
pub record IsEcho (body : Body) (bytes : List ℕ) : Type 0 where
  pub is : body ≡ bodies.EchoRequest bytes
  pub fits : 8 + length bytes < 2 ^ 16

-- a PACKET_OUT, as it was read
pub record IsPacket (body : Body) (m : PacketOut) : Type 0 where
  pub is : body ≡ bodies.PacketOut m
  pub read : CanWrite (bodies.PacketOut m)

-- a FLOW_MOD with what it plans, which makes what the message asks for and can be made
pub record IsPlannedFor (h : HeldState) (now : ℕ) (body : Body) (m : FlowMod) (planned : Planned) : Type 0 where
  pub is : body ≡ bodies.FlowMod m
  pub ready : IsReady h planned
  pub change : planned.change ≡ change_of h.state.table m now
  pub after : after_planned h.state planned now ≡ accepted m now h.state

-- a request for statistics, which can be read
pub record IsRequest (body : Body) (request : StatsRequest) : Type 0 where
  pub bytes : List ℕ
  pub is : body ≡ bodies.StatsRequest bytes
  pub read : request_in bytes ≡ Ok request

-- a body asks for this of a member with this state at a moment
abbrev pub Asks : HeldState → ℕ → Body → Request → Type 0
Asks h now body (requests.Echo bytes) = IsEcho body bytes
Asks h now body requests.Features = body ≡ bodies.FeaturesRequest
Asks h now body requests.GetConfig = body ≡ bodies.GetConfigRequest
Asks h now body (requests.SetConfig config) = body ≡ bodies.SetConfig config.flags config.miss_send_len
Asks h now body (requests.PacketOut m) = IsPacket body m
Asks h now body (requests.FlowMod m planned) = IsPlannedFor h now body m planned
Asks h now body (requests.Statistics request) = IsRequest body request
Asks h now body requests.Barrier = body ≡ bodies.BarrierRequest
Asks h now body requests.Nothing = is_served body ≡ false

-- no rule refuses the frame, and this is what it asks for
pub record IsServed (g : Grant) (v : PortView) (h : HeldState) (now : ℕ) (frame : List ℕ) (xid : ℕ)
    (request : Request) : Type 0 where
  pub body : Body
  pub accepted : denial g v h.state frame ≡ None
  pub read : reading_of_controller frame ≡ Ok (record { xid = xid; body = body })
  pub asks : Asks h now body request

-- what comes of a frame
abbrev pub IsJudged : Grant → PortView → HeldState → ℕ → List ℕ → Judged → Type 0
IsJudged g v h now frame (Refused denied) = denial g v h.state frame ≡ Some denied
IsJudged g v h now frame (Served xid request) = IsServed g v h now frame xid request
