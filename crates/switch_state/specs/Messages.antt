-- The messages that a switch is sent.
use Rattle.std.specs.Prelude.{ℕ, Bool, if◌then◌else◌, List, [], ◌∷◌, ◌++◌, map}
use Rattle.install_plan.specs.declared.written.Batch.{Batch}
use Rattle.install_plan.specs.declared.written.Written.{Written}
use Rattle.of10_actions.specs.declared.action.Action.{Action}
use Rattle.of10_actions.specs.declared.action.Action.TheVariants.{Output}
use Rattle.of10_match.specs.Fields.{MatchOf}
use Rattle.of10_match.specs.Matching.{everything}
use Rattle.of10_match.specs.Wildcards.{match_bytes}
use Rattle.of10_msgs.specs.Spelling.{spelling}
use Rattle.of10_msgs.specs.declared.message.Body.{Body}
use Rattle.of10_msgs.specs.declared.message.Body.TheVariants.{BarrierRequest, EchoReply, FlowMod, PacketOut, SetConfig}
use Rattle.of10_msgs.specs.declared.message.Body.TheVariants.{StatsRequest}
use Rattle.of10_msgs.specs.declared.message.FlowMod.{FlowMod as FlowModOf}
use Rattle.of10_stats.specs.Spelling.{request_bytes}
use Rattle.of10_stats.specs.declared.request.StatsRequest.{StatsRequest as StatsRequestOf}
use Rattle.of10_stats.specs.declared.request.StatsRequest.TheVariants.{Flow, Port}

-- a FLOW_MOD as it is written to switches: no timeouts, no buffer, any port
abbrev pub flow_mod : MatchOf → ℕ → ℕ → ℕ → ℕ → List Action → FlowModOf
flow_mod m cookie command priority flags actions = record {
  m = match_bytes m;
  cookie = cookie;
  command = command;
  idle_timeout = 0;
  hard_timeout = 0;
  priority = priority;
  buffer_id = 0xffffffff;
  out_port = 0xffff;
  flags = flags;
  actions = actions;
}

-- the deletion of every entry
abbrev pub delete_all : Body
delete_all = FlowMod (flow_mod everything 0 3 0 0 [])

-- the deletion of an entry that stands
abbrev pub delete_strict : Written → Body
delete_strict w = FlowMod (flow_mod w.entry.m w.cookie 4 w.entry.priority 0 [])

-- the addition of an entry under its cookie: the switch is to tell when it goes
abbrev pub addition : Written → Body
addition w = FlowMod (flow_mod w.entry.m w.cookie 0 w.entry.priority 1 w.entry.actions)

-- messages, and the barrier that ends them, if there are any
abbrev pub phase : List Body → List Body
phase [] = []
phase (body ∷ bodies) = (body ∷ bodies) ++ BarrierRequest ∷ []

-- the messages of a batch: what goes is deleted, and then what comes is added
abbrev pub batch_messages : Batch → List Body
batch_messages b = phase (map delete_strict b.deletes) ++ phase (map addition b.adds)

-- before the first batch of its round a switch is configured and emptied
abbrev pub installation : List Body
installation = SetConfig 0 0xffff ∷ delete_all ∷ BarrierRequest ∷ []

-- the installation, where the round begins
abbrev pub beginning : Bool → List Body
beginning begins = if begins then installation else []

-- the messages of a batch, after the installation where the round begins
abbrev pub switch_messages : Bool → Batch → List Body
switch_messages begins b = beginning begins ++ batch_messages b

-- a request for statistics
abbrev pub stats_request : StatsRequestOf → Body
stats_request r = StatsRequest (request_bytes r)

-- the request for the numbers of all entries
abbrev pub flow_request : Body
flow_request = stats_request (Flow (match_bytes everything) 0xff 0xffff)

-- the request for the numbers of all ports
abbrev pub port_request : Body
port_request = stats_request (Port 0xffff)

-- a packet that is to leave by a port
abbrev pub packet_out : ℕ → List ℕ → Body
packet_out port bytes = PacketOut (record {
  buffer_id = 0xffffffff;
  in_port = 0xffff;
  actions = Output port 0 ∷ [];
  bytes = bytes;
})

-- the answer to an ECHO_REQUEST has its xid and its bytes, and takes no xid of the round
abbrev pub echo_reply : ℕ → List ℕ → List ℕ
echo_reply xid bytes = spelling (record { xid = xid; body = EchoReply bytes })
