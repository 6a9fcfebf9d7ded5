-- What events are made of, in examples.
use Rattle.std.specs.Prelude.{ℕ, List, [], Some, option_map, unwrap_or, false, true}
use Rattle.cv_io.specs.declared.leaf.Who.{Who}
use Rattle.cv_io.specs.declared.leaf.Who.TheVariants.{Member, Switch}
use Rattle.of10_actions.specs.declared.action.Action.{Action}
use Rattle.of10_match.specs.Fields.{MatchOf}
use Rattle.of10_match.specs.Matching.{everything}
use Rattle.of10_match.specs.Wildcards.{match_bytes}
use Rattle.of10_msgs.specs.declared.message.Body.{Body}
use Rattle.of10_msgs.specs.declared.message.Body.TheVariants.{FlowMod}
use Rattle.outbox.specs.Outboxes.{OutboxOf}
use Rattle.machine_meaning.specs.Drafts.{message}
use Rattle.machine_meaning.specs.Sessions.{outbox_of}
use Rattle.machine_meaning.specs.States.{State}
use Rattle.events.specs.declared.event.Event.{Event}
use Rattle.events.specs.declared.event.Event.TheVariants.{Msg, Up}

-- what waits for a session
abbrev pub waiting_for : Who → State → List (List ℕ)
waiting_for who s = unwrap_or (option_map (λ (o : OutboxOf). o.waiting) (outbox_of s who)) []

-- a switch that matches ARP addresses comes up, and a member
abbrev pub switch_up : ℕ → Event
switch_up n = Up (Switch n) true

abbrev pub member_up : ℕ → Event
member_up n = Up (Member n) false

-- a member or a switch sends a message in its first round
abbrev pub of_member : ℕ → ℕ → Body → Event
of_member n xid body = Msg (record { who = Member n; round = 1 }) (message xid body)

abbrev pub of_switch : ℕ → ℕ → Body → Event
of_switch n xid body = Msg (record { who = Switch n; round = 1 }) (message xid body)

-- IPv4 packets to a net
abbrev pub to_net : ℕ → ℕ → MatchOf
to_net addr len = record everything { dl_type = Some 0x0800; nw_dst = Some (record { addr = addr; len = len }) }

-- and from one
abbrev pub from_net : ℕ → ℕ → MatchOf
from_net addr len = record everything { dl_type = Some 0x0800; nw_src = Some (record { addr = addr; len = len }) }

-- a FLOW_MOD with this command
abbrev pub flow_mod : ℕ → ℕ → MatchOf → List Action → Body
flow_mod command priority m actions = FlowMod (record {
  m = match_bytes m;
  cookie = 0;
  command = command;
  idle_timeout = 0;
  hard_timeout = 0;
  priority = priority;
  buffer_id = 0xffffffff;
  out_port = 0xffff;
  flags = 0;
  actions = actions;
})

-- an entry as it is written to a switch
abbrev pub added : ℕ → ℕ → MatchOf → List Action → Body
added cookie priority m actions = FlowMod (record {
  m = match_bytes m;
  cookie = cookie;
  command = 0;
  idle_timeout = 0;
  hard_timeout = 0;
  priority = priority;
  buffer_id = 0xffffffff;
  out_port = 0xffff;
  flags = 1;
  actions = actions;
})

-- and as it is deleted
abbrev pub deleted : ℕ → ℕ → MatchOf → Body
deleted cookie priority m = FlowMod (record {
  m = match_bytes m;
  cookie = cookie;
  command = 4;
  idle_timeout = 0;
  hard_timeout = 0;
  priority = priority;
  buffer_id = 0xffffffff;
  out_port = 0xffff;
  flags = 0;
  actions = [];
})
