-- What switches are sent behind their batches: polls, and packets that leave. Each takes the next xid.
use Rattle.std.specs.Prelude.{ℕ, [], ◌++◌, Option, Some, None, fold, if◌then◌else◌, length, map, nat_lt, slice_get}
use Rattle.of10_msgs.specs.declared.message.Body.{Body}
use Rattle.policies.specs.Policies.{PolicyOf}
use Rattle.switch_state.specs.Messages.{flow_request, packet_out, port_request}
use Rattle.switch_state.specs.Sending.{Sending, send}
use Rattle.machine_meaning.specs.Composing.{sent_to}
use Rattle.machine_meaning.specs.Drafts.{Draft, letter}
use Rattle.machine_meaning.specs.Lists.{changed_at}
use Rattle.machine_meaning.specs.States.{State, SwitchOf}
use Rattle.waitings.specs.Waitings.{with_xid}
use Rattle.machine_meaning.specs.Ways.{switches_of}
use Rattle.machine_meaning.specs.declared.said.Asked.{Asked}
use Rattle.machine_meaning.specs.declared.said.Sent.{Sent}

-- the request of a poll
abbrev pub request : Asked → Body
request a = if a.ports then port_request else flow_request

-- one message to a switch that is up
abbrev pub sent_one : SwitchOf → Body → Sending
sent_one x body = send (record { known = x.known; messages = [] }) body

-- what is known of a switch after a message
abbrev pub with_sent : ℕ → Sending → State → State
with_sent n sent s = record s { switches = changed_at n (sent_to sent) s.switches }

-- the poll of a virtual switch is asked of a switch
abbrev pub polled : ℕ → SwitchOf → Asked → Draft → Draft
polled n x a d = record d {
  state = record (with_sent n (sent_one x (request a)) d.state)
      { waiting = map (with_xid a.v n (sent_one x (request a)).known.xid) d.state.waiting };
  polls = d.polls ++ map (letter n) (sent_one x (request a)).messages;
}

abbrev pub polled_if_up : ℕ → Option SwitchOf → Asked → Draft → Draft
polled_if_up n None a d = d
polled_if_up n (Some x) a d = if x.outbox.up then polled n x a d else d

abbrev pub poll_at : Asked → Draft → ℕ → Draft
poll_at a d n = polled_if_up n (slice_get d.state.switches n) a d

-- it is asked of each of its switches that is up, if there is such a virtual switch
abbrev pub poll : PolicyOf → Draft → Asked → Draft
poll p d a = if nat_lt a.v (length p.virtuals) then fold (poll_at a) d (switches_of p a.v) else d

-- a packet leaves at a switch that is up
abbrev pub dispatched : ℕ → SwitchOf → Body → Draft → Draft
dispatched n x body d = record d {
  state = with_sent n (sent_one x body) d.state;
  packets = d.packets ++ map (letter n) (sent_one x body).messages;
}

abbrev pub dispatched_if_up : Option SwitchOf → Sent → Draft → Draft
dispatched_if_up None o d = d
dispatched_if_up (Some x) o d = if x.outbox.up then dispatched o.switch x (packet_out o.port o.bytes) d else d

abbrev pub dispatch : Draft → Sent → Draft
dispatch d o = dispatched_if_up (slice_get d.state.switches o.switch) o d

-- polls in the order in which they began, and then packets in the order of the outs
abbrev pub request_all : PolicyOf → Draft → Draft
request_all p d = fold dispatch (fold (poll p) d d.asked) d.sent
