-- A script made of a seed, over the policy of benchmarks: the switch and both members come up, and then send, in turn,
-- a FLOW_MOD each.
use Rattle.std.specs.Prelude.{ℕ, zero, suc, ◌+◌, ◌*◌, ◌/◌, ◌%◌, ◌==◌, Bool, Some, List, [], ◌∷◌, ◌++◌, codes}
use Rattle.std.specs.Prelude.{if◌then◌else◌}
use Rattle.hex.specs.Hex.{encode_lower}
use Rattle.of10_actions.specs.declared.action.Action.{Action}
use Rattle.of10_actions.specs.declared.action.Action.TheVariants.{Output}
use Rattle.of10_match.specs.Fields.{MatchOf}
use Rattle.of10_match.specs.Matching.{everything}
use Rattle.of10_match.specs.Wildcards.{match_bytes}
use Rattle.of10_match.specs.declared.header.Prefix.{Prefix}
use Rattle.of10_msgs.specs.Spelling.{spelling}
use Rattle.of10_msgs.specs.declared.message.Body.TheVariants.{FlowMod}
use Rattle.of10_msgs.specs.declared.message.Message.{Message}
use Rattle.made_script.specs.Drawing.{after, drawn, start}

-- 10.0.c.0/24, where c is the lowest byte of what is drawn
abbrev pub net_of : ℕ → Prefix
net_of d = record { addr = 0x0a000000 + (d % 256) * 256; len = 24 }

-- a port from 1 to 4, by the two bits above that byte
abbrev pub port_of : ℕ → ℕ
port_of d = 1 + (d / 256) % 4

-- IPv4 packets that come from a net
abbrev pub from_net : Prefix → MatchOf
from_net net = record everything { dl_type = Some 0x0800; nw_src = Some net }

-- IPv4 packets that go to a net
abbrev pub to_net : Prefix → MatchOf
to_net net = record everything { dl_type = Some 0x0800; nw_dst = Some net }

-- an ADD of priority 100, without cookie, timeouts, flags and buffer
abbrev pub addition : ℕ → MatchOf → List Action → Message
addition xid m actions = record {
  xid = xid;
  body = FlowMod (record {
    m = match_bytes m;
    cookie = 0;
    command = 0;
    idle_timeout = 0;
    hard_timeout = 0;
    priority = 100;
    buffer_id = 0xffffffff;
    out_port = 0xffff;
    flags = 0;
    actions = actions;
  });
}

-- the messages of odd numbers are of the monitor, those of even numbers of the router
abbrev pub is_monitor : ℕ → Bool
is_monitor k = k % 2 == 1

-- the monitor counts what comes from a net
abbrev pub counts : ℕ → ℕ → Message
counts k d = addition k (from_net (net_of d)) []

-- the router sends what goes to a net out by a port
abbrev pub routes : ℕ → ℕ → Message
routes k d = addition k (to_net (net_of d)) (Output (port_of d) 0 ∷ [])

-- the message of a number, of what was drawn for it
abbrev pub message_of : ℕ → ℕ → Message
message_of k d = if is_monitor k then counts k d else routes k d

abbrev pub sender_of : ℕ → List ℕ
sender_of k = if is_monitor k then codes "mon@v1" else codes "rt@v1"

-- a line of a session that sends a message
abbrev pub sending : List ℕ → Message → List ℕ
sending name m = codes "from " ++ (name ++ (codes " " ++ encode_lower (spelling m)))

-- the line of the message of a number, where this number is drawn from
abbrev pub line_of : ℕ → ℕ → List ℕ
line_of k x = sending (sender_of k) (message_of k (drawn x))

-- who comes up
abbrev pub opening : List (List ℕ)
opening = codes "up s1" ∷ codes "up mon@v1" ∷ codes "up rt@v1" ∷ []

-- the lines of so many messages behind those that were made, the last of which was drawn from this number
abbrev pub lines_behind : ℕ → ℕ → ℕ → List (List ℕ)
lines_behind done x zero = []
lines_behind done x (suc n) = line_of (done + 1) (after x) ∷ lines_behind (done + 1) (after x) n

-- the script of a seed with so many messages
abbrev pub made : ℕ → ℕ → List (List ℕ)
made seed n = opening ++ lines_behind 0 (start seed) n
