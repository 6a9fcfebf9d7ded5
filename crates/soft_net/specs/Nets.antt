-- A net: switches in memory, with the cables of a plan between them.
use Rattle.std.specs.Prelude.{ℕ, zero, suc, ◌+◌, Option, Some, None, List, [], ◌∷◌, ◌++◌, length, map, option_map}
use Rattle.std.specs.Prelude.{slice_get}
use Rattle.std.specs.BTreeMap.{insert_entry, is_at}
use Rattle.std.specs.Map.{lookup, remove_entry}
use Rattle.std.specs.Ordering.{nat_cmp}
use Rattle.of10_msgs.specs.declared.message.Body.{Body}
use Rattle.of10_msgs.specs.declared.message.Message.{Message}
use Rattle.of10_stats.specs.declared.reply.PortStat.{PortStat}
use Rattle.virtual_topology.specs.Rows.{Spot}
use Rattle.virtual_topology.specs.Wires.{far_end_of}
use Rattle.virtual_topology.specs.declared.plan.SwitchItem.{SwitchItem}
use Rattle.virtual_topology.specs.declared.plan.TopologyPlan.{TopologyPlan}
use Rattle.soft_net.specs.Answers.{answers_to}
use Rattle.soft_net.specs.Changes.{after}
use Rattle.soft_net.specs.Counting.{changed, counted_by, port_counted, zero_ports}
use Rattle.soft_net.specs.Passing.{passes, sent_by}
use Rattle.soft_net.specs.Tables.{TableOf}
use Rattle.soft_net.specs.declared.answer.Answer.{Answer}
use Rattle.soft_net.specs.declared.cabled.NetAnswer.{NetAnswer}
use Rattle.soft_net.specs.declared.cabled.NetHit.{NetHit}
use Rattle.soft_net.specs.declared.cabled.NetPassed.{NetPassed}
use Rattle.soft_net.specs.declared.passed.Hit.{Hit}
use Rattle.soft_net.specs.declared.passed.Packet.{Packet}
use Rattle.soft_net.specs.declared.passed.Passed.{Passed}
use Rattle.soft_net.specs.declared.switch.SoftSwitch.{SoftSwitch}

-- what is seen of a switch: its table, and its ports with their counts, by their numbers
pub record SwitchOf : Type 0 where
  pub table : TableOf
  pub ports : List (ℕ × PortStat)

-- a switch as it is seen
abbrev pub switch_of : SoftSwitch → SwitchOf
switch_of s = record { table = s.table; ports = s.ports.entries }

-- a net: the plan of its switches and cables, and the switches that are up, by their numbers
pub record NetOf : Type 0 where
  pub plan : TopologyPlan
  pub switches : List (ℕ × SwitchOf)

-- the switches of numbers as they are seen
abbrev pub numbered : List (ℕ × SoftSwitch) → List (ℕ × SwitchOf)
numbered ps = map (λ (p : ℕ × SoftSwitch). (p.0, switch_of p.1)) ps

-- the switch of a number, if it is up
abbrev pub switch_at : NetOf → ℕ → Option SwitchOf
switch_at n switch = lookup (is_at (nat_cmp switch)) n.switches

-- ---- where packets go

-- nothing leaves, is told or is counted
abbrev pub nothing : NetPassed
nothing = record { outs = []; copies = []; hits = [] }

-- one after the other
abbrev pub both : NetPassed → NetPassed → NetPassed
both a b = record { outs = a.outs ++ b.outs; copies = a.copies ++ b.copies; hits = a.hits ++ b.hits }

-- a message to the controller, with its switch
abbrev pub answer_at : ℕ → Message → NetAnswer
answer_at switch message = record { switch = switch; message = message }

-- what is to be counted, with its switch
abbrev pub hit_at : ℕ → Hit → NetHit
hit_at switch hit = record { switch = switch; hit = hit }

-- a switch tells the controller, and counts
abbrev pub at_switch : ℕ → List Message → List Hit → NetPassed
at_switch switch copies hits =
    record { outs = []; copies = map (answer_at switch) copies; hits = map (hit_at switch) hits }

-- a packet that goes out at a port with this far end: without a cable it leaves the net, else it goes on
abbrev pub goes_out : Option Spot → ℕ → Packet → (ℕ → ℕ → List ℕ → NetPassed) → NetPassed
goes_out None switch packet on =
    record { outs = record { switch = switch; packet = packet } ∷ []; copies = []; hits = [] }
goes_out (Some end) switch packet on = on end.0 end.1 packet.bytes

-- the packets that a switch sends out
abbrev pub all_go : TopologyPlan → (ℕ → ℕ → List ℕ → NetPassed) → ℕ → List Packet → NetPassed
all_go plan on switch [] = nothing
all_go plan on switch (packet ∷ packets) =
    both (goes_out (far_end_of plan switch packet.port) switch packet on) (all_go plan on switch packets)

-- what a switch makes of a packet, and what comes of that
abbrev pub passed_on : TopologyPlan → (ℕ → ℕ → List ℕ → NetPassed) → ℕ → Passed → NetPassed
passed_on plan on switch passed = both (at_switch switch passed.copies passed.hits) (all_go plan on switch passed.outs)

-- a packet comes in at a port of a switch; one that is down does nothing
abbrev pub comes_in : TopologyPlan → (ℕ → ℕ → List ℕ → NetPassed) → ℕ → ℕ → List ℕ → Option SwitchOf → NetPassed
comes_in plan on switch port frame None = nothing
comes_in plan on switch port frame (Some s) = passed_on plan on switch (passes s.table.entries port frame)

-- a packet that so many switches take up in turn
abbrev pub taken_up : NetOf → ℕ → ℕ → ℕ → List ℕ → NetPassed
taken_up n zero switch port frame = nothing
taken_up n (suc turns) switch port frame = comes_in n.plan (taken_up n turns) switch port frame (switch_at n switch)

-- over cables a packet gets to as many switches as there are
abbrev pub goes_on : NetOf → ℕ → ℕ → List ℕ → NetPassed
goes_on n = taken_up n (length n.plan.switches)

-- what a net makes of a packet that comes in at a port of a switch
abbrev pub net_passes : NetOf → ℕ → ℕ → List ℕ → NetPassed
net_passes n switch port frame = taken_up n (length n.plan.switches + 1) switch port frame

-- ---- what a switch hears

-- what comes of what a message sends; a switch that is down sends nothing
abbrev pub sends_at : NetOf → ℕ → Body → Option SwitchOf → NetPassed
sends_at n switch body None = nothing
sends_at n switch body (Some s) = passed_on n.plan (goes_on n) switch (sent_by body)

-- what comes of what a message to the switch of a number sends
abbrev pub net_sends : NetOf → ℕ → Body → NetPassed
net_sends n switch body = sends_at n switch body (switch_at n switch)

-- what a switch answers; one that is down answers nothing
abbrev pub answers_at : Message → Option SwitchOf → List Answer
answers_at message None = []
answers_at message (Some s) = answers_to s.table (map (λ (p : ℕ × PortStat). p.1) s.ports) message

-- what the switch of a number answers
abbrev pub net_answers : NetOf → ℕ → Message → List Answer
net_answers n switch message = answers_at message (switch_at n switch)

-- ---- nets that change

-- a net in which a switch is changed, if it is up
abbrev pub changed_switch : ℕ → (SwitchOf → SwitchOf) → NetOf → NetOf
changed_switch switch f n = record n { switches = changed (is_at (nat_cmp switch)) f n.switches }

-- a switch that counts
abbrev pub counted : Hit → SwitchOf → SwitchOf
counted hit s = record { table = counted_by hit s.table; ports = port_counted hit s.ports }

-- a net that counts
abbrev pub net_counted : List NetHit → NetOf → NetOf
net_counted [] n = n
net_counted (h ∷ hs) n = net_counted hs (changed_switch h.switch (counted h.hit) n)

-- a switch that heard a message: its table changes
abbrev pub heard : Body → SwitchOf → SwitchOf
heard body s = record s { table = after s.table body }

-- a net after a message to a switch: what it sends is counted
abbrev pub net_after : NetOf → ℕ → Message → NetOf
net_after n switch message =
    net_counted (net_sends n switch message.body).hits (changed_switch switch (heard message.body) n)

-- a switch that came up: its table is empty, and its counts are zero
abbrev pub fresh : SwitchItem → SwitchOf
fresh item = record { table = record { entries = []; next = 0 }; ports = zero_ports item.ports }

-- a net in which a switch came up, if there is one
abbrev pub with_switch : ℕ → Option SwitchOf → NetOf → NetOf
with_switch switch None n = n
with_switch switch (Some s) n = record n { switches = insert_entry nat_cmp n.switches switch s }

-- the plan has it
abbrev pub with_up : ℕ → NetOf → NetOf
with_up switch n = with_switch switch (option_map fresh (slice_get n.plan.switches switch)) n

-- a net in which a switch went down
abbrev pub with_down : ℕ → NetOf → NetOf
with_down switch n = record n { switches = remove_entry (is_at (nat_cmp switch)) n.switches }
