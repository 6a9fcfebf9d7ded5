-- A switch in memory is one of the switches that agreement speaks of.
use Rattle.std.specs.Prelude.{◌≡◌, ℕ, ◌+◌, ◌<◌, ◌^◌, Bool, List, Option, Some, flat_map, length, map, option_map}
use Rattle.std.specs.List.{AllByRecursion}
use Rattle.install_plan.specs.declared.written.Batch.{Batch}
use Rattle.of10_actions.specs.Numbers.{NONE}
use Rattle.of10_match.specs.Fields.{HeaderOf}
use Rattle.of10_msgs.specs.Commands.{command_at}
use Rattle.of10_msgs.specs.declared.command.Command.{Command}
use Rattle.of10_msgs.specs.declared.command.Command.TheVariants.{Modify, ModifyStrict, Delete, DeleteStrict}
use Rattle.of10_msgs.specs.declared.message.Body.{Body}
use Rattle.of10_msgs.specs.declared.message.Body.TheVariants.{FlowMod}
use Rattle.of10_msgs.specs.declared.message.FlowMod.{FlowMod as FlowModOf}
use Rattle.pkt_bytes.specs.Headers.{header_in}
use Rattle.switch_meaning.specs.Choosing.{chosen_entry}
use Rattle.switch_meaning.specs.Firing.{fire_entry}
use Rattle.switch_meaning.specs.MayUse.{MayUse}
use Rattle.switch_meaning.specs.Tables.{table_after_all}
use Rattle.switch_meaning.specs.declared.choosing.Reading.TheVariants.{ExactFirst}
use Rattle.switch_meaning.specs.declared.entry.FlowEntry.{FlowEntry}
use Rattle.switch_meaning.specs.declared.fired.Fired.{Fired}
use Rattle.switch_meaning.specs.declared.fired.Sent.{Sent}
use Rattle.switch_state.specs.Messages.{switch_messages}
use Rattle.switch_state.specs.Writing.{changes_of}
use Rattle.soft_net.specs.Changes.{after_all}
use Rattle.soft_net.specs.Entries.{flows}
use Rattle.soft_net.specs.Passing.{passes}
use Rattle.soft_net.specs.Tables.{TableOf, best_entry}
use Rattle.soft_net.specs.declared.entry.SoftEntry.{SoftEntry}
use Rattle.soft_net.specs.declared.passed.Packet.{Packet}
use Rattle.soft_net.specs.declared.passed.Passed.{Passed}

-- the entry that handles the packets of a header, as the definitions of switches see it
abbrev pub used_flow : List SoftEntry → HeaderOf → Option FlowEntry
used_flow es h = option_map (λ (e : SoftEntry). e.flow) (best_entry es h)

-- it is the one that a switch uses which puts entries without wildcards first
abbrev pub ChoosesAlike : Type 0
ChoosesAlike = (es : List SoftEntry) (h : HeaderOf) → used_flow es h ≡ chosen_entry ExactFirst (flows es) h

-- so it is one that a switch may use
abbrev pub ChoosesAllowed : Type 0
ChoosesAllowed = (es : List SoftEntry) (h : HeaderOf) → MayUse (flows es) h (used_flow es h)

-- packets go out at the same ports in the same order, and as many copies go to the controller
pub record GoesAlike (passed : Passed) (fired : Fired) : Type 0 where
  pub ports : map (λ (p : Packet). p.port) passed.outs ≡ map (λ (s : Sent). s.port) fired.outs
  pub copies : length passed.copies ≡ length fired.copies

-- a packet goes where that entry sends its header
abbrev pub SendsAlike : Type 0
SendsAlike = (es : List SoftEntry) (port : ℕ) (frame : List ℕ) → GoesAlike (passes es port frame)
    (fire_entry (chosen_entry ExactFirst (flows es) (header_in port frame)) (header_in port frame))

-- of a FLOW_MOD: it adds, or it deletes whichever ports the entries send to
abbrev pub IsOfKind : Option Command → FlowModOf → Type 0
IsOfKind (Some Modify) m = ⊥
IsOfKind (Some ModifyStrict) m = ⊥
IsOfKind (Some Delete) m = m.out_port ≡ NONE
IsOfKind (Some DeleteStrict) m = m.out_port ≡ NONE
IsOfKind command m = Unit {0}

-- the message is of a kind that is written to switches
abbrev pub IsWritten : Body → Type 0
IsWritten (FlowMod m) = IsOfKind (command_at m.command) m
IsWritten body = Unit {0}

-- after such messages, of which there are fewer than there are numbers left, a switch in memory holds what they make of
-- the table that it held
abbrev pub HoldsAlike : Type 0
HoldsAlike = (t : TableOf) (bodies : List Body) → t.next + length bodies < 2 ^ 64 → AllByRecursion IsWritten bodies
    → flows (after_all t bodies).entries ≡ table_after_all (flows t.entries) (flat_map changes_of bodies)

-- the messages of a batch are such, and those that empty a switch where its round begins
abbrev pub BatchesAreSuch : Type 0
BatchesAreSuch = (begins : Bool) (b : Batch) → AllByRecursion IsWritten (switch_messages begins b)
