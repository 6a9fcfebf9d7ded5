-- How polls and packets are sent: over the switches, what waits, and the letters, whatever else a draft has.
use Rattle.std.specs.Prelude.{◌<◌, List, [], length}
use Rattle.std.specs.List.{AllByRecursion}
use Rattle.of10_msgs.specs.declared.message.Body.{Body}
use Rattle.switch_state.specs.Known.{KnownOf}
use Rattle.switch_state.specs.Sending.{send, sending_of}
use Rattle.machine_meaning.specs.Drafts.{Draft}
use Rattle.machine_meaning.specs.States.{SwitchOf}
use Rattle.machine_meaning.specs.declared.said.Letter.{Letter}
use Rattle.machine_meaning.specs.declared.said.Sent.{Sent}
use Rattle.waitings.specs.declared.state.Waiting.{Waiting}

-- what is known of a switch after one more message
abbrev pub known_sent : Body → KnownOf → KnownOf
known_sent body known = (send (sending_of known []) body).known

-- a draft with these switches, where this is waited for, and with these letters to switches
abbrev pub with_polled : List SwitchOf → List Waiting → List Letter → Draft → Draft
with_polled switches waiting polls d =
    record d { state = record d.state { switches = switches; waiting = waiting }; polls = polls }

abbrev pub with_dispatched : List SwitchOf → List Letter → Draft → Draft
with_dispatched switches packets d = record d { state = record d.state { switches = switches }; packets = packets }

-- a packet is so short that it can leave, as each is that a PACKET_OUT with an action brought
abbrev pub IsSendable : Sent → Type 0
IsSendable o = length o.bytes < 65512

abbrev pub AreSendable : List Sent → Type 0
AreSendable sent = AllByRecursion IsSendable sent
