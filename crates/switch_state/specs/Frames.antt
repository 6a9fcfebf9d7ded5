-- What a switch reads of the messages that it is sent.
use Rattle.std.specs.Prelude.{◌≡◌, ◌<◌, ◌^◌, ℕ, Bool, Result, Ok, Err, List, [], ◌∷◌, ◌++◌, All, flat_map, length}
use Rattle.std.specs.List.{AllByRecursion}
use Rattle.install_plan.specs.declared.written.Batch.{Batch}
use Rattle.install_plan.specs.declared.written.Written.{Written}
use Rattle.of10_actions.specs.Actions.{FitsTypes as ActionFits}
use Rattle.of10_msgs.specs.Ranges.{CanWrite, FitsTypes}
use Rattle.of10_msgs.specs.Reading.{reading}
use Rattle.of10_msgs.specs.declared.fault.FormFault.{FormFault}
use Rattle.of10_msgs.specs.declared.message.Body.{Body}
use Rattle.of10_msgs.specs.declared.message.Body.TheVariants.{BarrierRequest}
use Rattle.of10_msgs.specs.declared.message.Message.{Message}
use Rattle.switch_state.specs.Fitting.{CanSend}
use Rattle.switch_state.specs.Messages.{flow_request, packet_out, port_request, switch_messages}
use Rattle.switch_state.specs.Sending.{Sending, send_all}
use Rattle.switch_state.specs.Writing.{between_barriers, changes_of}

-- what a message says, if it can be read
abbrev pub said_by : Result Message FormFault → List Body
said_by (Ok m) = m.body ∷ []
said_by (Err fault) = []

-- what messages say, one after the other
abbrev pub bodies_in : List (List ℕ) → List Body
bodies_in messages = flat_map (λ message. said_by (reading message)) messages

-- a body that can be written, whose numbers fit their types
abbrev pub IsSendable : Body → Type 0
IsSendable body = CanWrite body × FitsTypes body

-- what is sent is read
abbrev pub SentIsRead : Type 0
SentIsRead =
    (bodies : List Body) (s : Sending) → s.known.xid < 2 ^ 32 → AllByRecursion IsSendable bodies
    → bodies_in (send_all bodies s).messages ≡ bodies_in s.messages ++ bodies

-- the numbers of an entry fit their types
pub record HasTypes (w : Written) : Type 0 where
  pub cookie : w.cookie < 2 ^ 64
  pub priority : w.entry.priority < 2 ^ 16
  pub actions : All ActionFits w.entry.actions

-- so it is of the messages of a batch, as far as it hangs on its entries
abbrev pub BatchIsSendable : Type 0
BatchIsSendable =
    (begins : Bool) (b : Batch) → CanSend b → AllByRecursion HasTypes b.deletes → AllByRecursion HasTypes b.adds
    → AllByRecursion IsSendable (switch_messages begins b)

-- and of polls, and of packets that are short enough
pub record OthersAreSendable : Type 0 where
  pub flows : IsSendable flow_request
  pub ports : IsSendable port_request
  pub packets : (port : ℕ) (bytes : List ℕ) → port < 2 ^ 16 → length bytes < 65512 → IsSendable (packet_out port bytes)

-- a message that changes no table and is no barrier
abbrev pub IsQuiet : Body → Type 0
IsQuiet BarrierRequest = ⊥
IsQuiet body = changes_of body ≡ []

-- polls, packets and echoes behind a batch make no difference to the table
abbrev pub QuietChangesNothing : Type 0
QuietChangesNothing =
    (bodies others : List Body) → AllByRecursion IsQuiet others
    → between_barriers (bodies ++ others) ≡ between_barriers bodies
