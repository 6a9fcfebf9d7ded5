-- What an event changes and says: each phase of a step passes it on.
use Rattle.std.specs.Prelude.{ℕ, Bool, ◌==◌, List, [], ◌∷◌, ◌++◌, Option, None, map, filter}
use Rattle.cv_io.specs.declared.leaf.Who.{Who}
use Rattle.of10_msgs.specs.Spelling.{spelling}
use Rattle.of10_msgs.specs.declared.message.Body.{Body}
use Rattle.machine_meaning.specs.States.{State}
use Rattle.events.specs.declared.event.Reply.{Reply}
use Rattle.events.specs.declared.event.Reply.TheVariants.{Done}
use Rattle.machine_meaning.specs.declared.said.Asked.{Asked}
use Rattle.machine_meaning.specs.declared.said.Down.{Down}
use Rattle.machine_meaning.specs.declared.said.Letter.{Letter}
use Rattle.machine_meaning.specs.declared.said.Sent.{Sent}

-- The state as the phases so far leave it, without what the event says; the reply; whose round begins; the polls that
-- begin, and the packets that switches are to send, without their xids. What is said to members: the answer to the
-- message, ports, what settles, entries that were removed, packets. What is said to switches: the batch, polls,
-- packets, and what has an xid of its own. What is said to the audit: a new expression, a denial, switches that went,
-- slow members, switches that don't match ARP addresses.
pub record Draft : Type 0 where
  pub state : State
  pub reply : Reply
  pub begun : Option Who
  pub asked : List Asked
  pub sent : List Sent
  pub answers : List Letter
  pub ports : List Letter
  pub settled : List Letter
  pub removed : List Letter
  pub told : List Letter
  pub batches : List Letter
  pub polls : List Letter
  pub packets : List Letter
  pub echoes : List Letter
  pub policies : List (List ℕ)
  pub denials : List (List ℕ)
  pub downs : List Down
  pub slows : List ℕ
  pub notes : List (List ℕ)

-- nothing happened yet
abbrev pub untouched : State → Draft
untouched s = record {
  state = s;
  reply = Done;
  begun = None;
  asked = [];
  sent = [];
  answers = [];
  ports = [];
  settled = [];
  removed = [];
  told = [];
  batches = [];
  polls = [];
  packets = [];
  echoes = [];
  policies = [];
  denials = [];
  downs = [];
  slows = [];
  notes = [];
}

-- a message with an xid, as it is written
abbrev pub message : ℕ → Body → List ℕ
message xid body = spelling (record { xid = xid; body = body })

-- one message to the member or switch of a number
abbrev pub letter : ℕ → List ℕ → Letter
letter n bytes = record { to = n; bytes = bytes }

-- the message is for this one
abbrev pub is_to : ℕ → Letter → Bool
is_to n l = l.to == n

-- what is said to this one
abbrev pub said_to : ℕ → List Letter → List (List ℕ)
said_to n letters = map (λ (l : Letter). l.bytes) (filter (is_to n) letters)

-- a member's message is answered
abbrev pub answering : ℕ → List (List ℕ) → Draft → Draft
answering n messages d = record d { answers = d.answers ++ map (letter n) messages }

abbrev pub answer : ℕ → ℕ → Body → Draft → Draft
answer n xid body d = answering n (message xid body ∷ []) d
