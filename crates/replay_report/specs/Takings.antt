-- What waits for sessions and in the audit, and the report of it: all that waits after an event is taken, the audit's
-- lines first, and then the messages of each session.
use Rattle.std.specs.Prelude.{◌≡◌, ℕ, ◌+◌, Bool, List, [], ◌∷◌, ◌++◌, Option, Some, None, if◌then◌else◌}
use Rattle.std.specs.List.{flat_map}
use Rattle.std.specs.Option.{option_map_or}
use Rattle.cv_io.specs.declared.leaf.Who.{Who}
use Rattle.cv_io.specs.declared.leaf.Who.TheVariants.{Member, Switch, Audit}
use Rattle.events.specs.declared.event.Event.{Event}
use Rattle.events.specs.declared.event.Reply.{Reply}
use Rattle.events.specs.declared.event.Reply.TheVariants.{Taken}
use Rattle.event_composes.specs.Costs.{cost_of}
use Rattle.machine_meaning.specs.Lists.{changed_at}
use Rattle.machine_meaning.specs.Runs.{after}
use Rattle.machine_meaning.specs.Sessions.{outbox_of}
use Rattle.machine_meaning.specs.States.{MemberOf, State, SwitchOf}
use Rattle.outbox.specs.Outboxes.{OutboxOf}
use Rattle.policies.specs.Policies.{PolicyOf}
use Rattle.script_text.specs.Lines.{report_text}
use Rattle.replay_report.specs.Sessions.{sessions_of}
use Rattle.replay_report.specs.declared.sessions.Named.{Named}

-- what waits in an outbox that can be taken from, and the outbox without it
abbrev pub waiting_in : OutboxOf → List (List ℕ)
waiting_in o = if o.up then o.waiting else []

abbrev pub emptied_outbox : OutboxOf → OutboxOf
emptied_outbox o = if o.up then record o { waiting = [] } else o

-- what waits for a session, or in the audit
abbrev pub waits_for : State → Who → List (List ℕ)
waits_for s (Member n) = option_map_or waiting_in (outbox_of s (Member n)) []
waits_for s (Switch n) = option_map_or waiting_in (outbox_of s (Switch n)) []
waits_for s Audit = s.audit

abbrev pub emptied_member : MemberOf → MemberOf
emptied_member x = record x { outbox = emptied_outbox x.outbox }

abbrev pub emptied_switch : SwitchOf → SwitchOf
emptied_switch x = record x { outbox = emptied_outbox x.outbox }

-- the state once all that waits for it is taken
abbrev pub emptied : Who → State → State
emptied (Member n) s = record s { members = changed_at n emptied_member s.members }
emptied (Switch n) s = record s { switches = changed_at n emptied_switch s.switches }
emptied Audit s = record s { audit = [] }

-- a text as a line, with its line feed (10)
abbrev pub as_line : List ℕ → List ℕ
as_line text = text ++ 10 ∷ []

-- the lines of messages to a session, and of the audit
abbrev pub message_line : List ℕ → List ℕ → List ℕ
message_line name message = as_line (report_text name message)

abbrev pub message_lines : List ℕ → List (List ℕ) → List ℕ
message_lines name messages = flat_map (message_line name) messages

abbrev pub audit_lines : List (List ℕ) → List ℕ
audit_lines lines = flat_map as_line lines

-- what was reported, the state then, and how many steps of composition that takes at most
pub record Done : Type 0 where
  pub text : List ℕ
  pub state : State
  pub steps : ℕ

abbrev pub quietly : State → Done
quietly s = record { text = []; state = s; steps = 0 }

-- a text is reported before
abbrev pub behind : List ℕ → Done → Done
behind text d = record d { text = text ++ d.text }

-- so many steps are taken before
abbrev pub counted : ℕ → Done → Done
counted n d = record d { steps = n + d.steps }

-- all that waits for sessions is taken, one session after the other
abbrev pub takes_of : List Named → State → Done
takes_of [] s = quietly s
takes_of (x ∷ xs) s = behind (message_lines x.name (waits_for s x.who)) (takes_of xs (emptied x.who s))

-- all that waits is taken
abbrev pub takes_all : List Named → State → Done
takes_all xs s = behind (audit_lines s.audit) (takes_of xs (emptied Audit s))

-- an event, and then all that waits is taken, which takes no step
unfoldable pub does : PolicyOf → Event → State → Done
does p e s = counted (cost_of p s e) (takes_all (sessions_of p) (after p s e))

-- what a reply hands over
abbrev pub taken_in : Reply → Option (List ℕ)
taken_in (Taken message) = Some message
taken_in _ = None

-- the first of what waits is taken, if anything waits
abbrev pub TakesFirst : Option (List ℕ) → Who → State → State → Type 0
TakesFirst (Some message) who old new =
    (waits_for old who ≡ message ∷ waits_for new who) × (emptied who new ≡ emptied who old)
TakesFirst None who old new = (waits_for old who ≡ []) × (new ≡ emptied who old)
