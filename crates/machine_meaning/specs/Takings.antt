-- The first message that waits for a session, or the first line of the audit, is taken.
use Rattle.std.specs.Prelude.{ℕ, ◌==◌, true, Option, Some, None, if◌then◌else◌}
use Rattle.cv_io.specs.declared.leaf.Session.{Session}
use Rattle.cv_io.specs.declared.leaf.Who.{Who}
use Rattle.cv_io.specs.declared.leaf.Who.TheVariants.{Member, Switch, Audit}
use Rattle.outbox.specs.Outboxes.{OutboxOf, taken, taking}
use Rattle.outbox.specs.declared.outbox.Taking.{Taking}
use Rattle.outbox.specs.declared.outbox.Taking.TheVariants as takings
use Rattle.machine_meaning.specs.Lists.{changed_at}
use Rattle.machine_meaning.specs.Sessions.{outbox_of}
use Rattle.machine_meaning.specs.States.{MemberOf, State, SwitchOf}
use Rattle.events.specs.declared.event.Reply.{Reply}
use Rattle.events.specs.declared.event.Reply.TheVariants.{Taken, Empty, Closed}

abbrev pub reply_of : Taking → Reply
reply_of (takings.Taken message) = Taken message
reply_of takings.Empty = Empty
reply_of takings.Closed = Closed

-- what a taking answers; without such a session it is closed
abbrev pub taking_from : Option OutboxOf → ℕ → Reply
taking_from None round = Closed
taking_from (Some o) round = reply_of (taking o round)

-- the audit is always up, in round 0, and has no other round
abbrev pub audit_outbox : State → OutboxOf
audit_outbox s = record { round = 0; up = true; waiting = s.audit }

abbrev pub takes_by : State → Who → ℕ → Reply
takes_by s (Member n) round = taking_from (outbox_of s (Member n)) round
takes_by s (Switch n) round = taking_from (outbox_of s (Switch n)) round
takes_by s Audit round = if round == 0 then reply_of (taking (audit_outbox s) 0) else Closed

-- the reply to a taking
abbrev pub takes : State → Session → Reply
takes s session = takes_by s session.who session.round

-- what is left after it
abbrev pub left_by : Who → ℕ → State → State
left_by (Member n) round s =
    record s { members = changed_at n (λ (x : MemberOf). record x { outbox = taken x.outbox round }) s.members }
left_by (Switch n) round s =
    record s { switches = changed_at n (λ (x : SwitchOf). record x { outbox = taken x.outbox round }) s.switches }
left_by Audit round s = record s { audit = (taken (audit_outbox s) round).waiting }

abbrev pub left_after : Session → State → State
left_after session s = left_by session.who session.round s
