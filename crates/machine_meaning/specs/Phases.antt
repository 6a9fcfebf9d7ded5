-- An event goes through its phases; sessions that are put more than they may be are closed as slow.
use Rattle.std.specs.Prelude.{ℕ, zero, suc, Bool, ◌+◌, ◌==◌, ◌&&◌, not, List, [], ◌++◌, filter, if◌then◌else◌, length}
use Rattle.std.specs.Prelude.{false}
use Rattle.std.specs.Option.{option_map_or}
use Rattle.cv_io.specs.declared.leaf.Who.{Who}
use Rattle.cv_io.specs.declared.leaf.Who.TheVariants.{Member, Switch}
use Rattle.outbox.specs.Outboxes.{is_full}
use Rattle.policies.specs.Policies.{PolicyOf}
use Rattle.machine_meaning.specs.Acting.{act}
use Rattle.machine_meaning.specs.Composing.{compose}
use Rattle.machine_meaning.specs.Drafts.{Draft}
use Rattle.machine_meaning.specs.Lists.{places}
use Rattle.machine_meaning.specs.Putting.{for_member, for_switch}
use Rattle.machine_meaning.specs.Rounds.{Closing, close}
use Rattle.machine_meaning.specs.Sessions.{is_member, is_switch, is_up, outbox_of}
use Rattle.machine_meaning.specs.Settling.{settle}
use Rattle.machine_meaning.specs.States.{State}
use Rattle.machine_meaning.specs.Telling.{tell}
use Rattle.events.specs.declared.event.Event.{Event}

-- what an event does and what settles then, where these sessions are closed as slow
abbrev pub settled_of : PolicyOf → State → Event → Closing → Draft
settled_of p s e c = settle p (close c (act p s e))

-- what it changes and says in all
abbrev pub draft_of : PolicyOf → State → Event → Closing → Draft
draft_of p s e c = tell p s (compose p (settled_of p s e c))

-- so much waited for a session as the event began that it is closed if it is put more
abbrev pub was_full : State → Who → Bool
was_full before who = option_map_or is_full (outbox_of before who) false

-- something is said
abbrev pub is_any : List (List ℕ) → Bool
is_any messages = not (length messages == 0)

-- a member whose round this event didn't begin is put more than it may be, and a switch
abbrev pub overfills_member : State → Draft → ℕ → Bool
overfills_member before d n =
    is_up d.state (Member n) && (not (is_member n d.begun) && (was_full before (Member n) && is_any (for_member d n)))

abbrev pub overfills_switch : State → Draft → ℕ → Bool
overfills_switch before d n =
    is_up d.state (Switch n) && (not (is_switch n d.begun) && (was_full before (Switch n) && is_any (for_switch d n)))

-- the sessions that are put more than they may be
abbrev pub overfilled : State → Draft → Closing
overfilled before d = record {
  switches = filter (overfills_switch before d) (places d.state.switches);
  members = filter (overfills_member before d) (places d.state.members);
}

-- no session is one of these
abbrev pub is_empty : Closing → Bool
is_empty c = (length c.switches == 0) && (length c.members == 0)

-- two sets of sessions together
abbrev pub both : Closing → Closing → Closing
both a b = record { switches = a.switches ++ b.switches; members = a.members ++ b.members }

-- no session
abbrev pub nobody : Closing
nobody = record { switches = []; members = [] }

-- where others are put more than they may be, these are closed too, and it is tried again
abbrev pub slow_with : Closing → (Closing → Closing) → Closing → Closing
slow_with more again c = if is_empty more then c else again (both c more)

-- from these sessions on, at most so many times
abbrev pub slow_from : ℕ → PolicyOf → State → Event → Closing → Closing
slow_from zero p s e c = c
slow_from (suc n) p s e c = slow_with (overfilled s (draft_of p s e c)) (slow_from n p s e) c

-- the sessions that are closed as slow: those of the fewest rounds after which no full session is put anything
abbrev pub slow : PolicyOf → State → Event → Closing
slow p s e = slow_from (length s.switches + length s.members) p s e nobody

-- what an event changes and says
abbrev pub drafted : PolicyOf → State → Event → Draft
drafted p s e = draft_of p s e (slow p s e)
