-- Rounds begin and end.
use Rattle.std.specs.Prelude.{ℕ, not, List, [], ◌∷◌, ◌++◌, Some, filter, fold, map}
use Rattle.cv_io.specs.declared.leaf.Who.{Who}
use Rattle.cv_io.specs.declared.leaf.Who.TheVariants.{Member, Switch}
use Rattle.install_plan.specs.declared.written.Written.{Written}
use Rattle.outbox.specs.Outboxes.{closed, opened}
use Rattle.script_text.specs.declared.audit.DownCause.{DownCause}
use Rattle.script_text.specs.declared.audit.DownCause.TheVariants as causes
use Rattle.stats_map.specs.Counting.{downed}
use Rattle.switch_state.specs.Known.{nothing_known}
use Rattle.machine_meaning.specs.Drafts.{Draft}
use Rattle.machine_meaning.specs.Lists.{changed_at}
use Rattle.machine_meaning.specs.Sessions.{round_of}
use Rattle.machine_meaning.specs.States.{MemberOf, State, SwitchOf, first_config}
use Rattle.waitings.specs.Waitings.{is_asked_by, without_parts_of}
use Rattle.events.specs.declared.event.Reply.TheVariants.{Opened}
use Rattle.waitings.specs.declared.state.Waiting.{Waiting}

-- a member whose round ended
abbrev pub ended_member : MemberOf → MemberOf
ended_member x = record x { outbox = closed x.outbox }

-- what it waited for is dropped
abbrev pub without_member : ℕ → State → State
without_member n s = record s {
  members = changed_at n ended_member s.members;
  waiting = filter (λ (w : Waiting). not (is_asked_by n w)) s.waiting;
}

-- a switch whose round ended: nothing is known of it any more
abbrev pub ended_switch : SwitchOf → SwitchOf
ended_switch x = record { outbox = closed x.outbox; known = nothing_known 0 }

-- nothing stands on a switch
abbrev pub emptied_at : ℕ → List (List Written) → List (List Written)
emptied_at n standing = changed_at n (λ old. []) standing

-- nothing stands on it, its cookies don't matter any more, and nothing waits for it
abbrev pub without_switch : ℕ → State → State
without_switch n s = record s {
  switches = changed_at n ended_switch s.switches;
  standing = emptied_at n s.standing;
  counts = downed n s.counts;
  waiting = map (without_parts_of n) s.waiting;
}

-- a member's round ends
abbrev pub end_member : ℕ → Draft → Draft
end_member n d = record d { state = without_member n d.state }

-- a switch's round ends, for a cause
abbrev pub end_switch : ℕ → DownCause → Draft → Draft
end_switch n cause d =
    record d { state = without_switch n d.state; downs = d.downs ++ record { switch = n; cause = cause } ∷ [] }

-- the new round of a session is answered
abbrev pub answering_round : Who → Draft → Draft
answering_round who d = record d { begun = Some who; reply = Opened (round_of d.state who) }

-- a member's next round
abbrev pub begun_member : MemberOf → MemberOf
begun_member x = record x { outbox = opened x.outbox; config = first_config }

abbrev pub begin_member : ℕ → Draft → Draft
begin_member n d =
    answering_round (Member n)
    (record d { state = record d.state { members = changed_at n begun_member d.state.members } })

-- a switch's next round, in which this cookie is the first that can be written
abbrev pub begun_switch : ℕ → SwitchOf → SwitchOf
begun_switch first x = record { outbox = opened x.outbox; known = nothing_known first }

-- nothing stands on it yet
abbrev pub with_round : ℕ → State → State
with_round n s = record s {
  switches = changed_at n (begun_switch s.next_cookie) s.switches;
  standing = emptied_at n s.standing;
}

abbrev pub begin_switch : ℕ → Draft → Draft
begin_switch n d = answering_round (Switch n) (record d { state = with_round n d.state })

-- a switch or a member is closed as slow
abbrev pub close_switch : Draft → ℕ → Draft
close_switch d n = end_switch n causes.Slow d

abbrev pub close_member : Draft → ℕ → Draft
close_member d n = record (end_member n d) { slows = d.slows ++ n ∷ [] }

-- sessions, by their numbers
pub record Closing : Type 0 where
  pub switches : List ℕ
  pub members : List ℕ

-- the rounds of sessions end as slow: switches before members
abbrev pub close : Closing → Draft → Draft
close c d = fold close_member (fold close_switch d c.switches) c.members
