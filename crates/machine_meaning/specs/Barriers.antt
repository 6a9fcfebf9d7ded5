-- Barriers: those of members wait for those of switches.
use Rattle.std.specs.Prelude.{ℕ, List, [], ◌∷◌, Option, Some, None, flat_map, map, slice_get}
use Rattle.std.specs.Option.{option_map_or}
use Rattle.of10_msgs.specs.declared.message.Body.TheVariants.{BarrierReply}
use Rattle.policies.specs.Policies.{PolicyOf}
use Rattle.switch_state.specs.Known.{KnownOf, unanswered}
use Rattle.switch_state.specs.Reports.{answered_number, barrier_reply}
use Rattle.machine_meaning.specs.Drafts.{Draft, answer}
use Rattle.machine_meaning.specs.Lists.{changed_at}
use Rattle.machine_meaning.specs.Polls.{begin_waiting}
use Rattle.machine_meaning.specs.States.{State, SwitchOf}
use Rattle.machine_meaning.specs.Statistics.{asker}
use Rattle.waitings.specs.Waitings.{without_barrier}
use Rattle.machine_meaning.specs.Ways.{switches_of}
use Rattle.waitings.specs.declared.state.Part.{Part}
use Rattle.waitings.specs.declared.state.Purpose.TheVariants.{Barrier}

-- the barriers that a switch hasn't answered
abbrev pub unanswered_at : State → ℕ → List Part
unanswered_at s n =
    map (λ number. record { switch = n; number = number })
    (option_map_or (λ (x : SwitchOf). unanswered x.known) (slice_get s.switches n) [])

-- those that the switches of a virtual switch haven't answered
abbrev pub unanswered_of : PolicyOf → State → ℕ → List Part
unanswered_of p s v = flat_map (unanswered_at s) (switches_of p v)

-- a member's barrier waits for these, or is answered at once
abbrev pub barrier_for : ℕ → ℕ → ℕ → List Part → Draft → Draft
barrier_for n v xid [] d = answer n xid BarrierReply d
barrier_for n v xid (part ∷ parts) d = begin_waiting v (part ∷ parts) (Barrier (asker n xid)) d

-- a BARRIER_REQUEST of a member
abbrev pub barrier_asked : PolicyOf → ℕ → ℕ → ℕ → Draft → Draft
barrier_asked p n v xid d = barrier_for n v xid (unanswered_of p d.state v) d

-- a switch with other knowledge
abbrev pub with_known : (KnownOf → KnownOf) → SwitchOf → SwitchOf
with_known f x = record x { known = f x.known }

-- the barrier of this number is answered
abbrev pub passed : ℕ → ℕ → ℕ → State → State
passed n xid number s = record s {
  switches = changed_at n (with_known (barrier_reply xid)) s.switches;
  waiting = map (without_barrier n number) s.waiting;
}

-- a BARRIER_REPLY of a switch answers the oldest barrier of its xid; without one it is ignored
abbrev pub barrier_answered : ℕ → ℕ → Option ℕ → Draft → Draft
barrier_answered n xid None d = d
barrier_answered n xid (Some number) d = record d { state = passed n xid number d.state }

abbrev pub barrier_replied : ℕ → SwitchOf → ℕ → Draft → Draft
barrier_replied n x xid d = barrier_answered n xid (answered_number xid x.known) d
