-- The clock shows another second.
use Rattle.std.specs.Prelude.{ℕ, Bool, ◌==◌, ◌&&◌, not, List, [], ◌∷◌, filter, flat_map, fold, map, zip}
use Rattle.std.specs.List.{enumerate_from}
use Rattle.member_state.specs.Changes.{rising_serials}
use Rattle.member_table.specs.Timeouts.{is_idle_due}
use Rattle.member_table.specs.declared.entry.Entry.{Entry}
use Rattle.policies.specs.Policies.{PolicyOf}
use Rattle.policies.specs.declared.policy.MemberItem.{MemberItem}
use Rattle.machine_meaning.specs.Counted.{count_of}
use Rattle.machine_meaning.specs.Drafts.{Draft}
use Rattle.machine_meaning.specs.Lists.{places}
use Rattle.machine_meaning.specs.Names.{virtual_of}
use Rattle.machine_meaning.specs.Polls.{begin_poll}
use Rattle.machine_meaning.specs.Removing.{without_expired}
use Rattle.machine_meaning.specs.States.{MemberOf, State}
use Rattle.waitings.specs.Waitings.{is_in_doubt}
use Rattle.waitings.specs.declared.state.Doubt.{Doubt}
use Rattle.waitings.specs.declared.state.Purpose.TheVariants.{Idle}

-- an entry comes into doubt: its idle timeout has passed since its count was last seen to rise, and no poll decides on
-- it
abbrev pub comes_into_doubt : State → ℕ → Entry → Bool
comes_into_doubt s n e = is_idle_due s.moment e && not (is_in_doubt s.waiting n e.serial)

-- a doubt, with the packets of the entry as it begins
abbrev pub doubt_on : State → ℕ → ℕ → Doubt
doubt_on s n serial = record { member = n; serial = serial; packets = (count_of s n serial).packets }

-- the doubts on entries of a member, by their numbers
abbrev pub doubts_in : State → ℕ × MemberOf → List Doubt
doubts_in s (n, x) = map (doubt_on s n) (rising_serials (comes_into_doubt s n) x.kept.table.entries)

-- the member is one of the virtual switch
abbrev pub is_member_of : ℕ → ℕ × (MemberItem × MemberOf) → Bool
is_member_of v (n, (m, x)) = virtual_of m == v

-- the doubts on entries of the members of a virtual switch
abbrev pub doubts_at : PolicyOf → State → ℕ → List Doubt
doubts_at p s v =
    flat_map (λ (y : ℕ × (MemberItem × MemberOf)). doubts_in s (y.0, y.1.1))
    (filter (is_member_of v) (enumerate_from 0 (zip p.members s.members)))

-- where there are any, one poll of the virtual switch decides on them
abbrev pub poll_for : PolicyOf → ℕ → List Doubt → Draft → Draft
poll_for p v [] d = d
poll_for p v (doubt ∷ doubts) d = begin_poll p v (Idle (doubt ∷ doubts)) d

abbrev pub doubt_at : PolicyOf → Draft → ℕ → Draft
doubt_at p d v = poll_for p v (doubts_at p d.state v) d

-- virtual switches are polled in the order of the file
abbrev pub doubt : PolicyOf → Draft → Draft
doubt p d = fold (doubt_at p) d (places p.virtuals)

-- a second is told: entries that have stood for their hard timeouts go, and those that may have idled come into doubt
abbrev pub ticks : PolicyOf → ℕ → Draft → Draft
ticks p now d = doubt p (record d { state = without_expired (record d.state { moment = now }) })
