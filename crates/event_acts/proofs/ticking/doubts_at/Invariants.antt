use Rattle.std.proofs.Common.{◌≡◌, ◌++◌, drop}
use Rattle.event_acts.proofs.Doubting.{doubts_from}
use Rattle.machine_drafts.specs.Outcomes.{state_in}
use Rattle.machine_meaning.specs.Ticking.{doubts_at}
use Rattle.event_acts.proofs.ticking.doubts_at.Given as goal

-- the doubts so far, and those on entries of the members that are left
abbrev pub invariant-loop-n : goal.invariant-loop-n
invariant-loop-n l =
    l.doubts
    ++ doubts_from (state_in l.draft) l.v l.n (drop l.n l.setup.members) (drop l.n (state_in l.draft).members)
    ≡ doubts_at l.setup (state_in l.draft) l.v
