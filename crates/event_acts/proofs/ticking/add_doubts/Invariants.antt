use Rattle.std.proofs.Common.{◌≡◌, ◌++◌, ℕ, drop, map}
use Rattle.std.specs.Prelude.{filter, not}
use Rattle.machine_drafts.specs.Outcomes.{state_in}
use Rattle.machine_meaning.specs.Ticking.{doubt_on}
use Rattle.waitings.specs.Waitings.{is_in_doubt}
use Rattle.event_acts.proofs.ticking.add_doubts.Given as goal

-- the doubts so far, and those on the entries that are left
abbrev pub invariant-loop-serial : goal.invariant-loop-serial
invariant-loop-serial l =
    l.doubts
    ++ map (doubt_on (state_in l.draft) l.n)
    (filter (λ (serial : ℕ). not (is_in_doubt (state_in l.draft).waiting l.n serial))
    (drop l.serial-index l.serials))
    ≡ l.fn.doubts
    ++ map (doubt_on (state_in l.draft) l.n)
    (filter (λ (serial : ℕ). not (is_in_doubt (state_in l.draft).waiting l.n serial)) l.serials)
