use Rattle.std.proofs.Common.{◌≤◌, ◌<◌, List, ℕ, length, subst, sym}
use Rattle.event_acts.proofs.MemberBodies.{statistics_fits, statistics_room}
use Rattle.event_acts.proofs.judging.ask_statistics.Goals as goal

pub read_request-requires-clause-room : goal.read_request-requires-clause-room
read_request-requires-clause-room c =
    subst (λ (bs : List ℕ). 4 ≤ length bs) (sym c.as_slice.ensures) (statistics_room c.args.body c.requires)

pub read_request-requires-clause-fits : goal.read_request-requires-clause-fits
read_request-requires-clause-fits c =
    subst (λ (bs : List ℕ). length bs < 4294967296) (sym c.as_slice.ensures) (statistics_fits c.args.body c.requires)
