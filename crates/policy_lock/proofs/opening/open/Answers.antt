use Rattle.std.proofs.Common.{rules, subst, sym, All, ◌≡◌, ◌-◌, ◌+◌}
use Rattle.policy_lock.specs.Seat.{IsSeatOf}
use Rattle.policy_lock.specs.Number.{missing, numbers}
use Rattle.policy_lock.specs.Opening.{opening_seats}
use Rattle.policy_lock.proofs.Opens.{theirs, all_there}
use Rattle.policy_lock.proofs.opening.open.Goals as goal

pub returns-in-Ok-clause-theirs : goal.returns-in-Ok-clause-theirs
returns-in-Ok-clause-theirs g c = let eq : c.in-Ok.all ≡ opening_seats c.in_ok-lock.lock (c.args.seats - 1 + 1) =
    search rules in subst (All (IsSeatOf c.in_ok-lock.lock)) (sym eq)
    (theirs g.row.M-Event.Denot g.row.M-Reply.Denot c.in_ok-lock.lock (c.args.seats - 1 + 1))

pub returns-in-Ok-clause-all : goal.returns-in-Ok-clause-all
returns-in-Ok-clause-all g c = let eq : c.in-Ok.all ≡ opening_seats c.in_ok-lock.lock (c.args.seats - 1 + 1) =
    search rules in subst (λ l. missing (numbers l) ≡ 0) (sym eq)
    (all_there g.row.M-Event.Denot g.row.M-Reply.Denot c.in_ok-lock.lock (c.args.seats - 1 + 1))
