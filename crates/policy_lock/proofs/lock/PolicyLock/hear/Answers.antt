use Rattle.std.proofs.Common.{rules}
use Rattle.policy_lock.proofs.Splits.{notes}
use Rattle.policy_lock.proofs.Hears.{tells, hears}
use Rattle.policy_lock.proofs.lock.PolicyLock.hear.Goals as goal

pub split_seat-note-requires : goal.split_seat-note-requires
split_seat-note-requires g c = (search rules, search rules, notes g.M.Machine _ _ _)

pub join_seat-requires : goal.join_seat-requires
join_seat-requires g c =
    (search rules, search rules, search rules, search rules, tells g.M.Machine _ _ _ _ _ (search rules))

pub load-requires : goal.load-requires
load-requires g c = (search rules, search rules, hears g.M.Machine _ _ _ _ (search rules) (search rules))
