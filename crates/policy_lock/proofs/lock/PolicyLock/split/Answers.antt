use Rattle.std.proofs.Common.{rules}
use Rattle.policy_lock.proofs.Keeps.{looks}
use Rattle.policy_lock.proofs.Splits.{bears}
use Rattle.policy_lock.proofs.Histories.{nothing}
use Rattle.policy_lock.proofs.lock.PolicyLock.split.Goals as goal

pub load-requires : goal.load-requires
load-requires g c = (search rules, search rules, looks g.M.Machine _ _ _ _)

pub split_seat-token-requires : goal.split_seat-token-requires
split_seat-token-requires g c =
    (search rules, search rules, bears g.M.Machine _ _ _ (search rules) (nothing _ (search rules)))
