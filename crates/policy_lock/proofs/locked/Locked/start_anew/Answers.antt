use Rattle.std.proofs.Common.{rules}
use Rattle.policy_lock.proofs.Stand.{restarts}
use Rattle.policy_lock.proofs.locked.Locked.start_anew.Goals as goal

pub returns-clause-same : goal.returns-clause-same
returns-clause-same g c = restarts g.M.Machine g.row.M-State.coded c.args.self.now _ c.requires.full (search rules)
    (search rules) (search rules)
