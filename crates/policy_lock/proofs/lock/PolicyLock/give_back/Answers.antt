use Rattle.std.proofs.Common.{rules}
use Rattle.policy_lock.proofs.Keeps.{gives_back}
use Rattle.policy_lock.proofs.lock.PolicyLock.give_back.Goals as goal

pub store-requires : goal.store-requires
store-requires g c = (
  search rules,
  search rules,
  gives_back g.M.Machine _ _ _ _ c.args.token.now.me.0 c.args.word c.args.locked
      (search rules) c.requires.held.0 c.requires.stands c.requires.word (search rules),
)
