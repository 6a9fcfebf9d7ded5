use Rattle.std.proofs.Common.{ap}
use Rattle.policy_lock.proofs.Posts.{followed}
use Rattle.policy_lock.proofs.lock.PolicyLock.after.Goals as goal

pub returns-clause-after : goal.returns-clause-after
returns-clause-after g c = let t = c.take-word in let v = c.seat.inside.token.me.0 in
    followed g.M.Machine v t.result.0 t.result.1 t.new.token.me t.ensures.taken c.args.seat.now.pass
    (ap (λ s. s.pass) c.seat.view_is) c.args.self.now.start c.requires.seat.1 c.give_back.new.token.me
    c.give_back.ensures.back c.args.place c.requires.place c.after-after.result c.after-after.ensures
