use Rattle.std.proofs.Common.{rules}
use Rattle.policy_lock.proofs.Stand.{idles, costs, stores, replays-more}
use Rattle.policy_lock.proofs.locked.Locked.apply.Goals as goal

pub returns-in-Some-clause-applied : goal.returns-in-Some-clause-applied
returns-in-Some-clause-applied g c = idles g.M.Machine g.row.M-State.coded c.args.self.now c.make_room.new.self _ _
    c.make_room.ensures.same c.in-Some.ensures.0 c.in-Some.ensures.1

pub invariant_of-self-2-clause-replays : goal.invariant_of-self-2-clause-replays
invariant_of-self-2-clause-replays g c = replays-more g.M.Machine g.row.M-State.coded c.make_room.new.self
    c.step.new.self c.args.event c.push_reserved.new.self.items (search rules) (search rules)

pub returns-clause-applied : goal.returns-clause-applied
returns-clause-applied g c = stores g.M.Machine g.row.M-State.coded c.args.self.now c.make_room.new.self _ _ _
    c.make_room.ensures.same (search rules) (search rules) (search rules) (search rules) (search rules)

pub returns-clause-cost : goal.returns-clause-cost
returns-clause-cost g c = costs g.M.Machine g.row.M-State.coded c.args.self.now c.make_room.new.self _ _ _
    c.make_room.ensures.same c.step.ensures.most

pub returns-in_err-reply-clause-cost : goal.returns-in_err-reply-clause-cost
returns-in_err-reply-clause-cost g c = costs g.M.Machine g.row.M-State.coded c.args.self.now c.make_room.new.self _ _ _
    c.make_room.ensures.same c.step.ensures.most
