use Rattle.std.proofs.Common.{rules, refl}
use Rattle.policy_lock.proofs.Holds.{never_away, seated_still, taken_since, back_again}
use Rattle.policy_lock.proofs.lock.PolicyLock.take_for.Goals as goal

pub loop-turns-init : goal.loop-turns-init
loop-turns-init g c = (refl, refl, never_away g.M.Machine _ _ c.requires.free.1 refl)

pub take-word-requires-clause-free : goal.take-word-requires-clause-free
take-word-requires-clause-free g c κs within = let b = c.loop-turns.invariant.2 in
    (seated_still g.M.Machine _ _ b c.requires.free.0, b.empty)

pub returns-then-not-holds-clause-taken : goal.returns-then-not-holds-clause-taken
returns-then-not-holds-clause-taken g c =
    taken_since g.M.Machine _ _ c.loop-turns.invariant.2 _ _ _ c.take-word.ensures.taken

pub loop-turns-preserved : goal.loop-turns-preserved
loop-turns-preserved g c = (
  search rules,
  search rules,
  back_again g.M.Machine _ _ c.loop-turns.invariant.2 _ _ _ c.take-word.ensures.taken _ c.give_back.ensures.back,
)

pub take-requires-clause-free : goal.take-requires-clause-free
take-requires-clause-free g c κs within = let b = c.loop-turns.invariant.2 in
    (seated_still g.M.Machine _ _ b c.requires.free.0, b.empty)

pub returns-clause-taken : goal.returns-clause-taken
returns-clause-taken g c = taken_since g.M.Machine _ _ c.loop-turns.invariant.2 _ _ _ c.take.ensures.taken
