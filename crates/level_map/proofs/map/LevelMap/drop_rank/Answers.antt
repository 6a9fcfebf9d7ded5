use Rattle.std.proofs.Common.{◌∙◌, ap, subst}
use Rattle.level_map.specs.Levels.{Levels, FollowsRanks, level_of}
use Rattle.level_map.specs.Placing.{dropping}
use Rattle.level_map.proofs.Rising.{ranks_of_rising}
use Rattle.level_map.proofs.Removing.{removed, removed_rising}
use Rattle.level_map.proofs.Properties.{follows, dropped_absent, dropped_others}
use Rattle.level_map.proofs.map.LevelMap.drop_rank.Goals as goal

pub search-requires : goal.search-requires
search-requires c = rw c.deref.ensures.value (ranks_of_rising 0 2 _ _ c.self.invariant.rising)

pub invariant_of-self : goal.invariant_of-self
invariant_of-self c = record {
  size_from = c.self.invariant.size_from;
  size_to = c.self.invariant.size_to;
  rising = rw c.remove.ensures.items
      (removed_rising c.self.inside.size c.args.rank c.in-Ok.at _ c.self.invariant.rising
      (rw c.deref.ensures.value at c.in-Ok.ensures.found));
}

pub returns-in-Ok-clause-dropped : goal.returns-in-Ok-clause-dropped
returns-in-Ok-clause-dropped c =
    rw (c.remove.ensures.items, removed c.args.rank c.in-Ok.at _ (rw c.deref.ensures.value at c.in-Ok.ensures.found))
    (ap (λ (m : Levels). dropping m c.args.rank) c.self.view_is)

pub returns-in-Ok-clause-absent : goal.returns-in-Ok-clause-absent
returns-in-Ok-clause-absent c = ap (λ (m : Levels). level_of m c.args.rank) (returns-in-Ok-clause-dropped c)
    ∙ dropped_absent c.args.self.now c.args.rank

pub returns-in-Ok-clause-others : goal.returns-in-Ok-clause-others
returns-in-Ok-clause-others c q other = ap (λ (m : Levels). level_of m q) (returns-in-Ok-clause-dropped c)
    ∙ dropped_others c.args.self.now c.args.rank q other

pub returns-in-Ok-clause-orderly : goal.returns-in-Ok-clause-orderly
returns-in-Ok-clause-orderly c = follows (record { size = c.self.inside.size; ranked = c.remove.new.self.items })
    (invariant_of-self c).rising

pub returns-in_default-clause-orderly : goal.returns-in_default-clause-orderly
returns-in_default-clause-orderly c = subst FollowsRanks c.self.view_is
    (follows (record { size = c.self.inside.size; ranked = c.self.inside.ranked.items }) c.self.invariant.rising)
