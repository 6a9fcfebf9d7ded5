use Rattle.std.proofs.Common.{◌≡◌, ◌∙◌, None, subst, arith}
use Rattle.std.proofs.lemmas.Result.{IfOk-weaker}
use Rattle.level_map.specs.Levels.{Levels, FollowsRanks, level_of}
use Rattle.level_map.proofs.Rising.{ranks_of_rising}
use Rattle.level_map.proofs.Inserting.{room_taken}
use Rattle.level_map.proofs.Properties.{follows, level_answered, others_kept, placing_absent}
use Rattle.level_map.proofs.map.LevelMap.place.Goals as goal

pub search-requires : goal.search-requires
search-requires c = rw c.deref.ensures.value (ranks_of_rising 0 2 _ _ c.self.invariant.rising)

pub returns-in-Ok-clause-orderly : goal.returns-in-Ok-clause-orderly
returns-in-Ok-clause-orderly c = subst FollowsRanks c.self.view_is
    (follows (record { size = c.self.inside.size; ranked = c.self.inside.ranked.items }) c.self.invariant.rising)

pub overflow_cast-ranks : goal.overflow_cast-ranks
overflow_cast-ranks c =
    let taken = room_taken 0 2 c.self.inside.size c.self.inside.ranked.items c.self.invariant.rising
    (omega (arith, c.self.invariant.size_from)) in
    omega (arith, taken, c.self.invariant.size_to)

pub returns-then-ranks-limit-clause-orderly : goal.returns-then-ranks-limit-clause-orderly
returns-then-ranks-limit-clause-orderly c =
    subst FollowsRanks c.self.view_is
    (follows (record { size = c.self.inside.size; ranked = c.self.inside.ranked.items }) c.self.invariant.rising)

pub place_new-requires-clause-room : goal.place_new-requires-clause-room
place_new-requires-clause-room c =
    let taken = room_taken 0 2 c.self.inside.size c.self.inside.ranked.items c.self.invariant.rising
    (omega (arith, c.self.invariant.size_from)) in
    omega (arith, taken, c.self.invariant.size_from)

pub returns-clause-level : goal.returns-clause-level
returns-clause-level c =
    let m : Levels = record { size = c.self.inside.size; ranked = c.self.inside.ranked.items } in
    let absent : level_of m c.args.rank ≡ None = (rw c.deref.ensures.value at c.in-Err.ensures.absent).absent in
    IfOk-weaker c.place_new.result _ _
    (λ placed done. level_answered m _ c.args.rank placed (placing_absent m c.args.rank absent ∙ done))
    c.place_new.ensures.placed

pub returns-clause-others : goal.returns-clause-others
returns-clause-others c =
    let m : Levels = record { size = c.self.inside.size; ranked = c.self.inside.ranked.items } in
    let absent : level_of m c.args.rank ≡ None = (rw c.deref.ensures.value at c.in-Err.ensures.absent).absent in
    rw (← c.self.view_is)
    (IfOk-weaker c.place_new.result _ _
    (λ placed done. others_kept m _ c.args.rank placed (placing_absent m c.args.rank absent ∙ done))
    c.place_new.ensures.placed)

pub returns-clause-orderly : goal.returns-clause-orderly
returns-clause-orderly c = follows (record { size = c.self.inside.size; ranked = c.place_new.new.ranked.items })
    c.place_new.ensures.rising
