use Rattle.std.proofs.Common.{ap, ◌∙◌}
use Rattle.stats_map.specs.Pending.{ended_now}
use Rattle.stats_map.specs.Told.{HeldOf, told}
use Rattle.stats_map.proofs.overlay.Overlay.end.Goals as goal

pub returns-clause-ended : goal.returns-clause-ended
returns-clause-ended c = c.end_drawn.ensures.ended
    ∙ ap (λ (h : HeldOf). ended_now c.args.place.now (told h)) c.draw_place.ensures.same
