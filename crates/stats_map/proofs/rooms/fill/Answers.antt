use Rattle.std.proofs.Common.{ap, ◌∙◌}
use Rattle.std.specs.Prelude.{Some}
use Rattle.stats_map.proofs.Making.{fill-next, fill-room}
use Rattle.stats_map.proofs.rooms.fill.Goals as goal

pub put-requires : goal.put-requires
put-requires g c = λ v e. c.loop-last.invariant.1 c.in-Some.last.0 v (c.in-Some.ensures.value ∙ ap Some e)

pub loop-last-preserved : goal.loop-last-preserved
loop-last-preserved g c = (
  fill-next g.met.K.Ord.total c.loop-last.slots.entries c.pop_last.new.self.entries c.in-Some.last.0 c.in-Some.last.1
      c.loop-last.map.entries c.put.new.map.entries c.in-Some.ensures.removal c.put.ensures ∙ c.loop-last.invariant.0,
  fill-room g.met.K.Ord.total c.loop-last.slots.entries c.pop_last.new.self.entries c.in-Some.last.0 c.in-Some.last.1
      c.loop-last.map.entries c.put.new.map.entries c.in-Some.ensures.removal c.put.ensures c.in-Some.ensures.updates.0
      c.loop-last.invariant.1,
)
