use Rattle.std.proofs.Common.{◌∙◌}
use Rattle.stats_map.proofs.Making.{take-next}
use Rattle.stats_map.proofs.rooms.take_out.Goals as goal

pub loop-key-preserved : goal.loop-key-preserved
loop-key-preserved g c =
    take-next g.met.K.Ord.total c.loop-key.made.items c.pop.new.self.items c.in-Some.key c.loop-key.map.entries
    c.remove.new.self.entries c.in-Some.ensures.items c.remove.ensures.entries ∙ c.loop-key.invariant

pub loop-key-preserved-in-Some : goal.loop-key-preserved-in-Some
loop-key-preserved-in-Some g c =
    take-next g.met.K.Ord.total c.loop-key.made.items c.pop.new.self.items c.in-Some.key c.loop-key.map.entries
    c.remove.new.self.entries c.in-Some.ensures.items c.remove.ensures.entries ∙ c.loop-key.invariant
