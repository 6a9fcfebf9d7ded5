use Rattle.std.specs.Arc.{arc_value}
use Rattle.hyper_core.proofs.Stepped.{held_copied}
use Rattle.hyper_core.proofs.hyper.Hyper.copy.Goals as goal

pub invariant_of-result : goal.invariant_of-result
invariant_of-result c =
    held_copied (arc_value c.self.inside.setup) (arc_value c.in_ok-setup.setup) c.self.inside.held c.in-Ok.held
    c.self.inside.composed c.in_ok-setup.ensures c.in-Ok.ensures c.self.invariant
