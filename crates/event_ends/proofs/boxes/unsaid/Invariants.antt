use Rattle.std.proofs.Common.{◌≡◌}
use Rattle.event_ends.specs.Boxes.{unaddressed}
use Rattle.event_ends.proofs.boxes.unsaid.Given as goal

abbrev pub invariant-loop-draft : goal.invariant-loop-draft
invariant-loop-draft g l = l.all.items ≡ unaddressed l.yielded
