use Rattle.std.proofs.Common.{◌≡◌}
use Rattle.event_ends.specs.Boxes.{put_letters}
use Rattle.event_ends.proofs.boxes.say_all.Given as goal

abbrev pub invariant-loop-letter : goal.invariant-loop-letter
invariant-loop-letter g l = l.all.items ≡ put_letters l.yielded l.fn.all.items
