use Rattle.std.proofs.Common.{◌≡◌, ◌+◌, ◌<◌, ◌++◌, ◌||◌, length, map, vec_capacity}
use Rattle.std.specs.List.{list_any}
use Rattle.serving.specs.Works.{failed_of, pass_of, wanted_of}
use Rattle.serving.proofs.gathering.gather.Given as goal

abbrev pub invariant-loop-task : goal.invariant-loop-task
invariant-loop-task g l = record {
  seats : l.seats.items ++ map pass_of l.tasks.items ≡ map pass_of l.fn.tasks;
  room : length l.seats.items + length l.tasks.items < vec_capacity l.seats;
  failed : (l.failed || list_any failed_of l.tasks.items) ≡ list_any failed_of l.fn.tasks;
  wanted : (l.wanted || list_any wanted_of l.tasks.items) ≡ list_any wanted_of l.fn.tasks;
}

abbrev pub decreases-loop-task : goal.decreases-loop-task
decreases-loop-task g l = length l.tasks.items
