use Rattle.std.proofs.Common.{◌≡◌, take}
use Rattle.incr_compile.specs.Ways.{without_ids}
use Rattle.incr_compile.proofs.telling.copies_of.Given as goal

abbrev pub invariant-loop-old : goal.invariant-loop-old
invariant-loop-old l = l.rules.items ≡ without_ids (take l.old-index l.olds)
