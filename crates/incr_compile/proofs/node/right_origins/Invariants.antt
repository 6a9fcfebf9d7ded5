use Rattle.std.proofs.Common.{◌≡◌, map, take}
use Rattle.incr_compile.specs.Ways.{right_origin}
use Rattle.incr_compile.proofs.node.right_origins.Given as goal

abbrev pub invariant-loop-id : goal.invariant-loop-id
invariant-loop-id l = l.origins.items ≡ map right_origin (take l.id-index l.ids)
