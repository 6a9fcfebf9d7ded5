use Rattle.std.proofs.Common.{◌≡◌, map, take}
use Rattle.incr_compile.specs.Ways.{left_origin}
use Rattle.incr_compile.proofs.node.left_origins.Given as goal

abbrev pub invariant-loop-id : goal.invariant-loop-id
invariant-loop-id l = l.origins.items ≡ map left_origin (take l.id-index l.ids)
