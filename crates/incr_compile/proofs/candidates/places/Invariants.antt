use Rattle.std.proofs.Common.{◌≡◌, take}
use Rattle.incr_compile.proofs.candidates.places.Given as goal

abbrev pub invariant-loop-id : goal.invariant-loop-id
invariant-loop-id l = l.places.items ≡ take l.id-index l.ids
