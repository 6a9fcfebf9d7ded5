use Rattle.std.proofs.Common.{◌≡◌, take}
use Rattle.std.specs.Prelude.{flat_map}
use Rattle.exact_gate.specs.InsideChanges.{left_of}
use Rattle.exact_gate.proofs.delta.left.Given as goal

-- the entries of the keys so far
abbrev pub invariant-loop-one : goal.invariant-loop-one
invariant-loop-one l = l.list ≡ flat_map (left_of l.pool) (take l.one-index l.one-items)
