use Rattle.std.proofs.Common.{◌≡◌, map, take}
use Rattle.exact_gate.specs.InsideChanges.{touched_of}
use Rattle.exact_gate.proofs.delta.with_before.Given as goal

-- the keys so far
abbrev pub invariant-loop-key : goal.invariant-loop-key
invariant-loop-key l = l.list ≡ map (touched_of l.pool) (take l.key-index l.keys)
