use Rattle.std.proofs.Common.{◌≡◌, take}
use Rattle.std.specs.Prelude.{flat_map}
use Rattle.exact_gate.specs.Finding.{keys_found}
use Rattle.exact_gate.proofs.finder.keys_of.Given as goal

-- the keys under the numbers so far
abbrev pub invariant-loop-id : goal.invariant-loop-id
invariant-loop-id l = l.keys ≡ flat_map (keys_found l.index.items l.priority) (take l.id-index l.id-items)
