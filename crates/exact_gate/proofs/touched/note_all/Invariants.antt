use Rattle.std.proofs.Common.{◌≡◌, ◌||◌, take}
use Rattle.exact_gate.specs.InsideChanges.{noted}
use Rattle.exact_gate.specs.declared.key.Key.{Key}
use Rattle.exact_gate.proofs.touched.note_all.Given as goal

-- the keys so far
abbrev pub invariant-loop-key : goal.invariant-loop-key
invariant-loop-key l = (k : Key)
    → noted l.keys.keys k ≡ (noted l.initial.keys.keys k || noted (take l.key-index l.key-items) k)
