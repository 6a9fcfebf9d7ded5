use Rattle.std.proofs.Common.{◌≡◌, take}
use Rattle.std.specs.Prelude.{flat_map}
use Rattle.install_plan.specs.InsideFinder.{keys_under}
use Rattle.install_plan.proofs.finder.keys_of.Given as goal

-- the keys under the numbers so far
abbrev pub invariant-loop-number : goal.invariant-loop-number
invariant-loop-number l = l.keys ≡ flat_map (keys_under l.index.items) (take l.number-index l.number-items)
