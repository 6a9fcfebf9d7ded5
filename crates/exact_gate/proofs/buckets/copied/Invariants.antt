use Rattle.std.proofs.Common.{◌≡◌, take}
use Rattle.exact_gate.proofs.buckets.copied.Given as goal

-- copies of the first ones
abbrev pub invariant-loop-place : goal.invariant-loop-place
invariant-loop-place l = l.copied.entries ≡ take l.place l.buckets.entries
