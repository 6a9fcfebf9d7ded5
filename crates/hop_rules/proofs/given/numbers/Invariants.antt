use Rattle.std.proofs.Common.{◌≡◌, take}
use Rattle.hop_rules.proofs.given.numbers.Given as goal

abbrev pub invariant-loop-id : goal.invariant-loop-id
invariant-loop-id l = l.numbers.items ≡ take l.id-index l.ids
