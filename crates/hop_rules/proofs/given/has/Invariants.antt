use Rattle.std.proofs.Common.{◌≡◌, ◌==◌, drop}
use Rattle.std.specs.List.{list_any}
use Rattle.hop_rules.proofs.given.has.Given as goal

abbrev pub invariant-loop-other : goal.invariant-loop-other
invariant-loop-other l = list_any (λ j. l.id == j) (drop l.other-index l.ids) ≡ list_any (λ j. l.id == j) l.ids
