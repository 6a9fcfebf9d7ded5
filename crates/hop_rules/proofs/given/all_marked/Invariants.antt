use Rattle.std.proofs.Common.{◌≡◌, take}
use Rattle.hop_rules.proofs.given.all_marked.Given as goal

abbrev pub invariant-loop-rule : goal.invariant-loop-rule
invariant-loop-rule l = l.marked.items ≡ take l.rule-index l.rules
