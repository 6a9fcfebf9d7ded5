use Rattle.std.proofs.Common.{◌≡◌, take}
use Rattle.of10_match.specs.Matching.{at_port}
use Rattle.std.specs.Prelude.{filter_map}
use Rattle.policy_meaning.specs.LeafRules.{rule_met}
use Rattle.policy_meaning.proofs.fabric.met_at.Given as goal

abbrev pub invariant-loop-rule : goal.invariant-loop-rule
invariant-loop-rule l = l.met ≡ filter_map (λ a. rule_met a (at_port l.port)) (take l.rule-index l.rule-items)
