use Rattle.std.proofs.Common.{◌≡◌, ◌++◌, take}
use Rattle.of10_actions.specs.declared.effects.Tail.TheVariants.{Pass}
use Rattle.policy_meaning.specs.Rules.{chains_by}
use Rattle.policy_meaning.proofs.composing.add_passed.Given as goal

abbrev pub invariant-loop-b : goal.invariant-loop-b
invariant-loop-b l = l.rules ≡ l.fn.rules ++ chains_by (Pass l.rewrite) l.size (take l.b-index l.b-items) l.a
