use Rattle.std.proofs.Common.{◌≡◌, ◌++◌, take}
use Rattle.std.specs.Prelude.{map}
use Rattle.of10_actions.specs.Rewriting.{and_then}
use Rattle.policy_meaning.specs.declared.walking.Told.{Told}
use Rattle.policy_meaning.proofs.walking.append_told.Given as goal

abbrev pub invariant-loop-one : goal.invariant-loop-one
invariant-loop-one l = l.told ≡ l.fn.told
    ++ map (λ (one : Told). record one { rewrite = and_then l.rewrite one.rewrite }) (take l.one-index l.more)
