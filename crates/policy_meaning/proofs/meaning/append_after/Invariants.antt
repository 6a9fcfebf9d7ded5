use Rattle.std.proofs.Common.{◌≡◌, ◌++◌, take}
use Rattle.std.specs.Prelude.{map}
use Rattle.policy_meaning.specs.Meaning.{out_after}
use Rattle.policy_meaning.proofs.meaning.append_after.Given as goal

abbrev pub invariant-loop-out : goal.invariant-loop-out
invariant-loop-out l = l.outs ≡ l.fn.outs ++ map (out_after l.rewrite) (take l.out-index l.more)
