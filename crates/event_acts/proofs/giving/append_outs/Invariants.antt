use Rattle.std.proofs.Common.{◌≡◌, ◌++◌, take}
use Rattle.std.specs.Prelude.{map}
use Rattle.of10_actions.specs.Rewriting.{and_then}
use Rattle.policy_meaning.specs.declared.walking.PortOut.{PortOut}
use Rattle.event_acts.proofs.giving.append_outs.Given as goal

abbrev pub invariant-loop-out : goal.invariant-loop-out
invariant-loop-out l =
    l.outs
    ≡ l.fn.outs ++ map (λ (o : PortOut). record o { rewrite = and_then l.rewrite o.rewrite }) (take l.out-index l.more)
