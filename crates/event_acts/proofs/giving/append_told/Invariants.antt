use Rattle.std.proofs.Common.{◌≡◌, ◌++◌, take}
use Rattle.std.specs.Prelude.{map}
use Rattle.of10_actions.specs.Rewriting.{and_then}
use Rattle.policy_meaning.specs.declared.walking.Told.{Told}
use Rattle.event_acts.proofs.giving.append_told.Given as goal

abbrev pub invariant-loop-one : goal.invariant-loop-one
invariant-loop-one l =
    l.told
    ≡ l.fn.told ++ map (λ (t : Told). record t { rewrite = and_then l.rewrite t.rewrite }) (take l.one-index l.more)
