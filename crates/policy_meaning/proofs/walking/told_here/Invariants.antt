use Rattle.std.proofs.Common.{◌≡◌, take}
use Rattle.std.specs.Prelude.{filter_map}
use Rattle.of10_actions.specs.declared.effects.Out.{Out}
use Rattle.policy_meaning.specs.Walk.{telling as telling_of}
use Rattle.policy_meaning.proofs.walking.told_here.Given as goal

abbrev pub invariant-loop-out : goal.invariant-loop-out
invariant-loop-out l = l.told ≡ filter_map (λ (out : Out). telling_of l.in_port out.rewrite out.dest)
    (take l.out-index l.out-items)
