use Rattle.std.proofs.Common.{◌≡◌, take}
use Rattle.std.specs.Prelude.{filter_map}
use Rattle.of10_actions.specs.declared.effects.Out.{Out}
use Rattle.policy_meaning.specs.Hops.{out_at}
use Rattle.policy_meaning.proofs.hops.outs_at.Given as goal

abbrev pub invariant-loop-out : goal.invariant-loop-out
invariant-loop-out l = l.kept ≡ filter_map (λ (out : Out). out_at l.v l.port out.rewrite out.dest)
    (take l.out-index l.out-items)
