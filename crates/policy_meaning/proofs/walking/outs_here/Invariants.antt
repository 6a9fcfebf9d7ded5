use Rattle.std.proofs.Common.{◌≡◌, take}
use Rattle.std.specs.Prelude.{filter_map}
use Rattle.of10_actions.specs.declared.effects.Out.{Out}
use Rattle.policy_meaning.specs.Walk.{port_out as port_out_of}
use Rattle.policy_meaning.proofs.walking.outs_here.Given as goal

abbrev pub invariant-loop-out : goal.invariant-loop-out
invariant-loop-out l = l.left ≡ filter_map (λ (out : Out). port_out_of l.v l.in_port out.rewrite out.dest)
    (take l.out-index l.out-items)
