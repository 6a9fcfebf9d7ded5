use Rattle.std.proofs.Common.{◌≡◌, ◌++◌, drop}
use Rattle.std.specs.Prelude.{filter, not}
use Rattle.of10_actions.specs.declared.effects.Out.{Out}
use Rattle.switch_meaning.specs.Placing.{is_silent}
use Rattle.switch_meaning.proofs.placing.spoken.Given as goal

-- what was kept, and then what is kept of the outs that are left
abbrev pub invariant-loop-out : goal.invariant-loop-out
invariant-loop-out l = l.kept ++ filter (λ (o : Out). not (is_silent l.v l.in_port o.dest))
    (drop l.out-index l.out-items) ≡ filter (λ (o : Out). not (is_silent l.v l.in_port o.dest)) l.out-items
