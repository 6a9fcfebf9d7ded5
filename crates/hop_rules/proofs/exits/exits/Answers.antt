use Rattle.std.proofs.Common.{◌∙◌, ap, ◌++◌, sym, arith}
use Rattle.std.specs.Prelude.{filter_map, option_to_list}
use Rattle.hop_rules.specs.Links.{exit_at}
use Rattle.match_index.proofs.Lists.{got_same}
use Rattle.hop_rules.proofs.Numbered.{numbered_kept}
use Rattle.virtual_topology.proofs.Steps.{numbered_all}
use Rattle.hop_rules.proofs.exits.exits.Goals as goal

pub loop-place-preserved : goal.loop-place-preserved
loop-place-preserved c =
    c.in_ok-push_some.ensures.pushed
    ∙ ((λ i. c.loop-place.invariant i ++ option_to_list (c.exit_at.ensures i))
    ∙ sym (numbered_kept (exit_at c.args.v) c.args.ends.now c.loop-place.place _ c.loop-place-test.true
    (got_same c.args.ends.now c.loop-place.place _ _ c.loop-place-test.true)))

pub returns : goal.returns
returns c = c.loop-place.invariant ∙ ap (filter_map (exit_at c.args.v))
    (numbered_all c.args.ends.now c.loop-place.place (omega (arith, c.loop-place-test.false)))
