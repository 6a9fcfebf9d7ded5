use Rattle.place_rules.specs.Joined.{hop_from}
use Rattle.place_rules.proofs.Looked.{hops_more}
use Rattle.std.proofs.Common.{◌++◌, ◌∙◌, ap}
use Rattle.std.specs.Prelude.{option_to_list}
use Rattle.place_rules.proofs.joining.push_hops.Goals as goal

pub loop-to-preserved : goal.loop-to-preserved
loop-to-preserved c =
    hops_more (hop_from c.args.paths.now c.args.from) c.args.list.now c.loop-to.list c.push_some.new.self c.loop-to.to
    c.loop-to.invariant
    (c.in_ok-push_some.ensures.pushed ∙ ap (λ o. c.loop-to.list ++ option_to_list o) c.hop_of.ensures)
