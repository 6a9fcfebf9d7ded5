use Rattle.std.proofs.Common.{◌∙◌, ◌++◌, sym, ap}
use Rattle.std.specs.Prelude.{filter_map}
use Rattle.std.specs.List.{range_with_len}
use Rattle.policy_setting.specs.Wirings.{hop}
use Rattle.policy_setting.proofs.Growing.{flat_next}
use Rattle.policy_setting.proofs.wires.hops.Goals as goal

pub loop-from-preserved : goal.loop-from-preserved
loop-from-preserved c =
    c.in_ok-push_hops.ensures
    ∙ (ap (λ hs. hs ++ filter_map (hop c.args.paths.now c.loop-from.from) (range_with_len 0 c.args.count))
    c.loop-from.invariant
    ∙ sym (flat_next (λ from. filter_map (hop c.args.paths.now from) (range_with_len 0 c.args.count)) c.loop-from.from))
