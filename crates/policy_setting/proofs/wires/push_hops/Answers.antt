use Rattle.std.proofs.Common.{◌∙◌, ◌++◌, sym, ap, append_assoc}
use Rattle.std.specs.Prelude.{filter_map, option_to_list}
use Rattle.std.specs.List.{range_with_len}
use Rattle.policy_setting.specs.Wirings.{hop}
use Rattle.policy_setting.proofs.Growing.{filter_next}
use Rattle.policy_setting.proofs.wires.push_hops.Goals as goal

pub loop-to-preserved : goal.loop-to-preserved
loop-to-preserved c =
    let f = hop c.args.paths.now c.args.from in
    let before = filter_map f (range_with_len 0 c.loop-to.to) in
    c.in_ok-push_some.ensures.pushed
    ∙ (ap (λ hs. hs ++ option_to_list c.hop_between.result) c.loop-to.invariant
    ∙ (append_assoc c.args.hops.now before (option_to_list c.hop_between.result)
    ∙ ap (λ hs. c.args.hops.now ++ hs) (ap (λ o. before ++ option_to_list o) c.hop_between.ensures
    ∙ sym (filter_next f c.loop-to.to))))
