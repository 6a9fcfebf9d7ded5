use Rattle.std.proofs.Common.{◌∙◌, ◌++◌, None, ap₂, sym}
use Rattle.of10_actions.specs.Rewriting.{no_rewrite}
use Rattle.place_rules.specs.InsideActions.{copy_if}
use Rattle.place_rules.specs.Joined.{wiring_of}
use Rattle.place_rules.proofs.Acting.{kept_actions, kept_tells}
use Rattle.place_rules.proofs.actions.actions_of.Goals as goal

pub returns : goal.returns
returns c =
    let w = wiring_of c.args.topology.now in
    let outs = c.args.outs.now in
    c.in_ok-push_outs.ensures
    ∙ ap₂ (λ xs ys. xs ++ ys)
    (c.in_ok-push_copy.ensures ∙ ap₂ (λ xs told. xs ++ copy_if told) c.new-actions.ensures
    (c.tells.ensures ∙ sym (kept_tells w c.args.site c.args.in_port c.args.ingress outs)))
    (kept_actions w c.args.site c.args.in_port c.args.ingress outs no_rewrite None)
