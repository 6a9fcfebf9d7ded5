use Rattle.std.proofs.Common.{ap, ◌∙◌, arith}
use Rattle.of10_actions.specs.declared.action.Action.TheVariants.{Output}
use Rattle.of10_actions.specs.Kinds.{length_of}
use Rattle.of10_actions.proofs.Prefixes.{length_more}
use Rattle.of10_actions.proofs.writing.list_length.Goals as goal

pub loop-action-preserved : goal.loop-action-preserved
loop-action-preserved c =
    let actions = c.as_slice-action-items.result.now in
    let i = c.loop-action.action-index in
    let span = c.from.ensures ∙ c.length.ensures ∙ ap length_of c.kind.ensures in
    let more = length_more actions i (Output 0 0) c.loop-action-test.true in
    omega (arith, span, more, c.saturating_add-total.ensures, c.loop-action.invariant)
