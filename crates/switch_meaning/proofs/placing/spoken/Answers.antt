use Rattle.std.proofs.Common.{◌∙◌, Bool}
use Rattle.of10_actions.specs.declared.effects.Out.{Out}
use Rattle.switch_meaning.specs.Placing.{is_silent}
use Rattle.switch_meaning.proofs.Writing.{more_kept, none_kept}
use Rattle.switch_meaning.proofs.placing.spoken.Goals as goal
use Rattle.switch_meaning.proofs.placing.spoken.Goals.{then-not-is_silent+in_ok-push, else-not-is_silent}

pub loop-out-preserved : goal.loop-out-preserved
loop-out-preserved c =
    let found : Out → Bool = λ o. is_silent c.args.v c.args.in_port o.dest in
    let xs = c.as_slice-out-items.result.now in
    let i = c.loop-out.out-index in
    let x = c.out-item.result in
    elim c.if-not-is_silent.branch [
      | then-not-is_silent+in_ok-push w ↦
          more_kept found xs i x c.loop-out.kept c.if-not-is_silent.kept _ c.is_silent.result c.loop-out-test.true
          c.out-item.is c.is_silent.ensures w.if-not-is_silent.true
          (w.kept-is ∙ w.in_ok-push.ensures.pushed) c.loop-out.invariant
      | else-not-is_silent w ↦
          none_kept found xs i x c.loop-out.kept c.if-not-is_silent.kept _ c.is_silent.result c.loop-out-test.true
          c.out-item.is c.is_silent.ensures w.if-not-is_silent.false w.kept-is c.loop-out.invariant
    ]
