use Rattle.std.proofs.Common.{refl, ap, ◌∙◌, ◌≡◌}
use Rattle.of10_actions.specs.declared.action.Action.TheVariants.{Output}
use Rattle.of10_actions.specs.Effects.{effects_of}
use Rattle.of10_actions.specs.declared.effects.Effects.{Effects}
use Rattle.of10_actions.specs.declared.effects.Tail.TheVariants.{Nothing}
use Rattle.of10_actions.proofs.Building.{set-step, out-step, at-tail, at-end, builds-up}
use Rattle.of10_actions.proofs.meaning.effects.Goals as goal
use Rattle.of10_actions.proofs.meaning.effects.Goals.{in-Output+in-Nothing+in_ok-output-in-Nothing, in_default}

pub loop-action-preserved : goal.loop-action-preserved
loop-action-preserved c =
    let whole = effects_of c.args.ports.now c.args.member c.as_slice-action-items.result.now in
    elim c.match-action.branch [
      | in-Output+in-Nothing+in_ok-output-in-Nothing w ↦
          rw w.rewrite-is (out-step c.args.ports.now c.args.member c.loop-action.rewrite c.loop-action.outs
          c.match-action.outs c.as_slice-action-items.result.now c.loop-action.action-index (Output 0 0)
          w.in-Output.port w.in-Output.max_len w.tail_at.result whole c.loop-action-test.true w.in-Output.is
          w.tail_at.ensures w.in-Nothing.is (rw w.outs-is (w.in_ok-output-in-Nothing.ensures))
          c.loop-action.invariant)
      | in_default w ↦
          rw w.outs-is (set-step c.args.ports.now c.args.member c.loop-action.rewrite c.match-action.rewrite
          c.loop-action.outs c.as_slice-action-items.result.now c.loop-action.action-index (Output 0 0) whole
          c.loop-action-test.true w.in_default.not-Output
          (rw (w.rewrite-is, w.then-rewrite.ensures, w.rewrite.ensures) refl) c.loop-action.invariant)
    ]

pub returns-in_default-tail_at : goal.returns-in_default-tail_at
returns-in_default-tail_at c =
    let actions = c.as_slice-action-items.result.now in
    let made : Effects = record { outs = c.loop-action.outs; tail = c.tail_at.result } in
    let read : made ≡ effects_of c.args.ports.now c.args.member actions =
    at-tail c.args.ports.now c.args.member c.loop-action.rewrite c.loop-action.outs actions
    c.loop-action.action-index (Output 0 0) c.in-Output.port c.in-Output.max_len c.tail_at.result
    (effects_of c.args.ports.now c.args.member actions) c.loop-action-test.true c.in-Output.is c.tail_at.ensures
    c.in_default-tail_at.not-Nothing c.loop-action.invariant in
    record {
      meaning = read ∙ ap (effects_of c.args.ports.now c.args.member) c.as_slice-action-items.ensures;
      builds_up = builds-up c.args.ports.now c.args.member actions made read;
    }

pub returns-clause-builds_up : goal.returns-clause-builds_up
returns-clause-builds_up c =
    let actions = c.as_slice-action-items.result.now in
    let made : Effects = record { outs = c.loop-action.outs; tail = Nothing } in
    builds-up c.args.ports.now c.args.member actions made
    (at-end c.args.ports.now c.args.member c.loop-action.rewrite c.loop-action.outs actions
    c.loop-action.action-index (effects_of c.args.ports.now c.args.member actions) c.loop-action-test.false
    c.loop-action.invariant)
