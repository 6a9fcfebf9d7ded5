use Rattle.of10_actions.specs.declared.action.Action.TheVariants.{Output}
use Rattle.of10_actions.specs.Actions.{FitsTypes}
use Rattle.of10_actions.proofs.Prefixes.{written_more, all_more}
use Rattle.of10_actions.proofs.writing.write_actions.Goals as goal

pub loop-action-preserved : goal.loop-action-preserved
loop-action-preserved c = record {
  written = written_more c.args.into.now c.write_action.new.into c.loop-action.into c.as_slice-action-items.result.now
      c.loop-action.action-index (Output 0 0) c.loop-action-test.true c.loop-action.invariant.written
      c.in_default.ensures.written;
  types = all_more FitsTypes c.as_slice-action-items.result.now c.loop-action.action-index (Output 0 0)
      c.loop-action-test.true c.loop-action.invariant.types c.in_default.ensures.types;
}
