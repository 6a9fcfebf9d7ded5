use Rattle.std.proofs.Common.{◌≡◌, ◌≤◌, ◌+◌, [], length}
use Rattle.script_text.specs.declared.form.Form.TheVariants.{Replay}
use Rattle.replay_report.specs.Players.{form_of, is_ready, plan_of, reported}
use Rattle.replay_report.specs.Making.{after_lines, lines_steps, tally_of}
use Rattle.replay_report.proofs.making.play_lines.Given as goal

-- what is done, and then the lines that are left
abbrev pub invariant-loop-line : goal.invariant-loop-line
invariant-loop-line g l = record {
  tally : after_lines (plan_of l.player) (tally_of l.player l.counts) l.script
      ≡ after_lines (plan_of l.initial.player) (tally_of l.initial.player l.initial.counts) l.initial.script;
  plan : plan_of l.player ≡ plan_of l.initial.player;
  form : form_of l.player ≡ Replay;
  report : reported l.player ≡ [];
  ready : is_ready l.player;
  steps : l.steps + lines_steps (plan_of l.player) (tally_of l.player l.counts) l.script
      ≤ l.initial.steps
      + lines_steps (plan_of l.initial.player) (tally_of l.initial.player l.initial.counts) l.initial.script;
}

abbrev pub decreases-loop-line : goal.decreases-loop-line
decreases-loop-line g l = length l.script
