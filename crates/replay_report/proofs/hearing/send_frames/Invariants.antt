use Rattle.std.proofs.Common.{◌≡◌, ◌≤◌, ◌+◌, ◌++◌, length, true}
use Rattle.machine_drafts.specs.Machines.{state_of}
use Rattle.replay_report.specs.Cuts.{frames_of, rest_of}
use Rattle.replay_report.specs.Playing.{sends}
use Rattle.replay_report.proofs.hearing.send_frames.Given as goal

-- what is reported so far, and then of the frames that are left
abbrev pub invariant-loop-frame : goal.invariant-loop-frame
invariant-loop-frame g l = record {
  report : l.stage.report ++ (sends l.stage.machine.plan l.who (frames_of l.framer) (state_of l.stage.machine)).text
      ≡ l.initial.stage.report
      ++ (sends l.initial.stage.machine.plan l.who (frames_of l.initial.framer)
      (state_of l.initial.stage.machine)).text;
  state : (sends l.stage.machine.plan l.who (frames_of l.framer) (state_of l.stage.machine)).state
      ≡ (sends l.initial.stage.machine.plan l.who (frames_of l.initial.framer)
      (state_of l.initial.stage.machine)).state;
  plan : l.stage.machine.plan ≡ l.initial.stage.machine.plan;
  names : l.stage.names ≡ l.initial.stage.names;
  rest : rest_of l.framer ≡ rest_of l.initial.framer;
  compiled : l.stage.machine.compiled ≡ true;
  steps : l.steps + (sends l.stage.machine.plan l.who (frames_of l.framer) (state_of l.stage.machine)).steps
      ≤ l.initial.steps + (sends l.initial.stage.machine.plan l.who (frames_of l.initial.framer)
      (state_of l.initial.stage.machine)).steps;
}

abbrev pub decreases-loop-frame : goal.decreases-loop-frame
decreases-loop-frame g l = length (frames_of l.framer)
