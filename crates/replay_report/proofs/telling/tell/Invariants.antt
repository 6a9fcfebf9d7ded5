use Rattle.std.proofs.Common.{◌≡◌, ◌≤◌, ◌++◌, drop, true}
use Rattle.machine_drafts.specs.Machines.{state_of}
use Rattle.replay_report.specs.Takings.{takes_all, takes_of}
use Rattle.replay_report.proofs.telling.tell.Given as goal

-- what is told so far, and then of the sessions that are left
abbrev pub invariant-loop-session : goal.invariant-loop-session
invariant-loop-session g l = record {
  report : l.report ++ (takes_of (drop l.session-index l.names) (state_of l.machine)).text
      ≡ l.fn.report ++ (takes_all l.names (state_of l.fn.machine)).text;
  state : (takes_of (drop l.session-index l.names) (state_of l.machine)).state
      ≡ (takes_all l.names (state_of l.fn.machine)).state;
  plan : l.machine.plan ≡ l.fn.machine.plan;
  compiled : l.machine.compiled ≡ true;
  steps : l.steps ≤ l.fn.steps;
}
