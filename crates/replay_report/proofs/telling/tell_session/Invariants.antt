use Rattle.std.proofs.Common.{◌≡◌, ◌≤◌, ◌++◌, length, true}
use Rattle.machine_drafts.specs.Machines.{state_of}
use Rattle.replay_report.specs.Takings.{emptied, message_lines, waits_for}
use Rattle.replay_report.proofs.telling.tell_session.Given as goal

abbrev pub invariant-loop-message : goal.invariant-loop-message
invariant-loop-message g l = record {
  report : l.report ++ message_lines l.session.name (waits_for (state_of l.machine) l.session.who)
      ≡ l.initial.report ++ message_lines l.session.name (waits_for (state_of l.initial.machine) l.session.who);
  state : emptied l.session.who (state_of l.machine) ≡ emptied l.session.who (state_of l.initial.machine);
  plan : l.machine.plan ≡ l.initial.machine.plan;
  compiled : l.machine.compiled ≡ true;
  steps : l.steps ≤ l.initial.steps;
}

abbrev pub decreases-loop-message : goal.decreases-loop-message
decreases-loop-message g l = length (waits_for (state_of l.machine) l.session.who)
