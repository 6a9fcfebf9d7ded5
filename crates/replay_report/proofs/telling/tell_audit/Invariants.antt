use Rattle.std.proofs.Common.{◌≡◌, ◌≤◌, ◌++◌, length, true}
use Rattle.cv_io.specs.declared.leaf.Who.TheVariants.{Audit}
use Rattle.machine_drafts.specs.Machines.{state_of}
use Rattle.replay_report.specs.Takings.{audit_lines, emptied, waits_for}
use Rattle.replay_report.proofs.telling.tell_audit.Given as goal

abbrev pub invariant-loop-line : goal.invariant-loop-line
invariant-loop-line g l = record {
  report : l.report ++ audit_lines (waits_for (state_of l.machine) Audit)
      ≡ l.initial.report ++ audit_lines (waits_for (state_of l.initial.machine) Audit);
  state : emptied Audit (state_of l.machine) ≡ emptied Audit (state_of l.initial.machine);
  plan : l.machine.plan ≡ l.initial.machine.plan;
  compiled : l.machine.compiled ≡ true;
  steps : l.steps ≤ l.initial.steps;
}

abbrev pub decreases-loop-line : goal.decreases-loop-line
decreases-loop-line g l = length (waits_for (state_of l.machine) Audit)
