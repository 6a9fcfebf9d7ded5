use Rattle.std.proofs.Common.{take}
use Rattle.install_plan.specs.InsideBest.{Leads, candidates}
use Rattle.install_plan.proofs.choosing.first_among.Given as goal

abbrev pub invariant-loop-key : goal.invariant-loop-key
invariant-loop-key l = Leads (candidates l.slots.entries l.header (take l.key-index l.keys)) l.first
