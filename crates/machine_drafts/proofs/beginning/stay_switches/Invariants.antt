use Rattle.std.proofs.Common.{◌≡◌, map, take}
use Rattle.machine_drafts.specs.SwitchDrafts.{standing_switch}
use Rattle.machine_drafts.proofs.beginning.stay_switches.Given as goal

abbrev pub invariant-loop-switch : goal.invariant-loop-switch
invariant-loop-switch l = l.drafts ≡ map standing_switch (take l.switch-index l.switches)
