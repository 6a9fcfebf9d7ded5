use Rattle.std.proofs.Common.{◌≡◌, take}
use Rattle.machine_drafts.specs.Outcomes.{switches_in}
use Rattle.machine_meaning.specs.Settings.{ups_with}
use Rattle.machine_drafts.proofs.settings.ups.Given as goal

abbrev pub invariant-loop-switch : goal.invariant-loop-switch
invariant-loop-switch l = l.ups ≡ ups_with (switches_in (take l.switch-index l.switches))
