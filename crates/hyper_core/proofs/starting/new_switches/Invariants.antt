use Rattle.std.proofs.Common.{◌≡◌, map, take}
use Rattle.machine_meaning.specs.States.{new_switch, nothing_stands}
use Rattle.machine_drafts.specs.Views.{standing_of, switch_of}
use Rattle.hyper_core.proofs.starting.new_switches.Given as goal

abbrev pub invariant-loop-item : goal.invariant-loop-item
invariant-loop-item l = record {
  sessions : map switch_of l.switches ≡ map new_switch (take l.item-index l.items);
  standing : map standing_of l.switches ≡ map nothing_stands (take l.item-index l.items);
}
