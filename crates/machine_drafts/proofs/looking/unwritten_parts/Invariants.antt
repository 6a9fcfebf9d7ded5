use Rattle.std.proofs.Common.{◌≡◌, ◌++◌, drop}
use Rattle.std.specs.Prelude.{filter, map}
use Rattle.machine_drafts.specs.InsideSwitches.{is_up_among}
use Rattle.machine_drafts.specs.Outcomes.{switches_in}
use Rattle.waitings.specs.Waitings.{unwritten}
use Rattle.machine_drafts.proofs.looking.unwritten_parts.Given as goal

abbrev pub invariant-loop-n : goal.invariant-loop-n
invariant-loop-n l =
    l.parts ++ map unwritten (filter (is_up_among (switches_in l.switches)) (drop l.n-index l.numbers))
    ≡ map unwritten (filter (is_up_among (switches_in l.switches)) l.numbers)
