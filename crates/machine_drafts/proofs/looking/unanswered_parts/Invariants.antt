use Rattle.std.proofs.Common.{◌≡◌, ◌++◌, drop}
use Rattle.std.specs.List.{flat_map}
use Rattle.machine_drafts.specs.InsideSwitches.{unanswered_among}
use Rattle.machine_drafts.specs.Outcomes.{switches_in}
use Rattle.machine_drafts.proofs.looking.unanswered_parts.Given as goal

abbrev pub invariant-loop-n : goal.invariant-loop-n
invariant-loop-n l =
    l.parts ++ flat_map (unanswered_among (switches_in l.switches)) (drop l.n-index l.numbers)
    ≡ flat_map (unanswered_among (switches_in l.switches)) l.numbers
