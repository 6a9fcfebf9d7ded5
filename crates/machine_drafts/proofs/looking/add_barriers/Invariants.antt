use Rattle.std.proofs.Common.{◌≡◌, ◌++◌, take}
use Rattle.std.specs.Prelude.{map}
use Rattle.machine_drafts.proofs.looking.add_barriers.Given as goal

abbrev pub invariant-loop-number : goal.invariant-loop-number
invariant-loop-number l =
    l.parts ≡ l.fn.parts ++ map (λ number. record { switch = l.n; number = number }) (take l.number-index l.numbers)
