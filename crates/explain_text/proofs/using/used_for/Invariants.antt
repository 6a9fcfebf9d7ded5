use Rattle.std.proofs.Common.{◌≡◌, None, drop}
use Rattle.std.specs.Option.{option_copied}
use Rattle.explain_text.specs.Using.{highest_from}
use Rattle.explain_text.proofs.using.used_for.Given as goal

-- the highest so far and of those that are left is the highest of all
abbrev pub invariant-loop-written : goal.invariant-loop-written
invariant-loop-written l =
    highest_from l.header (option_copied l.best) (drop l.written-index l.standing)
    ≡ highest_from l.header None l.standing
