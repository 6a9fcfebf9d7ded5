use Rattle.std.proofs.Common.{◌≡◌, drop}
use Rattle.switch_tables.specs.Turning.{after_all}
use Rattle.switch_tables.proofs.tables.after_all.Given as goal

-- those that are left, after the cookie so far
abbrev pub invariant-loop-written : goal.invariant-loop-written
invariant-loop-written l = after_all l.cookie (drop l._written-index l.adds) ≡ after_all l.fn.next l.adds
