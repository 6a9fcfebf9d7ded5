use Rattle.std.proofs.Common.{◌≡◌, ◌++◌, drop, map}
use Rattle.std.specs.Prelude.{zip}
use Rattle.std.specs.List.{enumerate_from}
use Rattle.machine_drafts.specs.Outcomes.{members_in}
use Rattle.machine_meaning.specs.Settings.{table_of, tables_with}
use Rattle.machine_drafts.proofs.settings.tables.Given as goal

-- those so far, and then those of the members that are left
abbrev pub invariant-loop-n : goal.invariant-loop-n
invariant-loop-n l =
    l.tables ++ map table_of (enumerate_from l.n (zip (drop l.n l.items) (members_in (drop l.n l.members))))
    ≡ tables_with l.items (members_in l.members)
