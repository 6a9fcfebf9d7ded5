use Rattle.std.proofs.Common.{◌≡◌, ◌++◌, drop}
use Rattle.std.specs.Prelude.{flat_map}
use Rattle.std.specs.List.{enumerate_from}
use Rattle.agreement.specs.Entries.{entries_for}
use Rattle.agreement.proofs.tables.all_entries.Given as goal

-- what is there, and then the entries of the virtual switches that are left
abbrev pub invariant-loop-v : goal.invariant-loop-v
invariant-loop-v l =
    l.entries ++ flat_map (entries_for l.setting l.switch) (enumerate_from l.v (drop l.v l.x-items))
    ≡ flat_map (entries_for l.setting l.switch) (enumerate_from 0 l.setting.network.switches)
