use Rattle.std.proofs.Common.{◌≡◌, drop}
use Rattle.std.specs.List.{enumerate_from, list_any}
use Rattle.agreement.specs.Entries.{is_all_of, is_whole}
use Rattle.agreement.proofs.tables.is_whole.Given as goal

-- the switch is all of one of the virtual switches that are left
abbrev pub invariant-loop-v : goal.invariant-loop-v
invariant-loop-v l = list_any (is_all_of l.setting l.switch) (enumerate_from l.v (drop l.v l.x-items))
    ≡ is_whole l.setting l.switch
