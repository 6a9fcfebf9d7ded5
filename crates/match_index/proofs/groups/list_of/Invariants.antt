use Rattle.std.proofs.Common.{◌≡◌, ◌++◌, take}
use Rattle.match_index.specs.InsideGroups.{in_groups}
use Rattle.match_index.specs.Items.{ids_of}
use Rattle.match_index.specs.Questions.{asks}
use Rattle.match_index.proofs.groups.list_of.Given as goal

abbrev pub invariant-loop-group : goal.invariant-loop-group
invariant-loop-group l = l.ids.items ≡ l.fn.ids.items ++ ids_of (asks l.question)
    (l.late ++ in_groups (take l.group-index l.groups))
