use Rattle.std.proofs.Common.{◌++◌, take}
use Rattle.match_index.specs.InsideGroups.{in_groups}
use Rattle.match_index.specs.Items.{IsTop}
use Rattle.match_index.specs.Questions.{asks}
use Rattle.match_index.proofs.groups.top_of.Given as goal

abbrev pub invariant-loop-group : goal.invariant-loop-group
invariant-loop-group l = IsTop (asks l.question) (l.late ++ in_groups (take l.group-index l.groups)) l.top
