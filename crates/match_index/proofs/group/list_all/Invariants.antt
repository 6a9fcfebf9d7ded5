use Rattle.std.proofs.Common.{◌≡◌, ◌++◌, map}
use Rattle.std.specs.Map.Iter.{deref}
use Rattle.match_index.specs.Items.{ids_of}
use Rattle.match_index.specs.Questions.{asks}
use Rattle.match_index.proofs.Lists.{joined}
use Rattle.match_index.proofs.group.list_all.Given as goal

abbrev pub invariant-loop-bucket : goal.invariant-loop-bucket
invariant-loop-bucket l = l.ids.items ≡ l.initial.ids.items ++ ids_of (asks l.question) (joined (map deref l.yielded))
