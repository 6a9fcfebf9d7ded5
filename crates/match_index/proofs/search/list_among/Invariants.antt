use Rattle.std.proofs.Common.{◌≡◌, ◌++◌, take}
use Rattle.match_index.specs.Items.{ids_of}
use Rattle.match_index.specs.Questions.{asks}
use Rattle.match_index.proofs.search.list_among.Given as goal

abbrev pub invariant-loop-item : goal.invariant-loop-item
invariant-loop-item l = l.ids.items ≡ l.initial.ids.items ++ ids_of (asks l.question) (take l.item-index l.items)
