use Rattle.std.proofs.Common.{take}
use Rattle.match_index.specs.Items.{IsTop}
use Rattle.match_index.specs.Questions.{asks}
use Rattle.match_index.proofs.search.top_among.Given as goal

abbrev pub invariant-loop-item : goal.invariant-loop-item
invariant-loop-item l = IsTop (asks l.question) (take l.item-index l.items) l.top
