use Rattle.std.proofs.Common.{◌≡◌, ◌-◌, ◌^◌, take, length}
use Rattle.std.specs.Prelude.{min}
use Rattle.of10_actions.specs.Spelling.{spellings}
use Rattle.of10_actions.proofs.writing.list_length.Given as goal

abbrev pub invariant-loop-action : goal.invariant-loop-action
invariant-loop-action l = l.total ≡ min (length (spellings (take l.action-index l.action-items))) (2 ^ 64 - 1)
