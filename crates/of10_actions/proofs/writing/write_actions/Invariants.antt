use Rattle.std.proofs.Common.{◌≡◌, ◌++◌, All, take}
use Rattle.of10_actions.specs.Actions.{FitsTypes}
use Rattle.of10_actions.specs.Spelling.{spellings}
use Rattle.of10_actions.proofs.writing.write_actions.Given as goal

abbrev pub invariant-loop-action : goal.invariant-loop-action
invariant-loop-action l = record {
  written : l.into ≡ l.fn.into ++ spellings (take l.action-index l.action-items);
  types : All FitsTypes (take l.action-index l.action-items);
}
