-- What a switch is sent can be written.
use Rattle.std.specs.Prelude.{◌+◌, ◌<◌, ◌^◌, length}
use Rattle.std.specs.List.{AllByRecursion}
use Rattle.install_plan.specs.declared.written.Batch.{Batch}
use Rattle.install_plan.specs.declared.written.Written.{Written}
use Rattle.of10_actions.specs.Actions.{AreInRange}
use Rattle.of10_actions.specs.Spelling.{spellings}

-- the actions of an entry are in range, and fit its addition, which has 72 bytes beside them
pub record CanAdd (w : Written) : Type 0 where
  pub fits : 72 + length (spellings w.entry.actions) < 2 ^ 16
  pub in_range : AreInRange w.entry.actions

-- each addition of a batch can be written
abbrev pub CanSend : Batch → Type 0
CanSend b = AllByRecursion CanAdd b.adds
