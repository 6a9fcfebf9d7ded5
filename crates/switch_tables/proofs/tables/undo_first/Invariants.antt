use Rattle.std.proofs.Common.{◌≡◌, ℕ, ◌<◌, ◌≤◌, length}
use Rattle.std.specs.Prelude.{slice_get}
use Rattle.switch_tables.specs.Turning.{IsUndoneAt}
use Rattle.switch_tables.proofs.tables.undo_first.Given as goal

abbrev pub invariant-loop-n : goal.invariant-loop-n
invariant-loop-n l = record {
  long : length l.tables ≡ length l.fn.tables;
  undone : (m : ℕ) → m < l.n → IsUndoneAt m l.fn.tables l.tables;
  rest : (m : ℕ) → l.n ≤ m → slice_get l.tables m ≡ slice_get l.fn.tables m;
}
