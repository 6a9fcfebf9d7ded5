use Rattle.std.proofs.Common.{◌≡◌, ℕ, ◌<◌, ◌≤◌, length, map, take}
use Rattle.std.specs.Prelude.{slice_get}
use Rattle.switch_tables.specs.Turning.{AreTurned, CanGoBackAt, cookie_after, up_of}
use Rattle.switch_tables.proofs.tables.change_each.Given as goal

abbrev pub invariant-loop-n : goal.invariant-loop-n
invariant-loop-n l = record {
  long : length l.tables ≡ length l.fn.tables;
  far : l.done ≡ l.n;
  count : length l.batches ≡ l.n;
  cookie_is : l.cookie ≡ cookie_after l.next l.batches;
  ups_are : map up_of l.batches ≡ take l.n l.ups;
  turned : AreTurned l.n l.deltas l.next l.fn.tables l.tables l.batches;
  back : (m : ℕ) → m < l.n → CanGoBackAt m l.fn.tables l.tables;
  rest : (m : ℕ) → l.n ≤ m → slice_get l.tables m ≡ slice_get l.fn.tables m;
}
