use Rattle.std.proofs.Common.{◌≡◌, take}
use Rattle.std.specs.Prelude.{IsPermutation, filter}
use Rattle.incr_compile.specs.Showing.{is_clear_of}
use Rattle.incr_compile.proofs.showing.hide.Given as goal

abbrev pub invariant-loop-id : goal.invariant-loop-id
invariant-loop-id l = record {
  items : IsPermutation l.index.items (filter (is_clear_of (take l.id-index l.ids)) l.fn.index.items);
  room : l.index.room ≡ l.fn.index.room;
}
