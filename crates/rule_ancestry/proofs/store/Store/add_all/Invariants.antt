use Rattle.std.proofs.Common.{◌≡◌, ◌++◌, length}
use Rattle.std.specs.Prelude.{IsPermutation, filter}
use Rattle.rule_ancestry.specs.Holding.{held_as, is_outside}
use Rattle.rule_ancestry.proofs.store.Store.add_all.Given as goal

abbrev pub invariant-loop-item : goal.invariant-loop-item
invariant-loop-item g l = record {
  added : IsPermutation (held_as l.ids.items l.yielded ++ l.fn.self) l.self;
  count : length l.ids.items ≡ length l.yielded;
  others : filter (is_outside l.ids.items) l.self ≡ l.fn.self;
}
