use Rattle.std.proofs.Common.{◌≡◌, ◌++◌, ◌≤◌, length, take}
use Rattle.std.specs.Prelude.{IsPermutation, filter, map, vec_len, vec_capacity}
use Rattle.rule_ancestry.specs.Holding.{is_outside, item_of}
use Rattle.rule_ancestry.proofs.store.Store.take.Given as goal

abbrev pub invariant-loop-place : goal.invariant-loop-place
invariant-loop-place g l = record {
  moved : IsPermutation (map item_of l.fn.self) (l.gone.items ++ map item_of l.self);
  rest : l.self ≡ filter (is_outside (take l.place l.ids.items)) l.fn.self;
  len : vec_len l.gone ≤ l.place;
  room : length l.ids.items ≤ vec_capacity l.gone;
}
