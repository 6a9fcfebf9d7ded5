use Rattle.std.proofs.Common.{◌≡◌, ◌==◌, ◌+◌, ◌≤◌, ◌++◌, List, length, map, take, drop}
use Rattle.std.specs.Prelude.{IsPermutation, filter_map}
use Rattle.std.specs.List.{IsDistinct}
use Rattle.rule_ancestry.specs.Holding.{Held, id_of}
use Rattle.made_rules.specs.Rules.{rules_in}
use Rattle.made_rules.specs.declared.made.Made.{Made}
use Rattle.incr_compile.specs.Candidates.{shown}
use Rattle.incr_compile.specs.Showing.{AreClear, shown_as}
use Rattle.incr_compile.proofs.showing.show.Given as goal

abbrev pub invariant-loop-id : goal.invariant-loop-id
invariant-loop-id l = record {
  room : length l.ids ≤ l.index.room + l.id-index;
  clear : AreClear (drop l.id-index l.ids) l.index.items;
  once : IsDistinct ◌==◌ (drop l.id-index l.ids);
  shows : (items rest : List (Held Made)) → map id_of items ≡ l.ids → IsPermutation l.store (items ++ rest)
      → l.index.items ≡ l.fn.index.items ++ filter_map (shown (shown_as l.op l.side))
      (rules_in (take l.id-index items));
}
