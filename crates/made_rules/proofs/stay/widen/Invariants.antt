use Rattle.std.specs.Prelude.{◌≡◌, ◌++◌, List, IsPermutation, length, map}
use Rattle.std.specs.Vec.Iter.{into_iter_items, into_iter_len}
use Rattle.rule_ancestry.specs.Holding.{Held}
use Rattle.made_rules.specs.Parting.{was_of as old_of}
use Rattle.made_rules.specs.Rules.{rules_in}
use Rattle.made_rules.specs.declared.made.Made.{Made}
use Rattle.made_rules.proofs.Widening.{Widening}
use Rattle.made_rules.proofs.stay.widen.Given as goal

abbrev pub invariant-loop-one : goal.invariant-loop-one
invariant-loop-one l = record {
  widening : (rest wases : List (Held Made)) → rules_in wases ≡ map old_of l.fn.both.items
      → IsPermutation l.fn.store (rest ++ wases)
      → Widening rest wases l.fn.both.items (into_iter_items l.one-iterator) l.store l.stays.items;
  count : into_iter_len l.one-iterator ≡ length (into_iter_items l.one-iterator);
}
