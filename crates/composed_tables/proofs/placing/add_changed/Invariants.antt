use Rattle.std.proofs.Common.{◌≡◌, drop}
use Rattle.std.specs.Prelude.{find}
use Rattle.hop_rules.specs.Tables.{is_of}
use Rattle.composed_tables.proofs.placing.add_changed.Given as goal

-- no delta before is of the place
abbrev pub invariant-loop-delta : goal.invariant-loop-delta
invariant-loop-delta l = record {
  search : find (is_of l.at) (drop l.delta-index l.deltas) ≡ find (is_of l.at) l.deltas;
  same : l.entries ≡ l.initial.entries;
}
