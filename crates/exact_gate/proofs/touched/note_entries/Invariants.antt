use Rattle.std.proofs.Common.{◌≡◌, true, take}
use Rattle.std.specs.List.{All}
use Rattle.exact_gate.specs.InsideChanges.{IsNoted, noted}
use Rattle.exact_gate.specs.declared.key.Key.{Key}
use Rattle.exact_gate.proofs.touched.note_entries.Given as goal

-- the keys stay, and those of the entries so far are noted
abbrev pub invariant-loop-entry : goal.invariant-loop-entry
invariant-loop-entry l = record {
  more : (k : Key) → noted l.initial.keys.keys k ≡ true → noted l.keys.keys k ≡ true;
  noted : All (IsNoted l.pool l.keys.keys) (take l.entry-index l.entries);
}
