use Rattle.std.proofs.Common.{◌≡◌, ◌++◌, length, drop}
use Rattle.std.specs.Prelude.{sum}
use Rattle.of10_stats.specs.Ranges.{widths}
use Rattle.of10_stats.specs.Reading.{texts_of}
use Rattle.of10_stats.proofs.reading.texts_of.Given as goal

abbrev pub invariant-loop-width : goal.invariant-loop-width
invariant-loop-width l = record {
  room : sum (drop l.width-index widths) ≡ length l.left;
  so_far : l.texts ++ texts_of (drop l.width-index widths) l.left ≡ texts_of widths l.rest;
}
