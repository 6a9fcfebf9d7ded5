use Rattle.std.proofs.Common.{◌≡◌, drop}
use Rattle.std.specs.Prelude.{fold}
use Rattle.stats_map.specs.Told.{told}
use Rattle.machine_meaning.specs.Batches.{counts_after, counts_with}
use Rattle.event_composes.proofs.composing.count_all.Given as goal

-- the cookies that are left, counted after those so far
abbrev pub invariant-loop-written : goal.invariant-loop-written
invariant-loop-written l = record {
  base : l.counts.base ≡ l.initial.counts.base;
  counted :
      fold (counts_with l.n) (told l.counts.now) (drop l.written-index l.adds)
      ≡ counts_after l.n l.adds (told l.initial.counts.now);
}
