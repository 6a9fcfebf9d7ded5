use Rattle.std.proofs.Common.{◌∙◌, ◌+◌, ◌<◌, ap, arith, drop, length, slice_set}
use Rattle.stats_map.specs.Counting.{CountsOf}
use Rattle.stats_map.specs.Told.{told}
use Rattle.event_acts.proofs.Folds.{fold_back, fold_past}
use Rattle.event_acts.specs.CookieCounts.{with_count, with_counts}
use Rattle.event_acts.proofs.hearing.take_over.Goals as goal

pub loop-count-preserved : goal.loop-count-preserved
loop-count-preserved c =
    let n = c.args.switch in
    let items = c.loop-count.count-items in
    let i = c.loop-count.count-index in
    let e = c.exchange.result in
    let before = told c.loop-count.counts in
    let there : i < length items = omega (arith, c.loop-count-test.true, c.loop-count.auto.count-items) in
    record {
      forth =
          ap (λ (s : CountsOf). with_counts n (drop (i + 1) (slice_set items i e)) s) c.exchange.ensures.told
          ∙ (fold_past (with_count n) items i e _ before there ∙ c.loop-count.invariant.forth);
      back =
          fold_back (with_count n) items i e before (told c.exchange.new.counts) there
          c.exchange.ensures.back
          ∙ c.loop-count.invariant.back;
    }
