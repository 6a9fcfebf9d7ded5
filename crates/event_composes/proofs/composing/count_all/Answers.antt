use Rattle.std.proofs.Common.{◌∙◌, ◌+◌, sym, ap, drop}
use Rattle.std.specs.Prelude.{fold}
use Rattle.std.proofs.lemmas.List.{at_drop_more}
use Rattle.stats_map.specs.Told.{told}
use Rattle.stats_map.specs.Counting.{CountsOf}
use Rattle.machine_meaning.specs.Batches.{counts_with}
use Rattle.event_composes.proofs.composing.count_all.Goals as goal

pub loop-written-preserved : goal.loop-written-preserved
loop-written-preserved c =
    let f = counts_with c.args.n in
    let i = c.loop-written.written-index in
    let adds = c.args.adds.now in
    let x = c.written-item.result in
    let before = told c.loop-written.counts.now in
    let rest = drop (i + 1) adds in
    record {
      base = c.write.ensures.base ∙ c.loop-written.invariant.base;
      counted =
          ap (λ (s : CountsOf). fold f s rest) c.in_ok-write.ensures.installed
          ∙ ((λ j. fold f (f before (c.written-item.is j)) rest)
          ∙ (sym (at_drop_more (fold f before) adds i x c.loop-written-test.true) ∙ c.loop-written.invariant.counted));
    }
