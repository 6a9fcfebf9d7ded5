use Rattle.exact_gate.proofs.Bucketed.{buckets_removed, items_set, stands_set_removed}
use Rattle.std.proofs.Common.{ap}
use Rattle.exact_gate.specs.InsideBuckets.{BucketOf}
use Rattle.exact_gate.proofs.buckets.remove_at.Goals as goal

pub returns-clause-entries : goal.returns-clause-entries
returns-clause-entries c a e = stands_set_removed c.args.buckets.now.entries c.args.place c.index_mut.result.now
    c.remove.new.self c.args.entry.now e a c.index_mut.ensures.value c.requires.at c.remove.ensures

pub returns-clause-items : goal.returns-clause-items
returns-clause-items c = items_set c.args.buckets.now.entries c.args.place c.index_mut.result.now c.remove.new.self
    c.index_mut.ensures.value (ap (λ (b : BucketOf). b.id) c.remove.ensures)

pub returns-clause-buckets : goal.returns-clause-buckets
returns-clause-buckets c a = buckets_removed c.args.buckets.now.entries c.args.place c.index_mut.result.now
    c.remove.new.self c.args.entry.now a c.index_mut.ensures.value c.requires.more c.remove.ensures
