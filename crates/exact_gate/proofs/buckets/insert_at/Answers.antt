use Rattle.std.proofs.Common.{◌≡◌, sym, ap, subst}
use Rattle.match_index.proofs.Lists.{either_then, err_then, ok_then}
use Rattle.exact_gate.specs.InsideBuckets.{AreBuckets, BucketOf}
use Rattle.exact_gate.specs.Standing.{inserted}
use Rattle.exact_gate.proofs.Bucketed.{buckets_inserted, items_set, set_same, stands_set_inserted}
use Rattle.exact_gate.proofs.buckets.insert_at.Goals as goal

pub returns-clause-entries : goal.returns-clause-entries
returns-clause-entries c =
    ok_then (c.insert.new.self ≡ record c.index_mut.result.now
    { entries = inserted c.index_mut.result.now.entries c.args.entry.now }) _ c.insert.result
    (λ is e. stands_set_inserted c.args.buckets.now.entries c.args.place c.index_mut.result.now c.insert.new.self
    c.args.entry.now e c.index_mut.ensures.value is) c.insert.ensures.inserted

pub returns-clause-items : goal.returns-clause-items
returns-clause-items c =
    items_set c.args.buckets.now.entries c.args.place c.index_mut.result.now c.insert.new.self c.index_mut.ensures.value
    (either_then (c.insert.new.self ≡ record c.index_mut.result.now
    { entries = inserted c.index_mut.result.now.entries c.args.entry.now })
    (c.insert.new.self ≡ c.index_mut.result.now) _ c.insert.result
    (ap (λ (b : BucketOf). b.id)) (ap (λ (b : BucketOf). b.id)) c.insert.ensures.inserted c.insert.ensures.memory)

pub returns-clause-memory : goal.returns-clause-memory
returns-clause-memory c =
    err_then (c.insert.new.self ≡ c.index_mut.result.now) _ c.insert.result
    (set_same c.args.buckets.now.entries c.args.place c.index_mut.result.now c.insert.new.self
    c.index_mut.ensures.value) c.insert.ensures.memory

pub returns-clause-buckets : goal.returns-clause-buckets
returns-clause-buckets c a =
    let bs = c.args.buckets.now.entries in
    either_then (c.insert.new.self ≡ record c.index_mut.result.now
    { entries = inserted c.index_mut.result.now.entries c.args.entry.now })
    (c.insert.new.self ≡ c.index_mut.result.now) _ c.insert.result
    (λ is. buckets_inserted bs c.args.place c.index_mut.result.now c.insert.new.self c.args.entry.now a
    c.index_mut.ensures.value c.requires.at is)
    (λ is. subst AreBuckets
    (sym (set_same bs c.args.place c.index_mut.result.now c.insert.new.self c.index_mut.ensures.value is)) a)
    c.insert.ensures.inserted c.insert.ensures.memory
