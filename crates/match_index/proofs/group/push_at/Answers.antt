use Rattle.std.proofs.Common.{◌≡◌, ◌++◌, ◌∷◌, [], sym, subst}
use Rattle.match_index.specs.InsideGroups.{AreBuckets}
use Rattle.match_index.proofs.Buckets.{buckets_pushed, pushed_at, set_same}
use Rattle.match_index.proofs.Lists.{either_then, err_then, ok_then}
use Rattle.match_index.proofs.group.push_at.Goals as goal

pub returns-clause-added : goal.returns-clause-added
returns-clause-added c =
    ok_then (c.push.new.self ≡ c.index_mut.result.now ++ c.args.item ∷ []) _ c.push.result
    (pushed_at c.args.item c.args.buckets.now.entries c.args.place c.index_mut.result.now c.push.new.self
    c.index_mut.ensures.value) c.push.ensures.pushed

pub returns-clause-memory : goal.returns-clause-memory
returns-clause-memory c =
    err_then (c.push.new.self ≡ c.index_mut.result.now) _ c.push.result
    (set_same c.args.buckets.now.entries c.args.place c.index_mut.result.now c.push.new.self c.index_mut.ensures.value)
    c.push.ensures.memory

pub returns-clause-buckets : goal.returns-clause-buckets
returns-clause-buckets c shape a =
    let bs = c.args.buckets.now.entries in
    either_then (c.push.new.self ≡ c.index_mut.result.now ++ c.args.item ∷ [])
    (c.push.new.self ≡ c.index_mut.result.now) _ c.push.result
    (buckets_pushed shape c.args.item bs c.args.place c.index_mut.result.now c.push.new.self a c.requires.at
    c.index_mut.ensures.value)
    (λ e. subst (AreBuckets shape)
    (sym (set_same bs c.args.place c.index_mut.result.now c.push.new.self c.index_mut.ensures.value e)) a)
    c.push.ensures.pushed c.push.ensures.memory
