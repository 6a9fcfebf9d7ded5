use Rattle.stats_map.specs.InsideSums.{sum_at}
use Rattle.stats_map.proofs.Adding.{more-inserted, nothing-found}
use Rattle.stats_map.proofs.sums.add_leaf.Goals as goal

pub returns-in_ok-insert-clause-more : goal.returns-in_ok-insert-clause-more
returns-in_ok-insert-clause-more c =
    let none = nothing-found (sum_at c.args.leaf.now c.args.sums.now.entries) c.contains_key.result
    c.contains_key.ensures c.if-not-contains_key.true in
    more-inserted c.args.leaf.now c.new.result c.args.sums.now.entries c.insert.new.self.entries c.new.ensures none
    c.in_ok-insert.ensures.updates.0
