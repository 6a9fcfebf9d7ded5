use Rattle.std.proofs.Common.{rules}
use Rattle.std.proofs.lemmas.List.Sorted.{answers_always}
use Rattle.level_map.proofs.Rising.{searched}
use Rattle.level_map.proofs.sorted.search.Goals as goal

-- the closure gives a pair's rank
pub returns-clause-found : goal.returns-clause-found
returns-clause-found c =
    let facts = c.binary_search_by_key.ensures in
    (searched _ c.requires c.args.rank _ facts.bound
    (facts.position (λ pair. pair.rank) (answers_always _ _ _ (λ f a r g called. search rules)))).0

pub returns-clause-absent : goal.returns-clause-absent
returns-clause-absent c =
    let facts = c.binary_search_by_key.ensures in
    (searched _ c.requires c.args.rank _ facts.bound
    (facts.position (λ pair. pair.rank) (answers_always _ _ _ (λ f a r g called. search rules)))).1
