use Rattle.std.proofs.lemmas.List.Sorted.{IsPermutation-trans}
use Rattle.incr_compile.proofs.Wholes.{kept-all}
use Rattle.incr_compile.proofs.node.store_of_all.Goals as goal

pub returns-clause-made : goal.returns-clause-made
returns-clause-made g c =
    IsPermutation-trans _ _ _
    (kept-all c.in_ok-add_all.field-0.items c.in_ok-fresh.fresh.items c.new-store.result c.add_all.new.self
    c.new-store.ensures c.in_ok-add_all.ensures.count c.in_ok-add_all.ensures.added)
    c.in_ok-fresh.ensures.made
