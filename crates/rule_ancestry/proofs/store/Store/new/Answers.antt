use Rattle.std.proofs.Common.{ap, sym, ◌∙◌}
use Rattle.std.specs.List.{list_any}
use Rattle.std.specs.BTreeMap.{is_at}
use Rattle.rule_ancestry.specs.InsideLinks.{by_link}
use Rattle.rule_ancestry.specs.InsideSlots.{at}
use Rattle.rule_ancestry.specs.Names.{names_at}
use Rattle.rule_ancestry.proofs.store.Store.new.Goals as goal

pub invariant_of-result : goal.invariant_of-result
invariant_of-result g c q = ap (λ ks. list_any (is_at (by_link g.R.Name.Ord.cmp q)) ks) c.new-2.ensures.empty
    ∙ sym (ap (λ s. names_at g.R.Name.Ord.cmp g.R.Filed.borne (at s q.id) q.name) c.new.ensures.empty)
