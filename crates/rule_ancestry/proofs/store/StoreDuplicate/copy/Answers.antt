use Rattle.std.proofs.Common.{◌≡◌, ap, sym, ◌∙◌, rules}
use Rattle.std.specs.List.{list_any}
use Rattle.std.specs.BTreeMap.{is_at}
use Rattle.std.specs.BTreeSet.{contains}
use Rattle.rule_ancestry.specs.InsideLinks.{by_link}
use Rattle.rule_ancestry.specs.InsideSlots.{at, held_from}
use Rattle.rule_ancestry.specs.Names.{names_at}
use Rattle.rule_ancestry.proofs.Lists.{all-copied, copied-more}
use Rattle.rule_ancestry.proofs.Slots.{slots-cloned}
use Rattle.rule_ancestry.proofs.store.StoreDuplicate.copy.Goals as goal

pub loop-link-preserved : goal.loop-link-preserved
loop-link-preserved g c q =
    copied-more g.R.Name.Ord.cmp g.met.R.Name.Ord.total q c.in-Some.link.now c.loop-link.link-iterator c.next.new.self
    c.into_iter-link-iterator.result (contains (by_link g.R.Name.Ord.cmp) c.loop-link.links q)
    (contains (by_link g.R.Name.Ord.cmp) c.insert.new.self q)
    (c.loop-link.invariant q) (search rules) (c.in_ok-insert.ensures.updates.0 q)

pub invariant_of-result : goal.invariant_of-result
invariant_of-result g c q =
    let start : c.into_iter-link-iterator.result ≡ c.self.inside.links.keys = search rules in
    all-copied (is_at (by_link g.R.Name.Ord.cmp q)) c.loop-link.link-iterator c.into_iter-link-iterator.result
    (contains (by_link g.R.Name.Ord.cmp) c.loop-link.links q) (c.loop-link.invariant q) (search rules)
    ∙ ap (list_any (is_at (by_link g.R.Name.Ord.cmp q))) start ∙ c.self.invariant q
    ∙ ap (λ z. names_at g.R.Name.Ord.cmp g.R.Filed.borne (at z q.id) q.name)
    (sym (slots-cloned c.self.inside.slab.slots c.in_ok-clone.field-0.slots c.in_ok-clone.ensures.cases.slots))

pub returns : goal.returns
returns g c =
    ap (held_from 0) (slots-cloned c.self.inside.slab.slots c.in_ok-clone.field-0.slots
    c.in_ok-clone.ensures.cases.slots) ∙ c.self.view_is
