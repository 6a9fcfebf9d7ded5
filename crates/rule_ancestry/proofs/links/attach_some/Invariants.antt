use Rattle.std.proofs.Common.{◌≡◌, ◌||◌, take}
use Rattle.std.specs.BTreeSet.{contains}
use Rattle.rule_ancestry.specs.declared.links.Link.{Link}
use Rattle.rule_ancestry.specs.InsideLinks.{by_link, links_to}
use Rattle.rule_ancestry.proofs.links.attach_some.Given as goal

abbrev pub invariant-loop-name : goal.invariant-loop-name
invariant-loop-name g l = (q : Link _)
    → contains (by_link g.N.Ord.cmp) l.links q
    ≡ (links_to g.N.Ord.cmp (take l.name-index l.names) l.id q || contains (by_link g.N.Ord.cmp) l.fn.links q)
