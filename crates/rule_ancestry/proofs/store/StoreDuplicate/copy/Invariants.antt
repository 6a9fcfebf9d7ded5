use Rattle.std.proofs.Common.{◌≡◌, ◌++◌, ◌||◌}
use Rattle.std.specs.List.{list_any}
use Rattle.std.specs.BTreeMap.{is_at}
use Rattle.std.specs.BTreeSet.{contains}
use Rattle.rule_ancestry.specs.declared.links.Link.{Link}
use Rattle.rule_ancestry.specs.InsideLinks.{by_link}
use Rattle.rule_ancestry.proofs.store.StoreDuplicate.copy.Given as goal

abbrev pub invariant-loop-link : goal.invariant-loop-link
invariant-loop-link g l = (q : Link _)
    → (contains (by_link g.R.Name.Ord.cmp) l.links q || list_any (is_at (by_link g.R.Name.Ord.cmp q)) l.link-iterator)
    ≡ list_any (is_at (by_link g.R.Name.Ord.cmp q)) l.initial.link-iterator
