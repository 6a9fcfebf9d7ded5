use Rattle.std.proofs.Common.{rules, ap, ◌≡◌, false}
use Rattle.std.specs.List.{list_any}
use Rattle.std.specs.BTreeMap.{is_at}
use Rattle.std.specs.BTreeSet.{contains}
use Rattle.rule_ancestry.specs.declared.links.Link.{Link}
use Rattle.rule_ancestry.specs.InsideLinks.{by_link, links_to}
use Rattle.rule_ancestry.proofs.LinkLemmas.{untouched}
use Rattle.rule_ancestry.proofs.links.attach_some.Goals as goal

pub returns-in_err-insert-clause-others : goal.returns-in_err-insert-clause-others
returns-in_err-insert-clause-others g c =
    let h : (q : Link _) → links_to g.N.Ord.cmp c.args.names.now c.args.id q ≡ false
    → contains (by_link g.N.Ord.cmp) c.insert.new.self q ≡ contains (by_link g.N.Ord.cmp) c.args.links.now q =
    λ q none. untouched g.N.Ord.cmp c.args.names.now c.loop-name.name-index c.args.id q
    (contains (by_link g.N.Ord.cmp) c.args.links.now q) (contains (by_link g.N.Ord.cmp) c.loop-name.links q) _
    (c.loop-name.invariant q) (let e = c.in_err-insert.ensures.err in
    ap (λ ks. list_any (is_at (by_link g.N.Ord.cmp q)) ks) e) none in
    search (rules, h)
