use Rattle.std.specs.BTreeSet.{contains}
use Rattle.rule_ancestry.specs.InsideLinks.{by_link}
use Rattle.rule_ancestry.proofs.StoreLemmas.{undone-link}
use Rattle.rule_ancestry.proofs.links.attach.Goals as goal

pub returns-in-Err-clause-memory : goal.returns-in-Err-clause-memory
returns-in-Err-clause-memory g c q =
    undone-link g.N.Ord.cmp c.args.names.now c.args.known.now c.args.id q
    (contains (by_link g.N.Ord.cmp) c.args.links.now q) (contains (by_link g.N.Ord.cmp) c.attach_some.new.links q)
    (contains (by_link g.N.Ord.cmp) c.detach.new.links q)
    (c.requires.known q) (c.in-Err.ensures.others q) (c.in-Err.ensures.kept q) (c.detach.ensures q)
