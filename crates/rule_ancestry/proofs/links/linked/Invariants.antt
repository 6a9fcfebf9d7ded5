use Rattle.std.proofs.Common.{◌≡◌, ◌++◌}
use Rattle.std.specs.Prelude.{map}
use Rattle.rule_ancestry.specs.declared.links.Link.{Link}
use Rattle.rule_ancestry.proofs.links.linked.Given as goal

abbrev pub invariant-loop-link : goal.invariant-loop-link
invariant-loop-link g l = l.ids.items ++ map (λ (q : Link _). q.id) l.link-iterator
    ≡ map (λ (q : Link _). q.id) l.initial.link-iterator
