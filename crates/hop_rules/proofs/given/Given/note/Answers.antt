use Rattle.std.proofs.Common.{◌≡◌, ◌==◌, Some, false, subst}
use Rattle.std.specs.Prelude.{IfSome}
use Rattle.std.specs.List.{list_any}
use Rattle.rule_ancestry.specs.Holding.{item_at}
use Rattle.hop_rules.proofs.given.Given.note.Goals as goal

pub returns : goal.returns
returns c = record {
  id = c.in-Some.id;
  there = subst (λ o. IfSome o (λ i. item_at c.args.self.now.rules i ≡ Some c.args.rule.now)) c.in-Some.is
      c.in_ok-id.ensures.rule;
  new = subst (λ ids. list_any (λ j. c.in-Some.id == j) ids ≡ false) c.deref.ensures.value
      (subst (λ o. IfSome o (λ i. list_any (λ j. i == j) c.deref.result.now ≡ false)) c.in-Some.is
      c.in_ok-id.ensures.id);
  noted = c.in_ok-push.ensures.items;
}
