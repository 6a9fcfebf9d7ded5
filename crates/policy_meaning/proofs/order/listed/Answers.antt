use Rattle.std.proofs.Common.{rules}
use Rattle.std.specs.Ordering.{is_lt}
use Rattle.std.proofs.lemmas.List.Sorted.{answers_always}
use Rattle.policy_meaning.specs.Order.{by_ancestry}
use Rattle.policy_meaning.proofs.Ordered.{ranks_rules}
use Rattle.policy_meaning.proofs.order.listed.Goals as goal

pub returns : goal.returns
returns c = record {
  same = rw (c.from_vec.ensures, ← c.into_vec-items.ensures) c.in_ok-sort_by.ensures.permutation;
  rising =
      rw c.from_vec.ensures (c.in_ok-sort_by.ensures.sorted (λ a b. is_lt (by_ancestry a b)) ranks_rules
      (answers_always _ _ _ (λ f a r g h. search rules)));
}
