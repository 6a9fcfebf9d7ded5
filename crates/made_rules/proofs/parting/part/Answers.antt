use Rattle.std.proofs.Common.{rules, ◌≡◌, ◌⊎◌, [], inl, inr, sym}
use Rattle.std.specs.Ordering.{is_lt}
use Rattle.std.proofs.lemmas.List.Sorted.{answers_always}
use Rattle.policy_meaning.specs.Order.{by_ancestry}
use Rattle.policy_meaning.specs.declared.rule.Rule.{Rule}
use Rattle.rule_ancestry.specs.Holding.{Held}
use Rattle.made_rules.specs.declared.made.Made.{Made}
use Rattle.made_rules.proofs.Parted.{all-parted, none-parted, one-empty, weak}
use Rattle.made_rules.proofs.parting.part.Goals as goal
use Rattle.made_rules.proofs.parting.part.Goals.{then-loop-come-test+else-not-is_empty, else-loop-come-test}

pub loop-come-init : goal.loop-come-init
loop-come-init c =
    none-parted _ _ _ _ _ _ _ c.new.ensures.items c.new-2.ensures.items c.new-3.ensures.items
    c.in_ok-sort_by.ensures.permutation c.in_ok-sort_by-2.ensures.permutation
    (c.in_ok-sort_by.ensures.sorted (λ (x y : Held Rule). is_lt (by_ancestry x.item y.item))
    (weak (λ (h : Held Rule). h.item)) (answers_always _ _ _ (λ f a r k h. search rules)))
    (c.in_ok-sort_by-2.ensures.sorted (λ (x y : Made). is_lt (by_ancestry x.rule y.rule)) (weak (λ (m : Made). m.rule))
    (answers_always _ _ _ (λ f a r k h. search rules)))

pub loop-come-smaller : goal.loop-come-smaller
loop-come-smaller c = c.part_one.ensures.fewer

pub loop-come-preserved : goal.loop-come-preserved
loop-come-preserved c = c.in_ok-part_one.ensures.parted _ _ c.loop-come.invariant

one-is-empty : (c : goal.After-drop-gone-2) → (c.loop-come.gone.items ≡ []) ⊎ (c.loop-come.come.items ≡ [])
one-is-empty c = elim c.loop-come-test.branch [
  | then-loop-come-test+else-not-is_empty w ↦ inr
      (one-empty _ _ c.loop-come.come.ok.0 (sym w.if-not-is_empty.ensures))
  | else-loop-come-test w ↦ inl
      (one-empty _ _ c.loop-come.gone.ok.0 (sym w.loop-come-test.ensures))
]

pub returns : goal.returns
returns c = all-parted _ _ _ _ _ _ _ _ _ (one-is-empty c) c.in_ok-append.ensures.items c.in_ok-append-2.ensures.items
    c.loop-come.invariant
