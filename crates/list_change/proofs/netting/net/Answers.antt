use Rattle.std.proofs.Common.{rules, ◌≡◌, ◌⊎◌, [], inl, inr, sym}
use Rattle.std.proofs.lemmas.List.Sorted.{answers_always}
use Rattle.list_change.proofs.Parted.{all-parted, lt, none-parted, one-empty, weak}
use Rattle.list_change.proofs.netting.net.Given.{Over}
use Rattle.list_change.proofs.netting.net.Goals as goal
use Rattle.list_change.proofs.netting.net.Goals.{then-loop-come-test+else-not-is_empty, else-loop-come-test}

pub loop-come-init : goal.loop-come-init
loop-come-init g c =
    let total = g.met.T.Ord.total in
    none-parted total _ _ _ _ _ _ _ c.new.ensures.items c.new-2.ensures.items c.new-3.ensures.items
    c.in_ok-sort_by.ensures.permutation c.in_ok-sort_by-2.ensures.permutation
    (c.in_ok-sort_by.ensures.sorted (lt total) (weak total) (answers_always _ _ _ (λ f a r k h. search rules)))
    (c.in_ok-sort_by-2.ensures.sorted (lt total) (weak total) (answers_always _ _ _ (λ f a r k h. search rules)))

pub loop-come-smaller : goal.loop-come-smaller
loop-come-smaller g c = c.part_one.ensures.fewer

pub loop-come-preserved : goal.loop-come-preserved
loop-come-preserved g c = c.in_ok-part_one.ensures.parted _ _ c.loop-come.invariant

one-is-empty : (g : Over) (c : goal.After-drop-gone-2 g) → (c.loop-come.gone.items ≡ []) ⊎ (c.loop-come.come.items ≡ [])
one-is-empty g c = elim c.loop-come-test.branch [
  | then-loop-come-test+else-not-is_empty w ↦ inr
      (one-empty _ _ c.loop-come.come.ok.0 (sym w.if-not-is_empty.ensures))
  | else-loop-come-test w ↦ inl
      (one-empty _ _ c.loop-come.gone.ok.0 (sym w.loop-come-test.ensures))
]

pub returns : goal.returns
returns g c =
    all-parted g.met.T.Ord.total _ _ _ _ _ _ _ _ _ (one-is-empty g c) c.in_ok-append.ensures.items
    c.in_ok-append-2.ensures.items c.loop-come.invariant
