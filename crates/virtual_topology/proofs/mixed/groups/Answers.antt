use Rattle.std.proofs.Common.{◌≡◌, ◌≤◌, ◌-◌, ◌==◌, ◌∙◌, ℕ, ◌<◌, List, length, get_or, drop, ap, subst, sym, arith}
use Rattle.std.proofs.lemmas.List.{get_or_default}
use Rattle.virtual_topology.specs.Faults.{are_joined}
use Rattle.virtual_topology.specs.Within.{merged}
use Rattle.virtual_topology.proofs.Groups.{groups_step, written}
use Rattle.virtual_topology.proofs.mixed.groups.Goals as goal

pub loop-left-preserved : goal.loop-left-preserved
loop-left-preserved c =
    let items = c.loop-left.groups.items in
    let new = c.merge.new.groups in
    let d : (ℕ × ℕ) × (ℕ × ℕ) = ((0, 0), (0, 0)) in
    let lt : c.loop-left.left - 1 < length c.args.links.now =
    omega (arith, c.loop-left.invariant.0, c.loop-left-test.true) in
    let ends = c.requires.within (c.loop-left.left - 1) d lt in
    let as_many : length new ≡ length items = c.merge.auto.groups ∙ ap length c.deref_mut.ensures.value in
    let all : length items ≡ c.args.count = c.loop-left.invariant.1 in
    let from : c.index-from.result.now ≡ get_or items (get_or c.args.links.now (c.loop-left.left - 1) d).0.0 0 =
    c.index-from.ensures ∙ get_or_default items _ _ 0 (omega (arith, ends.0, all)) in
    let to : c.index-to.result.now ≡ get_or items (get_or c.args.links.now (c.loop-left.left - 1) d).1.0 0 =
    c.index-to.ensures ∙ get_or_default items _ _ 0 (omega (arith, ends.1, all)) in
    let Kept : List ℕ → Type 0 = λ ys. (c.loop-left.left - 1 ≤ length c.args.links.now) × (length ys ≡ c.args.count)
    × ((a b : ℕ) → a < c.args.count → b < c.args.count
    → (get_or ys a 0 == get_or ys b 0) ≡ are_joined (drop (c.loop-left.left - 1) c.args.links.now) a b) in
    subst Kept
    (sym (written c.loop-left.groups.len new items (sym c.deref_mut.ensures.len
    ∙ ap length c.deref_mut.ensures.value) as_many)) (
      omega arith,
      as_many ∙ all,
      groups_step c.args.count c.loop-left.left c.args.links.now d (λ k. get_or items k 0) (λ k. get_or new k 0)
          (omega (arith, c.loop-left-test.true)) c.loop-left.invariant.0 ends.0 ends.1 c.loop-left.invariant.2
          (λ k below. c.merge.ensures k (subst (λ n. k < n) (sym (ap length c.deref_mut.ensures.value ∙ all)) below)
          ∙ (λ i. merged (from i) (to i) (get_or (c.deref_mut.ensures.value i) k 0))),
    )
