use Rattle.std.proofs.Common.{◌<◌, ◌+◌, ◌∙◌, ◌∷◌, [], ◌++◌, List, ℕ, ap, sym, drop, filter, get_or, length, map, arith}
use Rattle.cv_io.specs.declared.leaf.Leaf.{Leaf}
use Rattle.member_state.proofs.Lists.{drop_next}
use Rattle.leaf_changes.specs.Leaves.{leaf_at}
use Rattle.leaf_changes.specs.Touched.{has_kind}
use Rattle.leaf_changes.proofs.Lists.{filter_joined, joined, map_joined}
use Rattle.leaf_changes.proofs.numbers.leaves.Goals as goal

pub loop-serial-preserved : goal.loop-serial-preserved
loop-serial-preserved c =
    let ss = c.args.serials.now in
    let i = c.loop-serial.serial-index in
    let test = c.loop-serial-test.true in
    let lt : i < length ss = omega arith in
    let f : ℕ → Leaf = leaf_at c.args.member in
    let done = c.loop-serial.leaves in
    let one : List Leaf = map f (filter has_kind (get_or ss i 0 ∷ [])) in
    let rest : List Leaf = map f (filter has_kind (drop (i + 1) ss)) in
    ap (λ ls. ls ++ rest) (c.in_ok-push_some.ensures.pushed ∙ ap (λ ls. done ++ ls) c.leaf.ensures)
    ∙ (joined done one rest
    ∙ (ap (λ ls. done ++ ls)
    (sym (ap (λ ns. map f (filter has_kind ns)) (drop_next ss i 0 lt)
    ∙ (ap (map f) (filter_joined has_kind (get_or ss i 0 ∷ []) (drop (i + 1) ss))
    ∙ map_joined f (filter has_kind (get_or ss i 0 ∷ [])) (filter has_kind (drop (i + 1) ss)))))
    ∙ c.loop-serial.invariant))
