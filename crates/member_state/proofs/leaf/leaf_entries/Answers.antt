use Rattle.std.proofs.Common.{◌+◌, ◌++◌, ◌∙◌, drop, map, ap}
use Rattle.std.specs.Prelude.{option_to_list}
use Rattle.member_state.specs.Leaves.{leaf_by}
use Rattle.member_state.proofs.LeafLists.{made_next}
use Rattle.member_state.proofs.leaf.leaf_entries.Goals as goal

pub loop-place-preserved : goal.loop-place-preserved
loop-place-preserved c =
    let f = leaf_by c.args.levels.now c.args.member c.args.ports.now in
    let es = c.args.table.now.table.entries in
    let done = c.loop-place.entries in
    ap (λ xs. xs ++ map f (drop (c.loop-place.place + 1) es))
    (c.in_ok-push_some.ensures.pushed ∙ ap (λ o. done ++ option_to_list o) c.in_ok-leaf_at.ensures)
    ∙ (made_next f es c.loop-place.place done ∙ c.loop-place.invariant)
