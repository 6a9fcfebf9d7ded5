use Rattle.std.proofs.Common.{◌+◌, ◌++◌, ◌∙◌, ℕ, drop, map, ap}
use Rattle.std.specs.Prelude.{option_to_list}
use Rattle.member_table.specs.declared.entry.Entry.{Entry}
use Rattle.member_state.proofs.LeafLists.{made_next}
use Rattle.leaf_changes.proofs.anew.all_numbers.Goals as goal

pub loop-place-preserved : goal.loop-place-preserved
loop-place-preserved c =
    let f : Entry → ℕ = λ e. e.serial in
    let es = c.table-table.result.now.table.entries in
    let done = c.loop-place.serials in
    ap (λ xs. xs ++ map f (drop (c.loop-place.place + 1) es))
    (c.in_ok-push_some.ensures.pushed ∙ ap (λ o. done ++ option_to_list o) c.number_at.ensures)
    ∙ (made_next f es c.loop-place.place done ∙ c.loop-place.invariant)
