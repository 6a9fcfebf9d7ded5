use Rattle.std.proofs.Common.{ap, rules, ◌∙◌}
use Rattle.std.proofs.lemmas.List.Sorted.{answers_always}
use Rattle.machine_meaning.specs.Batches.{by_key}
use Rattle.shared_rows.proofs.Sorting.{is_lower, stable_sorted, weak}
use Rattle.told_batches.proofs.rows.by_key.Goals as goal

pub returns : goal.returns
returns c =
    c.from_vec.ensures
    ∙ (stable_sorted c.into_vec-sorted.result.items c.sort_by.new.self.items
    (c.in_ok-sort_by.ensures.sorted is_lower weak (answers_always _ _ _ (λ f a r g h. search rules)))
    (c.in_ok-sort_by.ensures.stable is_lower weak (answers_always _ _ _ (λ f a r g h. search rules)))
    ∙ ap by_key c.into_vec-sorted.ensures)
