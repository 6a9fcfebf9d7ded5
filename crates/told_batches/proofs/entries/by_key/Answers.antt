use Rattle.std.proofs.Common.{ap, rules, ◌∙◌}
use Rattle.std.proofs.lemmas.List.Sorted.{answers_always}
use Rattle.switch_meaning.specs.Batches.{by_key}
use Rattle.told_batches.proofs.SortedEntries.{comes_before, stable_entries, weak_order}
use Rattle.told_batches.proofs.entries.by_key.Goals as goal

pub returns : goal.returns
returns c =
    c.from_vec.ensures
    ∙ (stable_entries c.into_vec-sorted.result.items c.sort_by.new.self.items
    (c.in_ok-sort_by.ensures.sorted comes_before weak_order (answers_always _ _ _ (λ f a r g h. search rules)))
    (c.in_ok-sort_by.ensures.stable comes_before weak_order (answers_always _ _ _ (λ f a r g h. search rules)))
    ∙ ap by_key c.into_vec-sorted.ensures)
