use Rattle.std.proofs.Common.{List, ℕ, length, ap, arith}
use Rattle.std.proofs.lemmas.List.Folds.{length-flat_map-take}
use Rattle.of10_stats.specs.Spelling.{joined}
use Rattle.of10_stats.proofs.writing.texts_length.Goals as goal

pub overflow_add-total : goal.overflow_add-total
overflow_add-total c =
    let texts = c.as_slice-text-items.result.now in
    let below = length-flat_map-take (λ (text : List ℕ). text) texts c.loop-text.text-index c.text-item.result
    c.loop-text-test.true in
    let whole = ap (λ (ts : List (List ℕ)). length (joined ts)) c.as_slice-text-items.ensures in
    omega (
      arith,
      c.len-total.ensures,
      ap (λ (t : List ℕ). length t) c.text-item.is,
      below,
      whole,
      c.loop-text.invariant,
      c.requires,
    )
