use Rattle.std.proofs.Common.{◌++◌, ◌∷◌, [], ap, ◌∙◌, Bool}
use Rattle.std.specs.List.{list_any}
use Rattle.switch_meaning.specs.Keys.{displaces}
use Rattle.switch_meaning.specs.declared.entry.PhysEntry.{PhysEntry}
use Rattle.switch_meaning.proofs.Writing.{more_kept, none_kept}
use Rattle.switch_meaning.proofs.keys.one_per_key.Goals as goal
use Rattle.switch_meaning.proofs.keys.one_per_key.Goals.{then-not-is_displaced+in_ok-copy+in_ok-push}
use Rattle.switch_meaning.proofs.keys.one_per_key.Goals.{else-not-is_displaced}

pub loop-entry-preserved : goal.loop-entry-preserved
loop-entry-preserved c =
    let found : PhysEntry → Bool = λ e. list_any (λ (d : PhysEntry). displaces d e) c.args.entries.now in
    let xs = c.as_slice-entry-items.result.now in
    let i = c.loop-entry.entry-index in
    let x = c.entry-item.result in
    elim c.if-not-is_displaced.branch [
      | then-not-is_displaced+in_ok-copy+in_ok-push w ↦
          more_kept found xs i x c.loop-entry.kept c.if-not-is_displaced.kept _ c.is_displaced.result
          c.loop-entry-test.true c.entry-item.is c.is_displaced.ensures w.if-not-is_displaced.true
          (w.kept-is ∙ (w.in_ok-push.ensures.pushed ∙ ap (λ y. c.loop-entry.kept ++ y ∷ []) w.in_ok-copy.ensures))
          c.loop-entry.invariant
      | else-not-is_displaced w ↦
          none_kept found xs i x c.loop-entry.kept c.if-not-is_displaced.kept _ c.is_displaced.result
          c.loop-entry-test.true c.entry-item.is c.is_displaced.ensures w.if-not-is_displaced.false w.kept-is
          c.loop-entry.invariant
    ]
