use Rattle.std.proofs.Common.{◌++◌, ◌∷◌, [], ap, ◌∙◌, Bool}
use Rattle.std.specs.List.{list_any}
use Rattle.switch_meaning.specs.Keys.{passes_over}
use Rattle.switch_meaning.specs.declared.entry.PhysEntry.{PhysEntry}
use Rattle.switch_meaning.proofs.Writing.{more_kept, none_kept}
use Rattle.switch_meaning.proofs.keys.passing.Goals as goal
use Rattle.switch_meaning.proofs.keys.passing.Goals.{then-not-is_passed+in_ok-copy+in_ok-push, else-not-is_passed}

pub loop-entry-preserved : goal.loop-entry-preserved
loop-entry-preserved c =
    let found : PhysEntry → Bool = λ e. list_any (λ (d : PhysEntry). passes_over d e) c.args.entries.now in
    let xs = c.as_slice-entry-items.result.now in
    let i = c.loop-entry.entry-index in
    let x = c.entry-item.result in
    elim c.if-not-is_passed.branch [
      | then-not-is_passed+in_ok-copy+in_ok-push w ↦
          more_kept found xs i x c.loop-entry.kept c.if-not-is_passed.kept _ c.is_passed.result c.loop-entry-test.true
          c.entry-item.is c.is_passed.ensures w.if-not-is_passed.true
          (w.kept-is ∙ (w.in_ok-push.ensures.pushed ∙ ap (λ y. c.loop-entry.kept ++ y ∷ []) w.in_ok-copy.ensures))
          c.loop-entry.invariant
      | else-not-is_passed w ↦
          none_kept found xs i x c.loop-entry.kept c.if-not-is_passed.kept _ c.is_passed.result c.loop-entry-test.true
          c.entry-item.is c.is_passed.ensures w.if-not-is_passed.false w.kept-is c.loop-entry.invariant
    ]
