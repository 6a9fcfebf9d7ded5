use Rattle.std.proofs.Common.{◌<◌, length, ap, ◌∙◌, Some}
use Rattle.std.specs.Option.{option_copied}
use Rattle.policy_meaning.proofs.Entries.{reads-higher, reads-first, reads-other}
use Rattle.policy_meaning.proofs.leaf.LeafTable.best_entry.Goals as goal
use Rattle.policy_meaning.proofs.leaf.LeafTable.best_entry.Goals.{then-holds, in-Some, in-None, else-holds}

pub loop-entry-preserved : goal.loop-entry-preserved
loop-entry-preserved c =
    let lt : c.loop-entry.entry-index < length c.as_slice-entry-items.result.now = c.loop-entry-test.true in
    let items = c.as_slice-entry-items.result.now in
    let i = c.loop-entry.entry-index in
    let e = c.entry-item.result in
    let before = option_copied c.loop-entry.best in
    let after = option_copied c.if-holds.best in
    elim c.if-holds.branch [
      | then-holds w ↦
          elim w.match-best.branch [
            | in-Some v ↦
                reads-higher items i e c.args.header.now lt c.entry-item.is before after c.loop-entry.invariant
                c.holds.result c.holds.ensures v.in-Some.other.now v.pick.result.now
                w.if-holds.true (ap option_copied v.in-Some.is) v.pick.ensures
                (ap option_copied (w.best-is ∙ ap Some v.best-is))
            | in-None v ↦
                reads-first items i e c.args.header.now lt c.entry-item.is before after c.loop-entry.invariant
                c.holds.result c.holds.ensures
                w.if-holds.true (ap option_copied v.in-None.is) (ap option_copied (w.best-is ∙ ap Some v.best-is))
          ]
      | else-holds w ↦
          reads-other items i e c.args.header.now lt c.entry-item.is before after c.loop-entry.invariant c.holds.result
          c.holds.ensures w.if-holds.false (ap option_copied w.best-is)
    ]
