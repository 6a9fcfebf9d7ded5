use Rattle.std.proofs.Common.{◌<◌, ◌+◌, length, Some, option_copied, sym, ap, subst, ◌∙◌}
use Rattle.std.specs.List.{list_any}
use Rattle.member_table.specs.Entries.{has_serial}
use Rattle.member_table.specs.InsideOrders.{OrderOf}
use Rattle.member_table.proofs.Copies.{IsCopiedTo, fresh_before, copied_next, held_at}
use Rattle.member_table.proofs.copy.copied.Goals as goal
use Rattle.member_table.proofs.copy.copied.Goals.{in-Some+in_ok-copy+in-Some-1, in-Some+in_ok-copy+in-None-1}
use Rattle.member_table.proofs.copy.copied.Goals.{in_default}

pub put-requires-clause-serial : goal.put-requires-clause-serial
put-requires-clause-serial c =
    ap (list_any (has_serial c.in_ok-copy.field-0.serial)) c.loop-place.invariant.0
    ∙ fresh_before c.args.order.now.entries c.loop-place.place c.in_ok-copy.field-0 c.requires.once
    (sym c.in-Some.ensures ∙ ap Some (sym c.in_ok-copy.ensures))

pub loop-place-preserved : goal.loop-place-preserved
loop-place-preserved c =
    let es = c.args.order.now.entries in
    let next : OrderOf → Type 0 = IsCopiedTo es (c.loop-place.place + 1) in
    let within : c.loop-place.place < length es =
    subst (λ n. c.loop-place.place < n) c.len-place-end.ensures c.loop-place-test.true in
    elim c.match-at.branch [
      | in-Some+in_ok-copy+in-Some-1 w ↦
          subst next (sym w.copied-is)
          (copied_next es c.loop-place.place c.loop-place.copied _ _ _ c.requires.apart c.loop-place.invariant
          w.in-Some.ensures w.in_ok-copy.ensures w.put.ensures.entries w.put.ensures.room)
      | in-Some+in_ok-copy+in-None-1 w ↦
          subst next (sym w.copied-is)
          (copied_next es c.loop-place.place c.loop-place.copied _ _ _ c.requires.apart c.loop-place.invariant
          w.in-Some.ensures w.in_ok-copy.ensures w.put.ensures.entries w.put.ensures.room)
      | in_default w ↦ absurd
          (held_at es c.loop-place.place within (ap option_copied (sym w.in_default.is) ∙ c.at.ensures))
    ]
