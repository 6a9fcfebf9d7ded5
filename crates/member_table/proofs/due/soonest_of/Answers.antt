use Rattle.std.proofs.Common.{◌∙◌, ◌<◌, ℕ, ap, arith, length, option_copied, subst, sym}
use Rattle.member_table.proofs.Copies.{held_at}
use Rattle.member_table.proofs.Quiet.{quiet_next}
use Rattle.member_table.proofs.due.soonest_of.Goals as goal
use Rattle.member_table.proofs.due.soonest_of.Goals.{in-Some, in_default}

pub loop-place-preserved : goal.loop-place-preserved
loop-place-preserved c =
    let es = c.args.order.now.entries in
    let n = c.loop-place.place in
    let within : n < length es = subst (λ (k : ℕ). n < k) c.len-place-end.ensures c.loop-place-test.true in
    elim c.match-at.branch [
      | in-Some w ↦ quiet_next c.loop-place.soonest c.match-at.soonest es n _
          (omega (arith, w.soonest-is, w.min-soonest.ensures)) w.in-Some.ensures
          (λ now less. w.soonest.ensures now (omega (arith, less, w.soonest-is, w.min-soonest.ensures)))
          c.loop-place.invariant
      | in_default w ↦ absurd (held_at es n within (ap option_copied (sym w.in_default.is) ∙ c.at.ensures))
    ]
