use Rattle.std.proofs.Common.{◌∙◌, ◌<◌, ℕ, ap, length, option_copied, subst, sym}
use Rattle.member_table.specs.Timeouts.{is_hard_due, is_idle_due}
use Rattle.member_table.specs.declared.change.Due.{Due}
use Rattle.member_table.proofs.Copies.{held_at}
use Rattle.member_table.proofs.Quiet.{due_next}
use Rattle.member_table.proofs.due.due_in.Goals as goal
use Rattle.member_table.proofs.due.due_in.Goals.{in-Some+in_ok-add, in_default}

pub loop-place-preserved : goal.loop-place-preserved
loop-place-preserved c =
    let es = c.args.order.now.entries in
    let now = c.args.now in
    let n = c.loop-place.place in
    let before = c.loop-place.due in
    let within : n < length es = subst (λ (k : ℕ). n < k) c.len-place-end.ensures c.loop-place-test.true in
    elim c.match-at.branch [
      | in-Some+in_ok-add w ↦ record {
        hard = due_next (is_hard_due now) es n _ before.hard c.match-at.due.hard _ w.in-Some.ensures
            (ap (λ (d : Due). d.hard) w.due-is ∙ w.in_ok-add.ensures.hard) c.loop-place.invariant.hard;
        idle = due_next (is_idle_due now) es n _ before.idle c.match-at.due.idle _ w.in-Some.ensures
            (ap (λ (d : Due). d.idle) w.due-is ∙ w.in_ok-add.ensures.idle) c.loop-place.invariant.idle;
      }
      | in_default w ↦ absurd (held_at es n within (ap option_copied (sym w.in_default.is) ∙ c.at.ensures))
    ]
