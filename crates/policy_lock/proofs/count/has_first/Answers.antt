use Rattle.std.proofs.Common.{rules, ◌≡◌, ◌∙◌, [], ap, sym, length}
use Rattle.policy_lock.proofs.Missing.{passed}
use Rattle.policy_lock.proofs.count.has_first.Goals as goal

pub loop-seat-preserved : goal.loop-seat-preserved
loop-seat-preserved g c = let number = ap (λ s. s.pass.number) (sym c.seat.view_is) ∙ c.seat.invariant.1 in
    sym (passed [] c.args.seats.now c.loop-seat.seat-index c.seat-item.result (search rules) c.seat-item.is
    (λ e. let none : length c.seat.inside.number ≡ 0 = ap length (sym number ∙ e) in search rules))
    ∙ c.loop-seat.invariant
