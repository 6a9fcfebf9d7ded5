use Rattle.std.proofs.Common.{rules, ◌≡◌, ◌∙◌, ◌∷◌, ap, sym}
use Rattle.policy_lock.proofs.Missing.{found, passed}
use Rattle.policy_lock.proofs.count.has_child.Goals as goal

pub returns-then-is_child : goal.returns-then-is_child
returns-then-is_child g c = let number = ap (λ s. s.pass.number) (sym c.seat.view_is) ∙ c.seat.invariant.1 in
    sym (found (c.args.k ∷ c.args.number.now) c.args.seats.now c.loop-seat.seat-index c.seat-item.result (search rules)
    c.seat-item.is (number ∙ search rules)) ∙ c.loop-seat.invariant

pub loop-seat-preserved : goal.loop-seat-preserved
loop-seat-preserved g c = let number = ap (λ s. s.pass.number) (sym c.seat.view_is) ∙ c.seat.invariant.1 in
    sym (passed (c.args.k ∷ c.args.number.now) c.args.seats.now c.loop-seat.seat-index c.seat-item.result (search rules)
    c.seat-item.is (λ e. let same : c.seat.inside.number ≡ c.args.k ∷ c.args.number.now = sym number
    ∙ e in search rules)) ∙ c.loop-seat.invariant
