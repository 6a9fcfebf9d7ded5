use Rattle.std.proofs.Common.{rules, arith, suc, ◌≡◌, ◌∷◌, subst, All}
use Rattle.policy_lock.specs.Seat.{IsSeatOf}
use Rattle.bench_parts.proofs.lock.under_lock.jobs.Goals as goal

pub loop-seat-preserved : goal.loop-seat-preserved
loop-seat-preserved c = let eq : c.loop-seat.seats.items ≡ c.in-Some.seat ∷ c.pop_front.new.self.items = search rules in
    let theirs = subst (All (IsSeatOf c.args.lock.now)) eq c.loop-seat.invariant in
    λ k d lt. theirs (suc k) d (omega arith)
