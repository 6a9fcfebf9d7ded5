use Rattle.std.proofs.Common.{rules, refl}
use Rattle.counting_machine.proofs.Ones.{one_more}
use Rattle.counting_machine.proofs.posts.post_ones.Goals as goal

pub loop-preserved : goal.loop-preserved
loop-preserved g c = let p = c.in_ok-post.ensures.posted in let inv = c.loop.invariant in (
  search rules,
  one_more _ _ c.args.seat.now.pass c.loop.seat.pass c.post.new.seat.pass c.loop.counter _ _ _ _
      inv.0.2 inv.1 p.1 (λ s. refl),
)
