use Rattle.std.proofs.Common.{ℕ}
use Rattle.endpoint_works.specs.Sendings.{HasSent}
use Rattle.endpoint_works.proofs.sending.send.Given as goal

abbrev pub invariant-loop : goal.invariant-loop
invariant-loop g l = record {
  posted : HasSent (g.C.Clock.may l.fn.clock) l.sent.cut (g.D.Desk.posts l.fn.pass) (g.D.Desk.posts l.pass);
  no_more : (moment : ℕ) → g.C.Clock.may l.clock moment → g.C.Clock.may l.fn.clock moment;
  admits : g.D.Desk.admits l.desk l.pass;
}
