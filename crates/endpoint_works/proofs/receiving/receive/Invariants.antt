use Rattle.std.proofs.Common.{◌≡◌, List}
use Rattle.endpoint_works.specs.Chains.{AreRounds}
use Rattle.endpoint_works.proofs.receiving.receive.Given as goal

abbrev pub invariant-loop : goal.invariant-loop
invariant-loop g l = record {
  passes : List g.row.D-Pass.Denot;
  rounds : AreRounds g.D.Desk.posts g.D.Desk.ended g.D.LaterDesk.later l.side l.wanted (g.A.Arrivals.left l.fn.arrivals)
      (g.A.Arrivals.left l.arrivals) l.fn.pass l.pass passes;
  admits : g.D.Desk.admits l.desk l.pass;
  reliable : g.A.Arrivals.is_reliable l.arrivals ≡ g.A.Arrivals.is_reliable l.fn.arrivals;
}
