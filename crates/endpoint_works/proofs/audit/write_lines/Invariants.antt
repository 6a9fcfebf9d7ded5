use Rattle.std.proofs.Common.{◌≡◌}
use Rattle.endpoint_works.specs.Audits.{HasAudited}
use Rattle.endpoint_works.proofs.audit.write_lines.Given as goal

abbrev pub invariant-loop : goal.invariant-loop
invariant-loop g l = record {
  audited : HasAudited (g.D.Desk.posts l.fn.pass) (g.K.Sink.held l.fn.out) (g.K.Sink.held l.out)
      (g.D.Desk.posts l.pass);
  faults : g.K.Sink.faults l.out ≡ g.K.Sink.faults l.fn.out;
  admits : g.D.Desk.admits l.desk l.pass;
}
