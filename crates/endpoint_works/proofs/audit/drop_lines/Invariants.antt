use Rattle.std.proofs.Common.{◌≡◌, ◌≤◌}
use Rattle.endpoint_works.specs.Audits.{TakesLines}
use Rattle.endpoint_works.proofs.audit.drop_lines.Given as goal

abbrev pub invariant-loop : goal.invariant-loop
invariant-loop g l = record {
  taken : TakesLines (g.D.Desk.posts l.initial.pass) (g.D.Desk.posts l.pass);
  kept : g.K.Sink.held l.out ≡ g.K.Sink.held l.initial.out;
  faults : g.K.Sink.faults l.initial.out ≤ g.K.Sink.faults l.out;
  admits : g.D.Desk.admits l.desk l.pass;
}
