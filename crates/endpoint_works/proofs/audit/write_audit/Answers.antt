use Rattle.endpoint_works.proofs.Audits.{audited-dropped, rose-on}
use Rattle.endpoint_works.proofs.audit.write_audit.Goals as goal

pub returns-in-WriteFault-clause-posted : goal.returns-in-WriteFault-clause-posted
returns-in-WriteFault-clause-posted g c =
    audited-dropped (g.D.Desk.posts c.args.pass.now) (g.D.Desk.posts c.write_lines.new.pass)
    (g.K.Sink.held c.args.out.now) (g.K.Sink.held c.write_lines.new.out)
    (g.D.Desk.posts c.drop_lines.new.pass) (g.K.Sink.held c.drop_lines.new.out)
    (rw c.in-WriteFault.is at c.in_ok-end.ensures.posted) c.drop_lines.ensures.taken c.drop_lines.ensures.kept

pub returns-in-WriteFault-clause-end : goal.returns-in-WriteFault-clause-end
returns-in-WriteFault-clause-end g c =
    rose-on (g.K.Sink.faults c.args.out.now) (g.K.Sink.faults c.write_lines.new.out)
    (g.K.Sink.faults c.drop_lines.new.out) c.write_lines.ensures.never_falls
    (rw c.in-WriteFault.is at c.in_ok-end.ensures.end) c.drop_lines.ensures.never_falls
