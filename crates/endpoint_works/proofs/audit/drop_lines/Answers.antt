use Rattle.std.proofs.Common.{◌≤◌, ℕ, ◌∙◌, arith}
use Rattle.endpoint_works.proofs.Audits.{takes-both}
use Rattle.endpoint_works.proofs.audit.drop_lines.Goals as goal

le-on : (a b c : ℕ) → a ≤ b → b ≤ c → a ≤ c
le-on a b c low more = omega arith

pub loop-preserved-in-Line : goal.loop-preserved-in-Line
loop-preserved-in-Line g c = record {
  taken = takes-both (g.D.Desk.posts c.args.pass.now) (g.D.Desk.posts c.loop.pass)
      (g.D.Desk.posts c.drop_line.new.pass) c.loop.invariant.taken c.drop_line.ensures.taken;
  kept = c.loop.invariant.kept;
  faults = c.loop.invariant.faults;
  admits = c.drop_line.ensures.pass;
}

pub returns-in-Closed-clause-taken : goal.returns-in-Closed-clause-taken
returns-in-Closed-clause-taken g c =
    takes-both (g.D.Desk.posts c.args.pass.now) (g.D.Desk.posts c.loop.pass) (g.D.Desk.posts c.drop_line.new.pass)
    c.loop.invariant.taken c.drop_line.ensures.taken

pub returns-then-over-clause-taken : goal.returns-then-over-clause-taken
returns-then-over-clause-taken g c =
    takes-both (g.D.Desk.posts c.args.pass.now) (g.D.Desk.posts c.loop.pass) (g.D.Desk.posts c.drop_line.new.pass)
    c.loop.invariant.taken c.drop_line.ensures.taken

pub loop-preserved : goal.loop-preserved
loop-preserved g c = record {
  taken = takes-both (g.D.Desk.posts c.args.pass.now) (g.D.Desk.posts c.loop.pass)
      (g.D.Desk.posts c.drop_line.new.pass) c.loop.invariant.taken c.drop_line.ensures.taken;
  kept = c.flush.ensures.kept ∙ c.loop.invariant.kept;
  faults = le-on (g.K.Sink.faults c.args.out.now) (g.K.Sink.faults c.loop.out) (g.K.Sink.faults c.flush.new.self)
      c.loop.invariant.faults c.flush.ensures.never_falls;
  admits = c.drop_line.ensures.pass;
}
