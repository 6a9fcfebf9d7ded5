use Rattle.std.proofs.Common.{ℕ, subst, sym}
use Rattle.sessions.specs.Writing.{IsReached}
use Rattle.endpoint_works.specs.Sendings.{HasSent}
use Rattle.endpoint_works.specs.declared.sending.Sent.{Sent}
use Rattle.endpoint_works.proofs.Sendings.{sent-closed, sent-fault, sent-wanted}
use Rattle.endpoint_works.proofs.sending.send.Goals.{in-Ok-Closed, in-Ok-WriteFault, in-Err}
use Rattle.endpoint_works.proofs.sending.send.Goals as goal

pub loop-preserved : goal.loop-preserved
loop-preserved g c =
    let p = g.D.Desk.posts c.args.pass.now in
    let q = g.D.Desk.posts c.loop.pass in
    let r = g.D.Desk.posts c.run_writer.new.pass in
    let s = c.in-Some-take.hand.session in
    let known = c.in-Some-take.hand.of_endpoint in
    let h = c.loop.invariant.posted in
    let may = g.C.Clock.may c.args.clock.now in
    let some : (n : ℕ) → IsReached (g.C.Clock.may c.loop.clock) (g.C.Clock.greatest c.run_writer.new.clock) n → may n =
    λ n is. c.loop.invariant.no_more n is.1 in
    record {
      posted = elim c.match-run_writer.branch [
        | in-Ok-Closed w ↦ subst (λ (z : Sent). HasSent may z.cut p r) (sym w.sent-is)
            (let e = rw w.in-Ok-Closed.field-0-is at w.in-Ok-Closed.ensures.posted in
            sent-closed may s known _ some p q r _ _ c.loop.sent.cut h e.0)
        | in-Ok-WriteFault w ↦ subst (λ (z : Sent). HasSent may z.cut p r) (sym w.sent-is)
            (sent-fault may s known _ some p q r _ _ c.loop.sent.cut (g.D.Desk.ended c.run_writer.new.pass s) h
            (rw w.in-Ok-WriteFault.field-0-is at w.in-Ok-WriteFault.ensures.posted))
        | in-Err w ↦ subst (λ (z : Sent). HasSent may z.cut p r) (sym w.sent-is)
            (sent-wanted may s known _ some p q r _ _ c.loop.sent.cut _ h w.in-Err.ensures.memory)
      ];
      no_more = λ n is. c.loop.invariant.no_more n (c.run_writer.ensures.no_more n is);
      admits = c.run_writer.ensures.pass;
    }
