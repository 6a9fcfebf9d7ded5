use Rattle.std.proofs.Common.{Result, Ok, Err, refl, subst, sym}
use Rattle.replay_report.specs.Players.{progress_of, reported}
use Rattle.replay_report.specs.Reports.{end_text}
use Rattle.covisor_proxy.specs.Asked.{cut_given_of, given_of}
use Rattle.covisor_proxy.specs.Following.{Reaches}
use Rattle.replay_report.specs.Takings.{as_line}
use Rattle.covisor_proxy.specs.Noted.{IsEnd}
use Rattle.covisor_proxy.specs.Outcomes.{moment}
use Rattle.covisor_proxy.proofs.ToldRuns.{end_of}
use Rattle.covisor_proxy.specs.declared.stop.Stop.{Stop}
use Rattle.covisor_proxy.proofs.Finishing.{ends-done}
use Rattle.covisor_proxy.proofs.ending.conclude.Goals as goal

pub returns-in-Ok-clause-ends : goal.returns-in-Ok-clause-ends
returns-in-Ok-clause-ends g c = λ form p old left reads steps r.
    let at = progress_of c.args.player.now in
    let w = reported c.args.player.now in
    let mid = moment left reads (g.K.Sink.held c.args.out.now) (g.K.Sink.faults c.args.out.now) steps in
    let new = moment left reads (g.K.Sink.held c.end.new.out) (g.K.Sink.faults c.end.new.out) steps in
    let there : Reaches (Ok c.in-Ok.field-0) form p at w old mid =
    subst (λ (x : Result (Unit {0}) Stop). Reaches x form p at w old mid) c.in-Ok.is r in
    ends-done c.end.result (given_of form p) (cut_given_of form p) (end_text at.number) old mid new w there.0 refl
    there.2 there.3 c.end.ensures

pub returns-in-Err-clause-ends : goal.returns-in-Err-clause-ends
returns-in-Err-clause-ends g c = λ form p old left reads steps r.
    let mid = moment left reads (g.K.Sink.held c.args.out.now) (g.K.Sink.faults c.args.out.now) steps in
    c.stopped.ensures.ends form p old left reads steps
    (subst (λ (x : Result (Unit {0}) Stop). Reaches x form p (progress_of c.args.player.now)
    (reported c.args.player.now) old mid) c.in-Err.is r)

pub returns-in-Ok-clause-end : goal.returns-in-Ok-clause-end
returns-in-Ok-clause-end g c =
    subst (λ (x : Result (Unit {0}) Stop). IsEnd c.end.result x) (sym c.in-Ok.is)
    (end_of c.end.result (g.K.Sink.held c.args.out.now) (g.K.Sink.held c.end.new.out) (g.K.Sink.faults c.args.out.now)
    (g.K.Sink.faults c.end.new.out) (reported c.args.player.now)
    (as_line (end_text (progress_of c.args.player.now).number)) c.in-Ok.field-0 c.end.ensures)

pub returns-in-Err-clause-end : goal.returns-in-Err-clause-end
returns-in-Err-clause-end g c =
    subst (λ (x : Result (Unit {0}) Stop). IsEnd c.stopped.result x) (sym c.in-Err.is) c.stopped.ensures.end
