use Rattle.std.proofs.Common.{◌+◌, Err, refl, subst, sym}
use Rattle.replay_report.specs.Players.{progress_of, reported}
use Rattle.replay_report.specs.Reports.{refusal_text}
use Rattle.covisor_proxy.specs.Asked.{cut_given_of, given_of}
use Rattle.covisor_proxy.specs.Following.{Reaches}
use Rattle.replay_report.specs.Takings.{as_line}
use Rattle.covisor_proxy.specs.Noted.{IsEnd}
use Rattle.covisor_proxy.specs.Outcomes.{Replayed, moment}
use Rattle.covisor_proxy.specs.declared.status.Status.{Status}
use Rattle.covisor_proxy.specs.declared.stop.Stop.{Stop}
use Rattle.covisor_proxy.specs.declared.stop.Stop.TheVariants.{Memory, Read, Refused, Write}
use Rattle.covisor_proxy.proofs.Counting.{cut-whole}
use Rattle.covisor_proxy.proofs.Finishing.{breaks-off, ends-begun, ends-short, ends-stopped}
use Rattle.covisor_proxy.proofs.ToldRuns.{stop_of}
use Rattle.covisor_proxy.proofs.ending.stopped.Goals as goal

pub returns-in-Refused-clause-ends : goal.returns-in-Refused-clause-ends
returns-in-Refused-clause-ends g c = λ form p old left reads steps r.
    let at = progress_of c.args.player.now in
    let w = reported c.args.player.now in
    let mid = moment left reads (g.K.Sink.held c.args.out.now) (g.K.Sink.faults c.args.out.now) steps in
    let new = moment left reads (g.K.Sink.held c.refuse.new.out) (g.K.Sink.faults c.refuse.new.out) steps in
    let there : Reaches (Err (Refused c.in-Refused.kind)) form p at w old mid =
    subst (λ (x : Stop). Reaches (Err x) form p at w old mid) c.in-Refused.is r in
    ends-stopped c.refuse.result (given_of form p) (cut_given_of form p)
    (refusal_text (at.number + 1) c.in-Refused.kind) old mid new w there.0 refl there.1 c.refuse.ensures

pub returns-in-Read-clause-ends : goal.returns-in-Read-clause-ends
returns-in-Read-clause-ends g c = λ form p old left reads steps r.
    let at = progress_of c.args.player.now in
    let w = reported c.args.player.now in
    let mid = moment left reads (g.K.Sink.held c.args.out.now) (g.K.Sink.faults c.args.out.now) steps in
    let new = moment left reads (g.K.Sink.held c.write_fault.new.out) (g.K.Sink.faults c.write_fault.new.out) steps in
    let there : Reaches (Err Read) form p at w old mid =
    subst (λ (x : Stop). Reaches (Err x) form p at w old mid) c.in-Read.is r in
    subst (λ (x : Status). Replayed x (given_of form p) (cut_given_of form p) old new)
    (sym c.write_fault.ensures.status)
    (breaks-off (given_of form p) (cut_given_of form p) old mid new there.0 there.1 there.2 refl refl refl
    (cut-whole form p there.0.read) c.write_fault.ensures.writes)

pub returns-in-Write-clause-ends : goal.returns-in-Write-clause-ends
returns-in-Write-clause-ends g c = λ form p old left reads steps r.
    let mid = moment left reads (g.K.Sink.held c.args.out.now) (g.K.Sink.faults c.args.out.now) steps in
    let there : Reaches (Err Write) form p (progress_of c.args.player.now) (reported c.args.player.now) old mid =
    subst (λ (x : Stop). Reaches (Err x) form p (progress_of c.args.player.now) (reported c.args.player.now) old mid)
    c.in-Write.is r in
    ends-short (given_of form p) (cut_given_of form p) old mid there.0 there.1

pub returns-in-Memory-clause-ends : goal.returns-in-Memory-clause-ends
returns-in-Memory-clause-ends g c = λ form p old left reads steps r.
    let mid = moment left reads (g.K.Sink.held c.args.out.now) (g.K.Sink.faults c.args.out.now) steps in
    let there : Reaches (Err Memory) form p (progress_of c.args.player.now) (reported c.args.player.now) old mid =
    subst (λ (x : Stop). Reaches (Err x) form p (progress_of c.args.player.now) (reported c.args.player.now) old mid)
    c.in-Memory.is r in
    ends-begun (given_of form p) (cut_given_of form p) old mid there

pub returns-in-Refused-clause-end : goal.returns-in-Refused-clause-end
returns-in-Refused-clause-end g c =
    subst (λ (x : Stop). IsEnd c.refuse.result (Err x)) (sym c.in-Refused.is)
    (stop_of c.refuse.result (g.K.Sink.held c.args.out.now) (g.K.Sink.held c.refuse.new.out)
    (g.K.Sink.faults c.args.out.now) (g.K.Sink.faults c.refuse.new.out) (reported c.args.player.now)
    (as_line (refusal_text ((progress_of c.args.player.now).number + 1) c.in-Refused.kind)) c.in-Refused.kind
    c.refuse.ensures)

pub returns-in-Read-clause-end : goal.returns-in-Read-clause-end
returns-in-Read-clause-end g c =
    subst (λ (x : Status). IsEnd x (Err c.args.stop)) (sym c.write_fault.ensures.status) tt
