use Rattle.std.proofs.Common.{◌+◌, ℕ, ap, refl, subst, sym}
use Rattle.replay_report.specs.Players.{form_of, plan_of, progress_of, reported}
use Rattle.covisor_proxy.specs.Asked.{cut_given_of, given_of}
use Rattle.covisor_proxy.specs.Following.{IsBegun}
use Rattle.covisor_proxy.specs.Outcomes.{moment}
use Rattle.covisor_proxy.proofs.Finishing.{reached-end, reaches-of, replayed-none}
use Rattle.covisor_proxy.proofs.ToldRuns.{told_end}
use Rattle.covisor_proxy.proofs.forms.replay.Goals as goal

pub returns-in_default-clause-ends : goal.returns-in_default-clause-ends
returns-in_default-clause-ends g c =
    let here = moment (g.S.Source.remaining c.args.input.now) (g.S.Source.faults c.args.input.now)
    (g.K.Sink.held c.args.out.now) (g.K.Sink.faults c.args.out.now) c.args.steps.now in
    replayed-none (given_of c.args.form c.args.policy) (cut_given_of c.args.form c.args.policy) here here refl refl

pub returns-in_default-begin-clause-ends : goal.returns-in_default-begin-clause-ends
returns-in_default-begin-clause-ends g c =
    let here = moment (g.S.Source.remaining c.args.input.now) (g.S.Source.faults c.args.input.now)
    (g.K.Sink.held c.args.out.now) (g.K.Sink.faults c.args.out.now) c.args.steps.now in
    replayed-none (given_of c.args.form c.args.policy) (cut_given_of c.args.form c.args.policy) here here refl refl

pub replay_over-outcome-requires-clause-begins : goal.replay_over-outcome-requires-clause-begins
replay_over-outcome-requires-clause-begins g c ks lives =
    let player = c.in-Ok-begin.player in
    subst (IsBegun (progress_of player)) (sym c.in-Ok-begin.ensures.plan) c.in-Ok-begin.ensures.begins

pub returns-clause-ends : goal.returns-clause-ends
returns-clause-ends g c =
    let begun = c.in-Ok-begin.player in
    let player = c.replay_over-outcome.new.player in
    let left = g.S.Source.remaining c.replay_over-outcome.new.input in
    let reads = g.S.Source.faults c.replay_over-outcome.new.input in
    let old = moment (g.S.Source.remaining c.args.input.now) (g.S.Source.faults c.args.input.now)
    (g.K.Sink.held c.args.out.now) (g.K.Sink.faults c.args.out.now) c.args.steps.now in
    let mid = moment left reads (g.K.Sink.held c.replay_over-outcome.new.out)
    (g.K.Sink.faults c.replay_over-outcome.new.out) c.replay_over-outcome.new.steps in
    c.conclude-status.ensures.ends c.args.form c.args.policy old left reads c.replay_over-outcome.new.steps
    (reaches-of c.replay_over-outcome.result c.args.form (form_of begun) c.args.policy (plan_of begun)
    (progress_of player) (reported player) old mid
    c.in-Ok-begin.ensures.form c.in-Ok-begin.ensures.plan c.replay_over-outcome.ensures.reaches)

pub returns-clause-whole : goal.returns-clause-whole
returns-clause-whole g c = λ done.
    let begun = c.in-Ok-begin.player in
    let player = c.replay_over-outcome.new.player in
    let old = moment (g.S.Source.remaining c.args.input.now) (g.S.Source.faults c.args.input.now)
    (g.K.Sink.held c.args.out.now) (g.K.Sink.faults c.args.out.now) c.args.steps.now in
    let mid = moment (g.S.Source.remaining c.replay_over-outcome.new.input)
    (g.S.Source.faults c.replay_over-outcome.new.input)
    (g.K.Sink.held c.replay_over-outcome.new.out) (g.K.Sink.faults c.replay_over-outcome.new.out)
    c.replay_over-outcome.new.steps in
    reached-end c.replay_over-outcome.result (form_of begun) (plan_of begun) (progress_of player) (reported player) old
    mid
    (c.conclude-status.ensures.done done) c.replay_over-outcome.ensures.reaches

pub returns-clause-notes : goal.returns-clause-notes
returns-clause-notes g c =
    let begun = c.in-Ok-begin.player in
    let player = c.replay_over-outcome.new.player in
    let left = g.S.Source.remaining c.replay_over-outcome.new.input in
    let reads = g.S.Source.faults c.replay_over-outcome.new.input in
    let old = moment (g.S.Source.remaining c.args.input.now) (g.S.Source.faults c.args.input.now)
    (g.K.Sink.held c.args.out.now) (g.K.Sink.faults c.args.out.now) c.args.steps.now in
    let mid = moment left reads (g.K.Sink.held c.replay_over-outcome.new.out)
    (g.K.Sink.faults c.replay_over-outcome.new.out) c.replay_over-outcome.new.steps in
    told_end c.conclude-status.result c.replay_over-outcome.result c.args.form c.args.policy (progress_of player)
    (reported player) old mid (c.number-number.result + 1) (g.N.Sink.held c.args.notes.now) (g.N.Sink.held c.note_end.new.notes)
    c.conclude-status.ensures.end
    (reaches-of c.replay_over-outcome.result c.args.form (form_of begun) c.args.policy (plan_of begun)
    (progress_of player) (reported player) old mid
    c.in-Ok-begin.ensures.form c.in-Ok-begin.ensures.plan c.replay_over-outcome.ensures.reaches)
    (ap (λ (n : ℕ). n + 1) c.number-number.ensures.number) c.note_end.ensures
