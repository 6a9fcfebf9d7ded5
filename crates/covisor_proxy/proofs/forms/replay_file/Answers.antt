use Rattle.std.proofs.Common.{Ok}
use Rattle.covisor_proxy.specs.Asked.{cut_given_of, given_of, stated}
use Rattle.covisor_proxy.specs.Outcomes.{moment}
use Rattle.covisor_proxy.proofs.Finishing.{over-policy, replayed-unopened}
use Rattle.covisor_proxy.proofs.ToldRuns.{held_over, none_held}
use Rattle.covisor_proxy.proofs.forms.replay_file.Goals as goal

pub returns-in-Ok-clause-ends : goal.returns-in-Ok-clause-ends
returns-in-Ok-clause-ends g c =
    let old = moment (g.S.Source.remaining c.args.input.now) (g.S.Source.faults c.args.input.now)
    (g.K.Sink.held c.args.out.now) (g.K.Sink.faults c.args.out.now) c.args.steps.now in
    let new = moment (g.S.Source.remaining c.replay.new.input) (g.S.Source.faults c.replay.new.input)
    (g.K.Sink.held c.replay.new.out) (g.K.Sink.faults c.replay.new.out) c.replay.new.steps in
    let o = c.in-Ok.ensures in
    (Ok o.0, o.1, over-policy c.replay.result c.args.form (stated o.0) c.in-Ok.policy old new o.2 c.replay.ensures.ends)

pub returns-in-Err-clause-ends : goal.returns-in-Err-clause-ends
returns-in-Err-clause-ends g c =
    let old = moment (g.S.Source.remaining c.args.input.now) (g.S.Source.faults c.args.input.now)
    (g.K.Sink.held c.args.out.now) (g.K.Sink.faults c.args.out.now) c.args.steps.now in
    let new = moment (g.S.Source.remaining c.args.input.now) (g.S.Source.faults c.args.input.now)
    (g.K.Sink.held c.tell.new.out) (g.K.Sink.faults c.tell.new.out) c.args.steps.now in
    let files = g.F.Files.files c.args.files.now in
    let fails = g.F.Files.faults c.args.files.now in
    let fails' = g.F.Files.faults c.open.new.files in
    replayed-unopened c.tell.result c.args.form c.args.name.now files fails fails' old new
    (c.tell.ensures.ends files fails fails' given_of cut_given_of c.args.form
    (g.S.Source.remaining c.args.input.now) (g.S.Source.faults c.args.input.now) c.args.steps.now c.in-Err.ensures)

pub returns-in-Ok-clause-notes : goal.returns-in-Ok-clause-notes
returns-in-Ok-clause-notes g c =
    let o = c.in-Ok.ensures in (
      Ok o.0,
      o.1,
      held_over c.replay.result c.args.form c.args.name.now o.0 c.in-Ok.policy (g.S.Source.remaining c.args.input.now)
          (g.N.Sink.held c.args.notes.now) (g.N.Sink.held c.replay.new.notes) o.2 c.replay.ensures.notes,
    )

pub returns-in-Err-clause-notes : goal.returns-in-Err-clause-notes
returns-in-Err-clause-notes g c =
    let n = none_held c.in-Err.fault c.tell.result c.args.form c.args.name.now (g.F.Files.files c.args.files.now)
    (g.F.Files.faults c.args.files.now) (g.F.Files.faults c.open.new.files) (g.S.Source.remaining c.args.input.now)
    (g.N.Sink.held c.args.notes.now) (g.N.Sink.held c.tell.new.notes) c.in-Err.ensures c.tell.ensures.notes in
    (n.0, n.1, n.3)
