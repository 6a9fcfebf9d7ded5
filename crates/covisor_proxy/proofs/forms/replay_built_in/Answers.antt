use Rattle.std.proofs.Common.{refl}
use Rattle.covisor_proxy.specs.Asked.{cut_given_of, given_of, over_built_in}
use Rattle.covisor_proxy.specs.BuiltIn.{built_in_read}
use Rattle.covisor_proxy.specs.Outcomes.{moment}
use Rattle.covisor_proxy.proofs.Finishing.{over-built-in, replayed-none}
use Rattle.covisor_proxy.proofs.ToldRuns.{built_in_over}
use Rattle.covisor_proxy.proofs.forms.replay_built_in.Goals as goal

pub returns-in-Ok-clause-ends : goal.returns-in-Ok-clause-ends
returns-in-Ok-clause-ends g c =
    let old = moment (g.S.Source.remaining c.args.input.now) (g.S.Source.faults c.args.input.now)
    (g.K.Sink.held c.args.out.now) (g.K.Sink.faults c.args.out.now) c.args.steps.now in
    let new = moment (g.S.Source.remaining c.replay.new.input) (g.S.Source.faults c.replay.new.input)
    (g.K.Sink.held c.replay.new.out) (g.K.Sink.faults c.replay.new.out) c.replay.new.steps in
    over-built-in c.replay.result built_in_read c.in-Ok.policy old new c.in-Ok.ensures c.replay.ensures.ends

pub returns-in-Err-clause-ends : goal.returns-in-Err-clause-ends
returns-in-Err-clause-ends g c =
    let here = moment (g.S.Source.remaining c.args.input.now) (g.S.Source.faults c.args.input.now)
    (g.K.Sink.held c.args.out.now) (g.K.Sink.faults c.args.out.now) c.args.steps.now in
    replayed-none (over_built_in given_of built_in_read) (over_built_in cut_given_of built_in_read) here here refl refl

pub returns-in-Ok-clause-notes : goal.returns-in-Ok-clause-notes
returns-in-Ok-clause-notes g c =
    built_in_over c.replay.result built_in_read c.in-Ok.policy (g.S.Source.remaining c.args.input.now)
    (g.N.Sink.held c.args.notes.now) (g.N.Sink.held c.replay.new.notes) c.in-Ok.ensures c.replay.ensures.notes
