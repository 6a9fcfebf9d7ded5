use Rattle.std.proofs.Common.{[], Err, Some, refl, subst, sym}
use Rattle.std.proofs.lemmas.Bool.{false≢true}
use Rattle.outside.specs.declared.files.FileFault.TheVariants as faults
use Rattle.made_script.specs.Summary.{summary_text}
use Rattle.replay_report.specs.Making.{made_of}
use Rattle.hyper_core.specs.contracts.machine.HyperMachine.TheImpl.{ghosts as hyper}
use Rattle.covisor_proxy.specs.Asked.{cut_given_for, given_for}
use Rattle.replay_report.specs.Takings.{as_line}
use Rattle.covisor_proxy.specs.Noted.{Notes}
use Rattle.covisor_proxy.specs.Outcomes.{code_of}
use Rattle.covisor_proxy.specs.Outside.{outside_of}
use Rattle.covisor_proxy.specs.Runs.{Runs}
use Rattle.command_line.specs.declared.command.Command.{Command}
use Rattle.command_line.specs.declared.command.Command.TheVariants.{ExplainPolicy, Make, Replay, ReplayPolicy}
use Rattle.covisor_proxy.proofs.Finishing.{ends-made}
use Rattle.covisor_proxy.proofs.Joining.{runs-unserved}
use Rattle.covisor_proxy.proofs.ToldRuns.{built_in_noted, explain_held, made_noted, replay_held}
use Rattle.covisor_proxy.proofs.program.obey.Goals as goal

pub returns-in-Replay-clause-runs : goal.returns-in-Replay-clause-runs
returns-in-Replay-clause-runs g c =
    let may = g.C.Clock.may c.args.clock.now in
    let before = outside_of (g.F.Files.files c.args.files.now) (g.F.Files.faults c.args.files.now)
    (g.S.Source.remaining c.args.input.now) (g.S.Source.faults c.args.input.now) (g.K.Sink.held c.args.out.now) (g.K.Sink.faults c.args.out.now)
    (g.L.Links.told c.args.links.now) (g.L.Links.is_reliable c.args.links.now) (g.L.Links.faults c.args.links.now)
    (g.P.Spawner.faults c.args.spawner.now) c.args.steps.now in
    let after = outside_of (g.F.Files.files c.args.files.now) (g.F.Files.faults c.args.files.now)
    (g.S.Source.remaining c.replay_built_in.new.input) (g.S.Source.faults c.replay_built_in.new.input) (g.K.Sink.held c.replay_built_in.new.out) (g.K.Sink.faults c.replay_built_in.new.out)
    (g.L.Links.told c.args.links.now) (g.L.Links.is_reliable c.args.links.now) (g.L.Links.faults c.args.links.now)
    (g.P.Spawner.faults c.args.spawner.now) c.replay_built_in.new.steps in
    subst (λ (x : Command). Runs hyper may before after (code_of c.replay_built_in.result) (Some x)) (sym c.in-Replay.is)
    (runs-unserved hyper may before after c.replay_built_in.result (Some Replay) (Err faults.Memory) tt refl
    (λ is has. c.replay_built_in.ensures.whole is) c.replay_built_in.ensures.ends)

pub returns-in-Make-clause-runs : goal.returns-in-Make-clause-runs
returns-in-Make-clause-runs g c =
    let may = g.C.Clock.may c.args.clock.now in
    let before = outside_of (g.F.Files.files c.args.files.now) (g.F.Files.faults c.args.files.now)
    (g.S.Source.remaining c.args.input.now) (g.S.Source.faults c.args.input.now) (g.K.Sink.held c.args.out.now) (g.K.Sink.faults c.args.out.now)
    (g.L.Links.told c.args.links.now) (g.L.Links.is_reliable c.args.links.now) (g.L.Links.faults c.args.links.now)
    (g.P.Spawner.faults c.args.spawner.now) c.args.steps.now in
    let after = outside_of (g.F.Files.files c.args.files.now) (g.F.Files.faults c.args.files.now)
    (g.S.Source.remaining c.args.input.now) (g.S.Source.faults c.args.input.now) (g.K.Sink.held c.make.new.out) (g.K.Sink.faults c.make.new.out)
    (g.L.Links.told c.args.links.now) (g.L.Links.is_reliable c.args.links.now) (g.L.Links.faults c.args.links.now)
    (g.P.Spawner.faults c.args.spawner.now) c.make.new.steps in
    subst (λ (x : Command). Runs hyper may before after (code_of c.make.result) (Some x)) (sym c.in-Make.is)
    (runs-unserved hyper may before after c.make.result (Some (Make c.in-Make.seed c.in-Make.count)) (Err faults.Memory)
    tt refl (λ is has. absurd (false≢true has))
    (ends-made c.make.result (given_for (Some (Make c.in-Make.seed c.in-Make.count)) (Err faults.Memory))
    (cut_given_for (Some (Make c.in-Make.seed c.in-Make.count)) (Err faults.Memory))
    (summary_text (made_of c.in-Make.seed c.in-Make.count)) before.now after.now
    (λ script. refl) (λ script. c.make.ensures.steps) refl c.make.ensures.ends))

pub returns-in-ReplayPolicy-clause-runs : goal.returns-in-ReplayPolicy-clause-runs
returns-in-ReplayPolicy-clause-runs g c =
    let may = g.C.Clock.may c.args.clock.now in
    let before = outside_of (g.F.Files.files c.args.files.now) (g.F.Files.faults c.args.files.now)
    (g.S.Source.remaining c.args.input.now) (g.S.Source.faults c.args.input.now) (g.K.Sink.held c.args.out.now) (g.K.Sink.faults c.args.out.now)
    (g.L.Links.told c.args.links.now) (g.L.Links.is_reliable c.args.links.now) (g.L.Links.faults c.args.links.now)
    (g.P.Spawner.faults c.args.spawner.now) c.args.steps.now in
    let after = outside_of (g.F.Files.files c.replay_file.new.files) (g.F.Files.faults c.replay_file.new.files)
    (g.S.Source.remaining c.replay_file.new.input) (g.S.Source.faults c.replay_file.new.input) (g.K.Sink.held c.replay_file.new.out) (g.K.Sink.faults c.replay_file.new.out)
    (g.L.Links.told c.args.links.now) (g.L.Links.is_reliable c.args.links.now) (g.L.Links.faults c.args.links.now)
    (g.P.Spawner.faults c.args.spawner.now) c.replay_file.new.steps in
    subst (λ (x : Command). Runs hyper may before after (code_of c.replay_file.result) (Some x)) (sym c.in-ReplayPolicy.is)
    (let e = c.replay_file.ensures.ends in
    runs-unserved hyper may before after c.replay_file.result (Some (ReplayPolicy c.in-ReplayPolicy.name)) e.0 e.1 refl
    (λ is has. c.replay_file.ensures.whole is) e.2)

pub returns-in-ExplainPolicy-clause-runs : goal.returns-in-ExplainPolicy-clause-runs
returns-in-ExplainPolicy-clause-runs g c =
    let may = g.C.Clock.may c.args.clock.now in
    let before = outside_of (g.F.Files.files c.args.files.now) (g.F.Files.faults c.args.files.now)
    (g.S.Source.remaining c.args.input.now) (g.S.Source.faults c.args.input.now) (g.K.Sink.held c.args.out.now) (g.K.Sink.faults c.args.out.now)
    (g.L.Links.told c.args.links.now) (g.L.Links.is_reliable c.args.links.now) (g.L.Links.faults c.args.links.now)
    (g.P.Spawner.faults c.args.spawner.now) c.args.steps.now in
    let after = outside_of (g.F.Files.files c.replay_file-in-ExplainPolicy.new.files) (g.F.Files.faults c.replay_file-in-ExplainPolicy.new.files)
    (g.S.Source.remaining c.replay_file-in-ExplainPolicy.new.input) (g.S.Source.faults c.replay_file-in-ExplainPolicy.new.input) (g.K.Sink.held c.replay_file-in-ExplainPolicy.new.out) (g.K.Sink.faults c.replay_file-in-ExplainPolicy.new.out)
    (g.L.Links.told c.args.links.now) (g.L.Links.is_reliable c.args.links.now) (g.L.Links.faults c.args.links.now)
    (g.P.Spawner.faults c.args.spawner.now) c.replay_file-in-ExplainPolicy.new.steps in
    subst (λ (x : Command). Runs hyper may before after (code_of c.replay_file-in-ExplainPolicy.result) (Some x)) (sym c.in-ExplainPolicy.is)
    (let e = c.replay_file-in-ExplainPolicy.ensures.ends in
    runs-unserved hyper may before after c.replay_file-in-ExplainPolicy.result
    (Some (ExplainPolicy c.in-ExplainPolicy.name)) e.0 e.1 refl
    (λ is has. c.replay_file-in-ExplainPolicy.ensures.whole is) e.2)

pub returns-in-Serve-clause-runs : goal.returns-in-Serve-clause-runs
returns-in-Serve-clause-runs g c =
    let may = g.C.Clock.may c.args.clock.now in
    let before = outside_of (g.F.Files.files c.args.files.now) (g.F.Files.faults c.args.files.now)
    (g.S.Source.remaining c.args.input.now) (g.S.Source.faults c.args.input.now) (g.K.Sink.held c.args.out.now) (g.K.Sink.faults c.args.out.now)
    (g.L.Links.told c.args.links.now) (g.L.Links.is_reliable c.args.links.now) (g.L.Links.faults c.args.links.now)
    (g.P.Spawner.faults c.args.spawner.now) c.args.steps.now in
    let after = outside_of (g.F.Files.files c.serve_file.new.files) (g.F.Files.faults c.serve_file.new.files)
    (g.S.Source.remaining c.args.input.now) (g.S.Source.faults c.args.input.now) (g.K.Sink.held c.serve_file.new.out) (g.K.Sink.faults c.serve_file.new.out)
    (g.L.Links.told c.serve_file.new.links) (g.L.Links.is_reliable c.serve_file.new.links) (g.L.Links.faults c.serve_file.new.links)
    (g.P.Spawner.faults c.serve_file.new.spawner) c.args.steps.now in
    subst (λ (x : Command). Runs hyper may before after (code_of c.serve_file.result) (Some x)) (sym c.in-Serve.is)
    (c.serve_file.ensures.runs (g.S.Source.remaining c.args.input.now) (g.S.Source.faults c.args.input.now)
    c.args.steps.now)

pub returns-in-Replay-clause-notes : goal.returns-in-Replay-clause-notes
returns-in-Replay-clause-notes g c =
    let left = g.S.Source.remaining c.args.input.now in
    let told = g.N.Sink.held c.args.notes.now in
    let files = g.F.Files.files c.args.files.now in
    let fails = g.F.Files.faults c.args.files.now in
    let new = g.N.Sink.held c.replay_built_in.new.notes in
    subst (λ (x : Command). Notes c.replay_built_in.result (Some x) files fails fails left told new) (sym c.in-Replay.is)
    (Err faults.Memory, tt, built_in_noted c.replay_built_in.result left told new c.replay_built_in.ensures.notes)

pub returns-in-Make-clause-notes : goal.returns-in-Make-clause-notes
returns-in-Make-clause-notes g c =
    let left = g.S.Source.remaining c.args.input.now in
    let told = g.N.Sink.held c.args.notes.now in
    let files = g.F.Files.files c.args.files.now in
    let fails = g.F.Files.faults c.args.files.now in
    subst (λ (x : Command). Notes c.make.result (Some x) files fails fails left told told) (sym c.in-Make.is) (
      Err faults.Memory,
      tt,
      made_noted c.make.result c.in-Make.seed c.in-Make.count left told (g.K.Sink.held c.args.out.now)
          (g.K.Sink.held c.make.new.out) (g.K.Sink.faults c.args.out.now) (g.K.Sink.faults c.make.new.out) []
          (as_line (summary_text (made_of c.in-Make.seed c.in-Make.count))) c.make.ensures.ends,
    )

pub returns-in-ReplayPolicy-clause-notes : goal.returns-in-ReplayPolicy-clause-notes
returns-in-ReplayPolicy-clause-notes g c =
    let left = g.S.Source.remaining c.args.input.now in
    let told = g.N.Sink.held c.args.notes.now in
    let files = g.F.Files.files c.args.files.now in
    let fails = g.F.Files.faults c.args.files.now in
    let n = c.replay_file.ensures.notes in
    let new = g.N.Sink.held c.replay_file.new.notes in
    subst (λ (x : Command). Notes c.replay_file.result (Some x) files fails (g.F.Files.faults c.replay_file.new.files) left told new)
    (sym c.in-ReplayPolicy.is)
    (n.0, n.1, replay_held c.in-ReplayPolicy.name n.0 left told new c.replay_file.result n.2)

pub returns-in-ExplainPolicy-clause-notes : goal.returns-in-ExplainPolicy-clause-notes
returns-in-ExplainPolicy-clause-notes g c =
    let left = g.S.Source.remaining c.args.input.now in
    let told = g.N.Sink.held c.args.notes.now in
    let files = g.F.Files.files c.args.files.now in
    let fails = g.F.Files.faults c.args.files.now in
    let n = c.replay_file-in-ExplainPolicy.ensures.notes in
    let new = g.N.Sink.held c.replay_file-in-ExplainPolicy.new.notes in
    subst (λ (x : Command). Notes c.replay_file-in-ExplainPolicy.result (Some x) files fails (g.F.Files.faults c.replay_file-in-ExplainPolicy.new.files) left told new)
    (sym c.in-ExplainPolicy.is)
    (n.0, n.1, explain_held c.in-ExplainPolicy.name n.0 left told new c.replay_file-in-ExplainPolicy.result n.2)

pub returns-in-Serve-clause-notes : goal.returns-in-Serve-clause-notes
returns-in-Serve-clause-notes g c =
    let left = g.S.Source.remaining c.args.input.now in
    let told = g.N.Sink.held c.args.notes.now in
    let files = g.F.Files.files c.args.files.now in
    let fails = g.F.Files.faults c.args.files.now in
    let new = g.N.Sink.held c.serve_file.new.notes in
    subst (λ (x : Command). Notes c.serve_file.result (Some x) files fails (g.F.Files.faults c.serve_file.new.files) left
    told new) (sym c.in-Serve.is) (c.serve_file.ensures.notes left)
