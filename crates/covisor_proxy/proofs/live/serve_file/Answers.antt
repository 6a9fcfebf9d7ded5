use Rattle.std.proofs.Common.{None, Ok, refl, subst}
use Rattle.hyper_core.specs.contracts.machine.HyperMachine.TheImpl.{ghosts as hyper}
use Rattle.script_text.specs.declared.form.Form.TheVariants.{Replay}
use Rattle.covisor_proxy.specs.Asked.{no_report}
use Rattle.covisor_proxy.specs.Noted.{NotesNone}
use Rattle.covisor_proxy.specs.Outside.{outside_of}
use Rattle.covisor_proxy.specs.Serving.{EndsServing}
use Rattle.covisor_proxy.specs.declared.status.Status.{Status}
use Rattle.covisor_proxy.proofs.Joining.{runs-served, runs-unopened}
use Rattle.covisor_proxy.proofs.ToldRuns.{none_held, served_noted, unserved_held}
use Rattle.covisor_proxy.proofs.live.serve_file.Goals as goal

pub returns-in-Ok-clause-runs : goal.returns-in-Ok-clause-runs
returns-in-Ok-clause-runs g c = λ left reads steps.
    let before = outside_of (g.F.Files.files c.args.files.now) (g.F.Files.faults c.args.files.now) left reads (g.K.Sink.held c.args.out.now) (g.K.Sink.faults c.args.out.now)
    (g.L.Links.told c.args.links.now) (g.L.Links.is_reliable c.args.links.now) (g.L.Links.faults c.args.links.now)
    (g.P.Spawner.faults c.args.spawner.now) steps in
    let after = outside_of (g.F.Files.files c.open.new.files) (g.F.Files.faults c.open.new.files) left reads (g.K.Sink.held c.serve.new.out) (g.K.Sink.faults c.serve.new.out)
    (g.L.Links.told c.serve.new.links) (g.L.Links.is_reliable c.serve.new.links) (g.L.Links.faults c.serve.new.links)
    (g.P.Spawner.faults c.serve.new.spawner) steps in
    runs-served hyper (g.C.Clock.may c.args.clock.now) before after c.args.name.now c.serve.result c.in-Ok.policy
    c.in-Ok.ensures
    (c.serve.ensures.ends before.files after.files before.fails after.fails left reads steps) refl

pub returns-in-Err-clause-runs : goal.returns-in-Err-clause-runs
returns-in-Err-clause-runs g c = λ left reads steps.
    let before = outside_of (g.F.Files.files c.args.files.now) (g.F.Files.faults c.args.files.now) left reads (g.K.Sink.held c.args.out.now) (g.K.Sink.faults c.args.out.now)
    (g.L.Links.told c.args.links.now) (g.L.Links.is_reliable c.args.links.now) (g.L.Links.faults c.args.links.now)
    (g.P.Spawner.faults c.args.spawner.now) steps in
    let after = outside_of (g.F.Files.files c.open.new.files) (g.F.Files.faults c.open.new.files) left reads (g.K.Sink.held c.tell.new.out) (g.K.Sink.faults c.tell.new.out)
    (g.L.Links.told c.args.links.now) (g.L.Links.is_reliable c.args.links.now) (g.L.Links.faults c.args.links.now)
    (g.P.Spawner.faults c.args.spawner.now) steps in
    runs-unopened hyper (g.C.Clock.may c.args.clock.now) before after c.args.name.now c.tell.result
    (c.tell.ensures.ends before.files before.fails after.fails no_report no_report Replay left reads steps
    c.in-Err.ensures)

pub returns-in-Ok-clause-form : goal.returns-in-Ok-clause-form
returns-in-Ok-clause-form g c = λ is.
    let before = outside_of None 0 None 0 (g.K.Sink.held c.args.out.now) (g.K.Sink.faults c.args.out.now)
    (g.L.Links.told c.args.links.now) (g.L.Links.is_reliable c.args.links.now) (g.L.Links.faults c.args.links.now)
    (g.P.Spawner.faults c.args.spawner.now) 0 in
    let after = outside_of None 0 None 0 (g.K.Sink.held c.serve.new.out) (g.K.Sink.faults c.serve.new.out)
    (g.L.Links.told c.serve.new.links) (g.L.Links.is_reliable c.serve.new.links) (g.L.Links.faults c.serve.new.links)
    (g.P.Spawner.faults c.serve.new.spawner) 0 in
    subst (λ (x : Status). EndsServing hyper (g.C.Clock.may c.args.clock.now) x c.in-Ok.policy before after) is
    (c.serve.ensures.ends None None 0 0 None 0 0)

pub returns-in-Ok-clause-notes : goal.returns-in-Ok-clause-notes
returns-in-Ok-clause-notes g c = λ left.
    let o = c.in-Ok.ensures in (
      Ok o.0,
      o.1,
      served_noted c.serve.result c.args.name.now o.0 c.in-Ok.policy left (g.N.Sink.held c.args.notes.now)
          (g.N.Sink.held c.serve.new.notes) o.2 c.serve.ensures.notes,
    )

pub returns-in-Err-clause-notes : goal.returns-in-Err-clause-notes
returns-in-Err-clause-notes g c = λ left.
    let told = g.N.Sink.held c.args.notes.now in
    let new = g.N.Sink.held c.tell.new.notes in
    let n = none_held c.in-Err.fault c.tell.result Replay c.args.name.now (g.F.Files.files c.args.files.now)
    (g.F.Files.faults c.args.files.now) (g.F.Files.faults c.open.new.files) left told new c.in-Err.ensures
    c.tell.ensures.notes in (
      n.0,
      n.1,
      unserved_held c.args.name.now n.0 left told new c.tell.result n.2
          (λ is. subst (λ (x : Status). NotesNone x c.args.name.now c.in-Err.fault told new) is c.tell.ensures.notes)
          n.3,
    )
