use Rattle.std.proofs.Common.{◌∙◌, [], codes, inl, inr, subst, sym}
use Rattle.outside.specs.Outside.{Rose}
use Rattle.hyper_core.specs.contracts.machine.HyperMachine.TheImpl.{ghosts as hyper}
use Rattle.policy_serving.specs.Places.{places_of}
use Rattle.policy_serving.specs.Served.{ServesPolicy}
use Rattle.covisor_proxy.specs.Noted.{NotesServed}
use Rattle.covisor_proxy.specs.Outside.{outside_of}
use Rattle.covisor_proxy.specs.Serving.{EndsServing}
use Rattle.covisor_proxy.specs.declared.status.Status.{Status}
use Rattle.covisor_proxy.proofs.Appending.{some_none}
use Rattle.covisor_proxy.specs.Written.{Writes}
use Rattle.replay_report.specs.Takings.{as_line}
use Rattle.covisor_proxy.proofs.Linking.{all_reliable, link_other, spawn_other}
use Rattle.covisor_proxy.proofs.live.serve.Goals as goal

pub returns-in-Done-clause-ends : goal.returns-in-Done-clause-ends
returns-in-Done-clause-ends g c = λ files files' fails fails' left reads steps.
    let told = g.L.Links.told c.args.links.now in
    let reliable = g.L.Links.is_reliable c.args.links.now in
    let may = g.C.Clock.may c.args.clock.now in
    let held = g.K.Sink.held c.args.out.now in
    let between = g.K.Sink.held c.serve_policy.new.out in
    let faults = g.L.Links.faults c.args.links.now in
    let risen = g.L.Links.faults c.serve_policy.new.links in
    subst (ServesPolicy hyper told reliable may c.args.policy held between faults risen) c.in-Done.is
    c.serve_policy.ensures.serves

pub returns-in-Memory-clause-ends : goal.returns-in-Memory-clause-ends
returns-in-Memory-clause-ends g c = λ files files' fails fails' left reads steps.
    let told = g.L.Links.told c.args.links.now in
    let reliable = g.L.Links.is_reliable c.args.links.now in
    let may = g.C.Clock.may c.args.clock.now in
    let held = g.K.Sink.held c.args.out.now in
    let between = g.K.Sink.held c.serve_policy.new.out in
    let faults = g.L.Links.faults c.args.links.now in
    let risen = g.L.Links.faults c.serve_policy.new.links in
    subst (ServesPolicy hyper told reliable may c.args.policy held between faults risen) c.in-Memory.is
    c.serve_policy.ensures.serves

pub returns-in-Write-clause-ends : goal.returns-in-Write-clause-ends
returns-in-Write-clause-ends g c = λ files files' fails fails' left reads steps.
    let told = g.L.Links.told c.args.links.now in
    let reliable = g.L.Links.is_reliable c.args.links.now in
    let may = g.C.Clock.may c.args.clock.now in
    let held = g.K.Sink.held c.args.out.now in
    let between = g.K.Sink.held c.serve_policy.new.out in
    let faults = g.L.Links.faults c.args.links.now in
    let risen = g.L.Links.faults c.serve_policy.new.links in (
      c.serve_policy.ensures.write c.in-Write.is,
      inl (subst (ServesPolicy hyper told reliable may c.args.policy held between faults risen) c.in-Write.is
          c.serve_policy.ensures.serves),
    )

pub returns-in-Ok-clause-ends : goal.returns-in-Ok-clause-ends
returns-in-Ok-clause-ends g c = λ files files' fails fails' left reads steps.
    let told = g.L.Links.told c.args.links.now in
    let reliable = g.L.Links.is_reliable c.args.links.now in
    let may = g.C.Clock.may c.args.clock.now in
    let held = g.K.Sink.held c.args.out.now in
    let between = g.K.Sink.held c.serve_policy.new.out in
    let faults = g.L.Links.faults c.args.links.now in
    let risen = g.L.Links.faults c.serve_policy.new.links in
    let before = outside_of files fails left reads (g.K.Sink.held c.args.out.now) (g.K.Sink.faults c.args.out.now)
    (g.L.Links.told c.args.links.now) (g.L.Links.is_reliable c.args.links.now) (g.L.Links.faults c.args.links.now)
    (g.P.Spawner.faults c.args.spawner.now) steps in (
      λ never. c.serve_policy.ensures.link c.in-Link.is (all_reliable before never (places_of c.args.policy)),
      record {
        between = between;
        serves = subst (ServesPolicy hyper told reliable may c.args.policy held between faults risen) c.in-Link.is
            c.serve_policy.ensures.serves;
        tells = c.in-Ok.ensures.written;
      },
    )

pub returns-in-Err-clause-ends : goal.returns-in-Err-clause-ends
returns-in-Err-clause-ends g c = λ files files' fails fails' left reads steps.
    let told = g.L.Links.told c.args.links.now in
    let reliable = g.L.Links.is_reliable c.args.links.now in
    let may = g.C.Clock.may c.args.clock.now in
    let held = g.K.Sink.held c.args.out.now in
    let between = g.K.Sink.held c.serve_policy.new.out in
    let faults = g.L.Links.faults c.args.links.now in
    let risen = g.L.Links.faults c.serve_policy.new.links in
    let before = outside_of files fails left reads (g.K.Sink.held c.args.out.now) (g.K.Sink.faults c.args.out.now)
    (g.L.Links.told c.args.links.now) (g.L.Links.is_reliable c.args.links.now) (g.L.Links.faults c.args.links.now)
    (g.P.Spawner.faults c.args.spawner.now) steps in
    let quiet = c.serve_policy.ensures.quiet (λ is. link_other (sym c.in-Link.is ∙ is)) in (
      subst (λ n. Rose n (g.K.Sink.faults c.write_all.new.out)) quiet c.in-Err.ensures.fault,
      inr (
        λ never. c.serve_policy.ensures.link c.in-Link.is (all_reliable before never (places_of c.args.policy)),
        record {
          between = between;
          serves = subst (ServesPolicy hyper told reliable may c.args.policy held between faults risen) c.in-Link.is
              c.serve_policy.ensures.serves;
          tells = c.in-Err.ensures.short;
        },
      ),
    )

pub returns-in-Spawn-clause-ends : goal.returns-in-Spawn-clause-ends
returns-in-Spawn-clause-ends g c = λ files files' fails fails' left reads steps.
    let told = g.L.Links.told c.args.links.now in
    let reliable = g.L.Links.is_reliable c.args.links.now in
    let may = g.C.Clock.may c.args.clock.now in
    let held = g.K.Sink.held c.args.out.now in
    let between = g.K.Sink.held c.serve_policy.new.out in
    let faults = g.L.Links.faults c.args.links.now in
    let risen = g.L.Links.faults c.serve_policy.new.links in
    let before = outside_of files fails left reads (g.K.Sink.held c.args.out.now) (g.K.Sink.faults c.args.out.now)
    (g.L.Links.told c.args.links.now) (g.L.Links.is_reliable c.args.links.now) (g.L.Links.faults c.args.links.now)
    (g.P.Spawner.faults c.args.spawner.now) steps in
    let after = outside_of files' fails' left reads (g.K.Sink.held c.write_fault.new.out) (g.K.Sink.faults c.write_fault.new.out)
    (g.L.Links.told c.serve_policy.new.links) (g.L.Links.is_reliable c.serve_policy.new.links) (g.L.Links.faults c.serve_policy.new.links)
    (g.P.Spawner.faults c.serve_policy.new.spawner) steps in
    subst (λ (x : Status). EndsServing hyper may x c.args.policy before after) (sym c.write_fault.ensures.status) (
      c.serve_policy.ensures.spawn c.in-Spawn.is,
      record {
        between = between;
        serves = subst (ServesPolicy hyper told reliable may c.args.policy held between faults risen) c.in-Spawn.is
            c.serve_policy.ensures.serves;
        tells = subst (λ n. Writes between (g.K.Sink.held c.write_fault.new.out) n
            (g.K.Sink.faults c.write_fault.new.out) (as_line (codes "fault spawn")))
            (c.serve_policy.ensures.quiet (λ is. spawn_other (sym c.in-Spawn.is ∙ is))) c.write_fault.ensures.writes;
      },
    )

pub returns-in-Done-clause-notes : goal.returns-in-Done-clause-notes
returns-in-Done-clause-notes g c =
    let between = g.N.Sink.held c.note_remarks.new.notes in
    (between, c.note_remarks.ensures, some_none between [])

pub returns-in-Memory-clause-notes : goal.returns-in-Memory-clause-notes
returns-in-Memory-clause-notes g c =
    let between = g.N.Sink.held c.note_remarks.new.notes in
    (between, c.note_remarks.ensures, some_none between [])

pub returns-in-Write-clause-notes : goal.returns-in-Write-clause-notes
returns-in-Write-clause-notes g c =
    let between = g.N.Sink.held c.note_remarks.new.notes in
    (between, c.note_remarks.ensures, some_none between [])

pub returns-in-Ok-clause-notes : goal.returns-in-Ok-clause-notes
returns-in-Ok-clause-notes g c =
    (g.N.Sink.held c.note_remarks.new.notes, c.note_remarks.ensures, c.note_words.ensures)

pub returns-in-Err-clause-notes : goal.returns-in-Err-clause-notes
returns-in-Err-clause-notes g c =
    let between = g.N.Sink.held c.note_remarks.new.notes in
    (between, c.note_remarks.ensures, some_none between [])

pub returns-in-Spawn-clause-notes : goal.returns-in-Spawn-clause-notes
returns-in-Spawn-clause-notes g c =
    subst (λ (x : Status). NotesServed x c.args.policy (g.N.Sink.held c.args.notes.now)
    (g.N.Sink.held c.note_words-in-Spawn.new.notes)) (sym c.write_fault.ensures.status)
    (g.N.Sink.held c.note_remarks.new.notes, c.note_remarks.ensures, c.note_words-in-Spawn.ensures)
