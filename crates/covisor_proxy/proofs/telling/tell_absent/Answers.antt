use Rattle.std.proofs.Common.{◌∙◌, inl, subst, sym}
use Rattle.covisor_proxy.specs.Written.{Writes}
use Rattle.covisor_proxy.specs.Noted.{NotesNone}
use Rattle.covisor_proxy.specs.declared.opening.NoPolicy.TheVariants.{Absent}
use Rattle.covisor_proxy.specs.declared.status.Status.{Status}
use Rattle.covisor_proxy.proofs.telling.tell_absent.Goals as goal

pub returns-in-Ok-clause-alone : goal.returns-in-Ok-clause-alone
returns-in-Ok-clause-alone g c =
    inl (
      c.write_fault.ensures.status,
      subst (Writes (g.K.Sink.held c.args.out.now) (g.K.Sink.held c.write_fault.new.out)
          (g.K.Sink.faults c.args.out.now) (g.K.Sink.faults c.write_fault.new.out))
          (c.as_bytes.ensures.bytes ∙ c.in-Ok.ensures) c.write_fault.ensures.writes,
    )

pub returns-in-Ok-clause-notes : goal.returns-in-Ok-clause-notes
returns-in-Ok-clause-notes g c =
    subst (λ (x : Status). NotesNone x c.args.name.now Absent (g.N.Sink.held c.args.notes.now)
    (g.N.Sink.held c.note_absent.new.notes)) (sym c.write_fault.ensures.status) c.note_absent.ensures
