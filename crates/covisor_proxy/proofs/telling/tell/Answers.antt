use Rattle.std.proofs.Common.{◌≡◌, Err, Result, refl, subst, sym}
use Rattle.policies.specs.Policies.{PolicyOf}
use Rattle.covisor_proxy.specs.Noted.{NotesNone}
use Rattle.covisor_proxy.specs.Opening.{Opens}
use Rattle.covisor_proxy.specs.Outcomes.{moment}
use Rattle.covisor_proxy.specs.Serving.{EndsUnopened}
use Rattle.covisor_proxy.specs.declared.opening.NoPolicy.{NoPolicy}
use Rattle.covisor_proxy.specs.declared.opening.NoPolicy.TheVariants.{Absent, Memory, Refused, Unread}
use Rattle.covisor_proxy.specs.declared.status.Status.{Status}
use Rattle.covisor_proxy.proofs.Finishing.{told-absent, told-refused, told-unread, told-wanted}
use Rattle.covisor_proxy.proofs.telling.tell.Goals as goal

pub returns-in-Absent-clause-ends : goal.returns-in-Absent-clause-ends
returns-in-Absent-clause-ends g c = λ files fails fails' all cut form left reads steps o.
    let old = moment left reads (g.K.Sink.held c.args.out.now) (g.K.Sink.faults c.args.out.now) steps in
    let new = moment left reads (g.K.Sink.held c.tell_absent.new.out) (g.K.Sink.faults c.tell_absent.new.out) steps in
    let h : Opens files fails fails' c.args.name.now (Err Absent) =
    subst (λ (x : NoPolicy). Opens files fails fails' c.args.name.now (Err x)) c.in-Absent.is o in
    told-absent all cut form c.args.name.now files fails fails' old new refl c.tell_absent.result h
    c.tell_absent.ensures.alone

pub returns-in-Unread-clause-ends : goal.returns-in-Unread-clause-ends
returns-in-Unread-clause-ends g c = λ files fails fails' all cut form left reads steps o.
    let old = moment left reads (g.K.Sink.held c.args.out.now) (g.K.Sink.faults c.args.out.now) steps in
    let new = moment left reads (g.K.Sink.held c.write_fault.new.out) (g.K.Sink.faults c.write_fault.new.out) steps in
    let h : Opens files fails fails' c.args.name.now (Err Unread) =
    subst (λ (x : NoPolicy). Opens files fails fails' c.args.name.now (Err x)) c.in-Unread.is o in
    subst (λ (x : Status). EndsUnopened x all cut form c.args.name.now files fails fails' old new)
    (sym c.write_fault.ensures.status)
    (told-unread all cut form c.args.name.now files fails fails' old new refl h refl c.write_fault.ensures.writes)

pub returns-in-Refused-clause-ends : goal.returns-in-Refused-clause-ends
returns-in-Refused-clause-ends g c = λ files fails fails' all cut form left reads steps o.
    let old = moment left reads (g.K.Sink.held c.args.out.now) (g.K.Sink.faults c.args.out.now) steps in
    let new = moment left reads (g.K.Sink.held c.tell_refused.new.out) (g.K.Sink.faults c.tell_refused.new.out) steps in
    let h : Opens files fails fails' c.args.name.now (Err (Refused c.in-Refused.fault c.in-Refused.place)) =
    subst (λ (x : NoPolicy). Opens files fails fails' c.args.name.now (Err x)) c.in-Refused.is o in
    told-refused all cut form c.args.name.now files fails fails' old new refl c.tell_refused.result c.in-Refused.fault
    h.0 h.1 h.2 c.tell_refused.ensures.alone

pub returns-in-Memory-clause-ends : goal.returns-in-Memory-clause-ends
returns-in-Memory-clause-ends g c = λ files fails fails' all cut form left reads steps o.
    let here = moment left reads (g.K.Sink.held c.args.out.now) (g.K.Sink.faults c.args.out.now) steps in
    told-wanted all cut form c.args.name.now files fails fails' here here refl refl

pub returns-in-Absent-clause-notes : goal.returns-in-Absent-clause-notes
returns-in-Absent-clause-notes g c =
    subst (λ (x : NoPolicy). NotesNone c.tell_absent.result c.args.name.now x (g.N.Sink.held c.args.notes.now)
    (g.N.Sink.held c.tell_absent.new.notes)) (sym c.in-Absent.is) c.tell_absent.ensures.notes

pub returns-in-Unread-clause-notes : goal.returns-in-Unread-clause-notes
returns-in-Unread-clause-notes g c =
    subst (λ (x : NoPolicy). NotesNone c.write_fault.result c.args.name.now x (g.N.Sink.held c.args.notes.now)
    (g.N.Sink.held c.note_unread.new.notes)) (sym c.in-Unread.is)
    (subst (λ (x : Status). NotesNone x c.args.name.now Unread (g.N.Sink.held c.args.notes.now)
    (g.N.Sink.held c.note_unread.new.notes)) (sym c.write_fault.ensures.status) c.note_unread.ensures)

pub returns-in-Refused-clause-notes : goal.returns-in-Refused-clause-notes
returns-in-Refused-clause-notes g c =
    subst (λ (x : NoPolicy). NotesNone c.tell_refused.result c.args.name.now x (g.N.Sink.held c.args.notes.now)
    (g.N.Sink.held c.tell_refused.new.notes)) (sym c.in-Refused.is) c.tell_refused.ensures.notes

pub returns-in-Memory-clause-notes : goal.returns-in-Memory-clause-notes
returns-in-Memory-clause-notes g c = refl
