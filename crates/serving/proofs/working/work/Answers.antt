use denote.Exit.{no}
use denote.Param.{param}
use denote.Param.Send.{IsSync, arg_send, arg_sync, param_send, param_sync, sendable}
use Rattle.std.proofs.Common.{true, ◌≡◌, ◌∙◌, ◌++◌, ◌∷◌, [], arith, rules, sym, subst, ap, refl, Some}
use Rattle.std.proofs.lemmas.List.Elements.{All-pop}
use Rattle.events.specs.contracts.event.Event as Event
use Rattle.events.specs.contracts.event.Reply as Reply
use Rattle.lock_desk.specs.Passes.{IsSince}
use Rattle.events.proofs.event.Event.TheSendSync as event
use Rattle.policy_lock.proofs.lock.Seat.TheSendSync as seat
use Rattle.endpoint_works.proofs.arrivals.Dialled.TheSendSync as dialled
use Rattle.endpoint_works.proofs.works.Task.TheSendSync as task
use Rattle.policy_lock.specs.Seat.{IsSeatOf, SeatOf}
use Rattle.endpoint_works.specs.Sendings.{HasSent}
use Rattle.lock_desk.specs.Passes.{own_posts}
use Rattle.serving.proofs.Crossing.{desk-send, desk-sync}
use Rattle.endpoint_works.specs.Sides.{IsServedSide}
use Rattle.endpoint_works.specs.declared.works.Task.TheVariants as works
use Rattle.serving.specs.Working.{HasRead, HasWritten}
use Rattle.serving.specs.Works.{AreTeams}
use Rattle.serving.proofs.Seats.{seat-of, since-same, since-seat}
use Rattle.serving.proofs.Worked.{worked-teams, worked-well}
use Rattle.serving.proofs.Works.{teams-all, teams-count, teams-known}
use Rattle.serving.proofs.working.work.Goals as goal

pub all_at_work-end-requires-sync-D : goal.all_at_work-end-requires-sync-D
all_at_work-end-requires-sync-D g c κs within =
    let t = c.type_bounds in
    param_sync _ _
    (arg_sync _ no _ (desk-sync _ _ (param 1 g.row.H) _ _ g.H.Machine.Machine t.sync-R t.send-H-Machine))

pub all_at_work-end-requires-send-W : goal.all_at_work-end-requires-send-W
all_at_work-end-requires-send-W g c κs within =
    let t = c.type_bounds in
    param_send _ _ (arg_send _ no _ (task.the_send _ _ _ _ _ _ (param 7 g.row.D-In) _
    (desk-send _ (param 0 g.row.R) (param 1 g.row.H) (param 5 g.row.H-Machine) (param 6 g.row.H-Machine-State)
    g.H.Machine.Machine t.sync-R t.send-H-Machine)
    (dialled.the_send (param 2 g.row.D) t.send-D) t.send-C
    (seat.the_send (param 5 g.row.H-Machine) Event.the_row Reply.the_row (param 6 g.row.H-Machine-State)
    g.H.Machine.Machine
    t.send-H-Machine event.the_send)
    t.send-D-Out t.sync-R))

pub all_at_work-end-requires-clause-pass : goal.all_at_work-end-requires-clause-pass
all_at_work-end-requires-clause-pass g c κs within = (
  search (c.type_bounds.sync-R, sendable) depth 10,
  seat-of c.args.office.now.lock.now _ c.in-Some.seat _ c.desk-desk.ensures.lock refl
      (All-pop (IsSeatOf c.args.office.now.lock.now) c.args.seats c.pop.new.self (Some c.in-Some.seat)
      c.in-Some.ensures.items c.requires.theirs).1,
  since-same c.in-Some.seat _ _ c.desk-desk.ensures.since refl,
)

pub all_at_work-end-requires-clause-ready : goal.all_at_work-end-requires-clause-ready
all_at_work-end-requires-clause-ready g c κs within =
    let lock = c.args.office.now.lock.now in
    let theirs =
    (All-pop (IsSeatOf lock) c.args.seats c.pop.new.self (Some c.in-Some.seat) c.in-Some.ensures.items
    c.requires.theirs).0 in
    let known = teams-known _ _ _ _ c.args.lines c.pop.new.self c.in_ok-tasks.tasks c.in_ok-tasks.ensures
    c.requires.sides theirs in
    teams-all _ _ (elim [
      | works.Reader r ↦
          (IsSync _ × IsSeatOf r.desk.lock.now r.pass × IsSince r.desk.since.value r.pass)
          × IsServedSide (g.H.Host.knows r.desk.lock.now.start) r.side
      | works.Writer w ↦ IsSync _ × IsSeatOf w.desk.lock.now w.pass × IsSince w.desk.since.value w.pass
    ])
    (λ line s. elim [
      | works.Reader r ↦ λ h. (
        (
          param_sync _ _ (arg_sync _ no _ c.type_bounds.sync-R),
          seat-of lock _ s _ h.2.1 h.2.0 h.1,
          since-same s _ _ h.2.2 h.2.0,
        ),
        subst (λ l. IsServedSide (g.H.Host.knows l.start) r.side) (sym h.2.1)
            (subst (IsServedSide (g.H.Host.knows lock.start)) (sym h.2.3) h.0),
      )
      | works.Writer w ↦ λ h. absurd h.2
    ])
    (λ s. elim [
      | works.Reader r ↦ λ h. absurd h.1
      | works.Writer w ↦ λ h. (
        param_sync _ _ (arg_sync _ no _ c.type_bounds.sync-R),
        seat-of lock _ s _ h.1.1 h.1.0 h.0,
        since-same s _ _ h.1.2 h.1.0,
      )
    ])
    c.args.lines c.pop.new.self c.in_ok-tasks.tasks known

pub gather-gathered-requires-clause-room : goal.gather-gathered-requires-clause-room
gather-gathered-requires-clause-room g c κs within =
    let two = teams-count _ _ c.args.lines c.pop.new.self c.in_ok-tasks.tasks c.in_ok-tasks.ensures in
    let same = c.all_at_work-end.ensures.done.0 in let room = c.requires.room in
    grind arith

pub returns-clause-worked : goal.returns-clause-worked
returns-clause-worked g c =
    let lock = c.args.office.now.lock.now in
    let were : c.args.seats ≡ c.pop.new.self ++ c.in-Some.seat ∷ [] = search rules in
    let gathered = c.gather-gathered.result in
    let now = c.all_at_work-end.new.works in
    let last = c.all_at_work-end.new.pass in
    record {
      front = c.pop.new.self;
      last = c.in-Some.seat;
      were = were;
      front_new = gathered.seats.items;
      last_new = last;
      are = c.from_vec.ensures ∙ c.push_reserved.ensures.items;
      teams =
          subst
          (AreTeams (HasRead {M = g.row.H-Machine.Denot} {S = g.row.H-Machine-State.Denot} {D = g.row.D.Denot}
          g.H.Machine.Machine lock
          g.D.Dial.left g.D.Dial.is_reliable gathered.failed gathered.wanted)
          (HasWritten lock (g.C.Clock.may c.args.office.now.clock.now)) c.args.lines
          c.pop.new.self)
          (sym c.gather-gathered.ensures.seats)
          (worked-teams g.H.Machine.Machine lock g.D.Dial.left g.D.Dial.is_reliable g.C.Clock.may
          c.args.office.now.clock.now _ gathered.failed gathered.wanted
          c.args.lines
          c.pop.new.self c.in_ok-tasks.tasks now c.in_ok-tasks.ensures c.all_at_work-end.ensures.done
          (sym c.gather-gathered.ensures.failed) (sym c.gather-gathered.ensures.wanted));
      dials = worked-well g.H.Machine.Machine lock g.D.Dial.left g.D.Dial.is_reliable g.C.Clock.may
          c.args.office.now.clock.now _ gathered.failed gathered.wanted
          c.args.lines
          c.pop.new.self c.in_ok-tasks.tasks now c.in_ok-tasks.ensures c.all_at_work-end.ensures.done
          (sym c.gather-gathered.ensures.failed);
      later = record {
        of = seat-of c.desk-desk.result.lock.now lock last last (sym c.desk-desk.ensures.lock) refl
            c.all_at_work-end.ensures.pass.1;
        since = since-seat c.in-Some.seat c.desk-desk.result.since.value last c.desk-desk.ensures.since
            c.all_at_work-end.ensures.pass.2;
      };
      audit = c.all_at_work-end.ensures.written;
      drained = c.all_at_work-end.ensures.drained;
    }
