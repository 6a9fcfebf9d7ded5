use Rattle.std.proofs.Common.{◌≡◌, ◌∙◌, ◌+◌, ◌*◌, ap, arith, length, map, subst, sym}
use Rattle.std.proofs.lemmas.Result.{IfOk-weaker}
use Rattle.sessions.proofs.Bytes.{after-err}
use Rattle.endpoint_works.specs.Sides.{IsServedSide}
use Rattle.policy_lock.specs.History.{same_number}
use Rattle.policy_lock.specs.Number.{Numbered, numbers}
use Rattle.policy_lock.specs.Opening.{opening_seats}
use Rattle.serving.specs.Attending.{IsSilent}
use Rattle.serving.specs.Histories.{lines_taken}
use Rattle.serving.specs.Runs.{Serves}
use Rattle.serving.specs.declared.place.Place.{Place}
use Rattle.serving.proofs.Ends.{link-cause, opening-count, opening-silent}
use Rattle.serving.proofs.Lines.{lines-count, lines-reliable, lines-served}
use Rattle.serving.proofs.Numbers.{opening-once}
use Rattle.std.specs.List.{All, IsDistinct}
use Rattle.serving.proofs.run.try_serve.Goals as goal

pub overflow_cast-count : goal.overflow_cast-count
overflow_cast-count g c =
    let l = lines-count (g.L.Links.told c.args.links.now) (g.L.Links.is_reliable c.args.links.now) g.L.Dial.Dial.left
    g.L.Dial.Dial.is_reliable
    c.in_ok-lines.lines.undialled c.args.places c.in_ok-lines.lines.lines c.in_ok-lines.ensures.lines in
    let n = c.len-count.ensures in let few = c.requires.few in omega arith

pub overflow_mul-count-2 : goal.overflow_mul-count-2
overflow_mul-count-2 g c =
    let l = lines-count (g.L.Links.told c.args.links.now) (g.L.Links.is_reliable c.args.links.now) g.L.Dial.Dial.left
    g.L.Dial.Dial.is_reliable
    c.in_ok-lines.lines.undialled c.args.places c.in_ok-lines.lines.lines c.in_ok-lines.ensures.lines in
    let n = c.len-count.ensures in let few = c.requires.few in omega arith

pub overflow_add-count-2 : goal.overflow_add-count-2
overflow_add-count-2 g c =
    let l = lines-count (g.L.Links.told c.args.links.now) (g.L.Links.is_reliable c.args.links.now) g.L.Dial.Dial.left
    g.L.Dial.Dial.is_reliable
    c.in_ok-lines.lines.undialled c.args.places c.in_ok-lines.lines.lines c.in_ok-lines.ensures.lines in
    let n = c.len-count.ensures in let few = c.requires.few in omega arith

pub attend-requires-clause-few : goal.attend-requires-clause-few
attend-requires-clause-few g c κs within =
    let l = lines-count (g.L.Links.told c.args.links.now) (g.L.Links.is_reliable c.args.links.now) g.L.Dial.Dial.left
    g.L.Dial.Dial.is_reliable
    c.in_ok-lines.lines.undialled c.args.places c.in_ok-lines.lines.lines c.in_ok-lines.ensures.lines in
    let few = c.requires.few in omega arith

pub attend-requires-clause-seats : goal.attend-requires-clause-seats
attend-requires-clause-seats g c κs within =
    let n = c.len-count.ensures in
    let seats = ap length c.in_ok-lock.ensures.seats in
    let many = opening-count c.in_ok-lock.lock (2 * c.len-count.result) in
    omega arith

pub attend-requires-clause-theirs : goal.attend-requires-clause-theirs
attend-requires-clause-theirs g c κs within = c.in_ok-lock.ensures.theirs

pub attend-requires-clause-all : goal.attend-requires-clause-all
attend-requires-clause-all g c κs within = c.in_ok-lock.ensures.all

pub attend-requires-clause-once : goal.attend-requires-clause-once
attend-requires-clause-once g c κs within =
    subst (λ l. IsDistinct same_number (map (λ (n : Numbered). n.0) (numbers l))) (sym c.in_ok-lock.ensures.seats)
    (opening-once c.in_ok-lock.lock (2 * c.len-count.result + 1))

pub attend-requires-clause-silent : goal.attend-requires-clause-silent
attend-requires-clause-silent g c κs within =
    subst (All IsSilent) (sym c.in_ok-lock.ensures.seats)
    (opening-silent c.in_ok-lock.lock (2 * c.len-count.result + 1))

pub attend-requires-clause-sides : goal.attend-requires-clause-sides
attend-requires-clause-sides g c κs within =
    lines-served (g.L.Links.told c.args.links.now) (g.L.Links.is_reliable c.args.links.now) g.L.Dial.Dial.left
    g.L.Dial.Dial.is_reliable
    (g.H.Host.knows c.in_ok-lock.lock.start) c.in_ok-lines.lines.undialled c.args.places c.in_ok-lines.lines.lines
    c.in_ok-lines.ensures.lines
    (subst (λ s. All (λ (p : Place). IsServedSide (g.H.Host.knows s) p.side) c.args.places)
    (sym c.in_ok-lock.ensures.start) c.requires.served)

pub attend-requires-clause-room : goal.attend-requires-clause-room
attend-requires-clause-room g c κs within =
    let n = c.len-count.ensures in let room = c.in_ok-room.ensures.capacity in omega arith

pub returns-then-is_err-clause-spawn : goal.returns-then-is_err-clause-spawn
returns-then-is_err-clause-spawn g c = λ _. after-err c.admit.result (sym c.if-is_err.ensures.value)
    c.admit.ensures.fault

pub returns-clause-serves : goal.returns-clause-serves
returns-clause-serves g c =
    IfOk-weaker c.attend.result _ _
    (λ served h. subst (λ s. Serves g.H.Machine.Machine s (g.L.Links.told c.args.links.now)
    (g.L.Links.is_reliable c.args.links.now)
    (g.C.Clock.may c.args.clock.now) lines_taken c.args.places (g.K.Sink.held c.args.out.now)
    (g.K.Sink.held c.attend.new.out)
    (g.L.Links.faults c.args.links.now) (g.L.Links.faults c.dial_all.new.links) served) c.in_ok-lock.ensures.start
    (h (g.L.Links.told c.args.links.now) (g.L.Links.is_reliable c.args.links.now) c.args.places
    (g.L.Links.faults c.args.links.now)
    (g.L.Links.faults c.dial_all.new.links) c.in_ok-lines.ensures.fault c.in_ok-lines.ensures.lines))
    c.attend.ensures.serves

pub returns-clause-link : goal.returns-clause-link
returns-clause-link g c =
    IfOk-weaker c.attend.result _ _
    (λ served h is all. link-cause c.in_ok-lines.lines.undialled _ _ c.in_ok-lines.ensures.fault
    (λ none. h is none
    (lines-reliable (g.L.Links.told c.args.links.now) (g.L.Links.is_reliable c.args.links.now) g.L.Dial.Dial.left
    g.L.Dial.Dial.is_reliable
    c.in_ok-lines.lines.undialled c.args.places c.in_ok-lines.lines.lines c.in_ok-lines.ensures.lines all)))
    c.attend.ensures.link

pub returns-clause-spawn : goal.returns-clause-spawn
returns-clause-spawn g c = IfOk-weaker c.attend.result _ _ (λ served h is. absurd (h is)) c.attend.ensures.spawn

pub returns-clause-write : goal.returns-clause-write
returns-clause-write g c = c.attend.ensures.write

pub returns-clause-quiet : goal.returns-clause-quiet
returns-clause-quiet g c = c.attend.ensures.quiet
