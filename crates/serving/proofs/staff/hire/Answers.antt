use Rattle.std.proofs.Common.{◌≡◌, ◌++◌, ◌∷◌, ◌∙◌, [], ap, append_assoc, arith, length, refl, rules, subst, sym}
use Rattle.std.proofs.lemmas.List.{append-nil}
use Rattle.endpoint_works.specs.declared.works.Task.TheVariants as works
use Rattle.serving.specs.Works.{AreTeams}
use Rattle.serving.proofs.Works.{nothing-left, nothing-long, teams-at, teams-more}
use Rattle.serving.proofs.staff.hire.Goals as goal

pub loop-line-init : goal.loop-line-init
loop-line-init g c =
    let lines : c.args.lines ≡ c.from-lines.result.items = search rules in
    let seats : c.args.seats ≡ c.from-seats.result.items = search rules in
    record {
      done = [];
      used = [];
      lines = lines;
      seats = seats;
      handovers = let l = ap length lines in let h = c.requires.handovers in grind arith;
      even = let l = ap length lines in let s = ap length seats in let h = c.requires.seats in grind arith;
      teams = (refl, c.in_ok-tasks.ensures);
    }

pub loop-line-preserved : goal.loop-line-preserved
loop-line-preserved g c =
    let i = c.loop-line.invariant in
    let line = c.in-Some.line in
    let first = c.in-Some-pop_front.first in
    let second = c.in-Some-pop_front-2.second in
    let lines : c.loop-line.lines.items ≡ line ∷ c.pop_front.new.self.items = search rules in
    let one : c.loop-line.seats.items ≡ first ∷ c.pop_front-in-Some.new.self.items = search rules in
    let two : c.pop_front-in-Some.new.self.items ≡ second ∷ c.pop_front-in-Some-2.new.self.items = search rules in
    let seats = one ∙ ap (λ l. first ∷ l) two in
    let tasks = c.in_ok-push-2.ensures.pushed
    ∙ (ap (λ l. l ++ works.Writer c.writer.result ∷ []) c.in_ok-push.ensures.pushed
    ∙ append_assoc c.loop-line.tasks (works.Reader c.reader.result ∷ []) (works.Writer c.writer.result ∷ [])) in
    record {
      done = i.done ++ line ∷ [];
      used = i.used ++ first ∷ second ∷ [];
      lines = i.lines
          ∙ (ap (λ l. i.done ++ l) lines ∙ sym (append_assoc i.done (line ∷ []) c.pop_front.new.self.items));
      seats = i.seats
          ∙ (ap (λ l. i.used ++ l) seats
          ∙ sym (append_assoc i.used (first ∷ second ∷ []) c.pop_front-in-Some-2.new.self.items));
      handovers = let l = ap length lines in let h = i.handovers in grind arith;
      even = let l = ap length lines in let s = ap length seats in let h = i.even in grind arith;
      teams = subst (AreTeams _ _ (i.done ++ line ∷ []) (i.used ++ first ∷ second ∷ [])) (sym tasks)
          (teams-more _ _ i.done i.used c.loop-line.tasks line first second
          (works.Reader c.reader.result) (works.Writer c.writer.result) i.teams (
            c.reader.ensures.pass,
            c.reader.ensures.lock,
            c.reader.ensures.since,
            c.reader.ensures.side,
            c.reader.ensures.dial,
          ) (
            c.writer.ensures.pass,
            c.writer.ensures.lock,
            c.writer.ensures.since,
            c.writer.ensures.clock ∙ c.in_ok-clock.ensures,
          ));
    }

pub returns : goal.returns
returns g c =
    let i = c.loop-line.invariant in
    let none : c.loop-line.lines.items ≡ [] =
    nothing-left c.loop-line.lines.items (c.in_default.ensures.items ∙ c.in_default.ensures.rest) in
    let no-seats : c.loop-line.seats.items ≡ [] =
    nothing-long c.loop-line.seats.items (let e = i.even in let l = ap length none in grind arith) in
    teams-at _ _ i.done c.args.lines i.used c.args.seats c.loop-line.tasks i.teams
    (i.lines ∙ (ap (λ l. i.done ++ l) none ∙ append-nil i.done))
    (i.seats ∙ (ap (λ l. i.used ++ l) no-seats ∙ append-nil i.used))
