use Rattle.std.proofs.Common.{◌≡◌, ◌++◌, ◌∙◌, [], ap, map, rules, sym}
use Rattle.std.proofs.lemmas.List.{append-nil}
use Rattle.serving.specs.Works.{pass_of}
use Rattle.serving.proofs.gathering.gather.Goals as goal

pub returns-clause-seats : goal.returns-clause-seats
returns-clause-seats g c =
    let none : c.loop-task.tasks.items ≡ [] = search rules in
    sym (append-nil c.loop-task.seats.items)
    ∙ (ap (λ l. c.loop-task.seats.items ++ map pass_of l) (sym none) ∙ c.loop-task.invariant.seats)
