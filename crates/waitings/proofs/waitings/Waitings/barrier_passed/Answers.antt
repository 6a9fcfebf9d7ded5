use Rattle.std.proofs.Common.{ap, sym, ◌∙◌}
use Rattle.std.specs.List.{list_any}
use Rattle.waitings.specs.Waitings.{waits_for_barrier}
use Rattle.waitings.proofs.Same.{all_without_barrier}
use Rattle.waitings.proofs.waitings.Waitings.barrier_passed.Goals as goal

pub returns-then-not-any_waits_for_barrier-clause-now : goal.returns-then-not-any_waits_for_barrier-clause-now
returns-then-not-any_waits_for_barrier-clause-now c =
    let none =
    ap (list_any (waits_for_barrier c.args.switch c.args.number)) (sym c.list.ensures)
    ∙ (sym c.any_waits_for_barrier.ensures ∙ c.if-not-any_waits_for_barrier.true) in
    sym (all_without_barrier c.args.switch c.args.number c.args.self.now.now none)
