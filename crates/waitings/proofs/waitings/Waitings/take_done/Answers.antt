use Rattle.std.proofs.Common.{ap, sym, ◌∙◌}
use Rattle.std.specs.Prelude.{filter}
use Rattle.waitings.specs.Waitings.{is_done}
use Rattle.waitings.proofs.Same.{none_done}
use Rattle.waitings.proofs.waitings.Waitings.take_done.Goals as goal

pub returns-then-is_empty-clause-now : goal.returns-then-is_empty-clause-now
returns-then-is_empty-clause-now c =
    sym (none_done c.in_ok-done.done c.args.self.now.now (c.in_ok-done.ensures ∙ ap (filter is_done) c.list.ensures)
    (sym c.is_empty.ensures ∙ c.if-is_empty.true))
