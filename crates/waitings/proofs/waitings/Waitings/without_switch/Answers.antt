use Rattle.std.proofs.Common.{ap, sym, ◌∙◌}
use Rattle.std.specs.List.{list_any}
use Rattle.waitings.specs.Waitings.{has_part_of}
use Rattle.waitings.proofs.Same.{all_without_parts}
use Rattle.waitings.proofs.waitings.Waitings.without_switch.Goals as goal

pub returns-then-not-any_part_of-clause-now : goal.returns-then-not-any_part_of-clause-now
returns-then-not-any_part_of-clause-now c =
    let none =
    ap (list_any (has_part_of c.args.switch)) (sym c.list.ensures)
    ∙ (sym c.any_part_of.ensures ∙ c.if-not-any_part_of.true) in
    sym (all_without_parts c.args.switch c.args.self.now.now none)
