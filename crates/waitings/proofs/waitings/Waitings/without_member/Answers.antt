use Rattle.std.proofs.Common.{ap, sym, ◌∙◌}
use Rattle.std.specs.List.{list_any}
use Rattle.waitings.specs.Waitings.{is_asked_by}
use Rattle.waitings.proofs.Same.{filter_none}
use Rattle.waitings.proofs.waitings.Waitings.without_member.Goals as goal

pub returns-then-not-any_asked_by-clause-now : goal.returns-then-not-any_asked_by-clause-now
returns-then-not-any_asked_by-clause-now c =
    let none =
    ap (list_any (is_asked_by c.args.member)) (sym c.list.ensures)
    ∙ (sym c.any_asked_by.ensures ∙ c.if-not-any_asked_by.true) in
    sym (filter_none (is_asked_by c.args.member) c.args.self.now.now none)
