use Rattle.std.proofs.Common.{ap, sym, ◌∙◌, ◌++◌}
use Rattle.std.specs.Option.{is_some}
use Rattle.made_rules.proofs.Widening.{old-there, widened-one}
use Rattle.made_rules.proofs.stay.widen_one.Goals as goal

pub rename-requires : goal.rename-requires
rename-requires c =
    ap is_some (old-there c.args.store.now c.requires.rest c.requires.was c.args.both c.len-count.ensures.rising
    c.requires.same c.requires.all)

pub returns-clause-widened : goal.returns-clause-widened
returns-clause-widened c rest was same p =
    widened-one c.args.store.now c.rename.new.self rest was c.args.both c.extend_from_slice.new.self
    c.in_ok-rule.field-0 c.len-count.ensures.rising same p c.in_ok-rule.ensures.was
    (c.in_ok-extend_from_slice.ensures.extended
    ∙ ap (λ z. z ++ c.as_slice.result.now)
    (c.in_ok-origins.ensures was.item
    (old-there c.args.store.now rest was c.args.both c.len-count.ensures.rising same p))
    ∙ ap (λ z. was.item.origins ++ z) c.as_slice.ensures)
    c.in_ok-rule.ensures.renamed
