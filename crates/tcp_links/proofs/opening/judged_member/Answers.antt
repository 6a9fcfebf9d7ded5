use Rattle.std.proofs.Common.{ap, sym, ◌∙◌}
use Rattle.outside.specs.Outside.{SourceOf, lists_none}
use Rattle.tcp_links.proofs.Judging.{member-judged}
use Rattle.tcp_links.proofs.opening.judged_member.Goals as goal

pub returns-clause-verdict : goal.returns-clause-verdict
returns-clause-verdict g c =
    member-judged c.args.bytes.now c.new-source.result.left c.open_member-opened.new.source.left c.new-framer.result
    c.open_member-opened.new.framer c.new-source.result.faults c.open_member-opened.new.source.faults
    (lists_none c.new-source.result.fails)
    (ap (λ (z : SourceOf). z.left) c.new-source.ensures ∙ c.in_ok-copy.ensures)
    c.new-framer.ensures
    (ap (λ (z : SourceOf). lists_none z.fails) c.new-source.ensures ∙ ap lists_none c.new.ensures)
    c.open_member-opened.result c.in_ok-verdict_of.field-0 (sym c.verdict_of.ensures ∙ c.in_ok-verdict_of.was)
    c.open_member-opened.ensures.opened c.open_member-opened.ensures.end
