use Rattle.std.proofs.Common.{ap, subst, sym, ◌∙◌}
use Rattle.outside.specs.Outside.{SinkOf, SourceOf, lists_none}
use Rattle.tcp_links.specs.Verdicts.{IsJudgedSwitch}
use Rattle.tcp_links.proofs.Judging.{switch-judged}
use Rattle.tcp_links.proofs.opening.judged_switch.Goals as goal

pub returns : goal.returns
returns g c =
    subst (λ z. IsJudgedSwitch c.args.dpids.now c.args.bytes.now z c.in_ok-verdict_of.field-0)
    (sym (ap (λ (z : SinkOf). z.held) c.sink.view_is))
    (switch-judged c.args.dpids.now c.args.bytes.now c.new-source.result.left c.open_switch-opened.new.source.left
    c.new-framer.result c.open_switch-opened.new.framer c.new-sink.result.held c.open_switch-opened.new.sink.held
    c.new-source.result.faults c.open_switch-opened.new.source.faults
    c.new-sink.result.faults c.open_switch-opened.new.sink.faults
    c.new-sink.result.wants c.open_switch-opened.new.sink.wants
    (lists_none c.new-source.result.fails) (lists_none c.new-sink.result.fails)
    (ap (λ (z : SourceOf). z.left) c.new-source.ensures ∙ c.in_ok-copy.ensures)
    c.new-framer.ensures
    (ap (λ (z : SinkOf). z.held) c.new-sink.ensures ∙ c.new-2.ensures)
    (ap (λ (z : SourceOf). lists_none z.fails) c.new-source.ensures ∙ ap lists_none c.new.ensures)
    (ap (λ (z : SinkOf). lists_none z.fails) c.new-sink.ensures ∙ ap lists_none c.new-3.ensures)
    c.open_switch-opened.result c.in_ok-verdict_of.field-0 (sym c.verdict_of.ensures ∙ c.in_ok-verdict_of.was)
    c.open_switch-opened.ensures.opened c.open_switch-opened.ensures.end)
