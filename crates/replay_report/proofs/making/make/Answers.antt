use Rattle.std.proofs.Common.{◌≡◌, ◌+◌, ap, length, sym, subst, ◌∙◌}
use Rattle.std.specs.Prelude.{IfOk}
use Rattle.replay_report.specs.Making.{made_steps, summary_in}
use Rattle.replay_report.proofs.Stepping.{bench_counts, lines_told, made_long, none_counted, of_bench, summary_long}
use Rattle.replay_report.proofs.making.make.Goals as goal

pub summary-requires-after_bounds : goal.summary-requires-after_bounds
summary-requires-after_bounds g c ks lives =
    ap (λ n. n + 3) c.from.ensures ∙ sym (ap length c.new-script.ensures ∙ made_long c.args.seed c.args.count)

pub returns-clause-summary : goal.returns-clause-summary
returns-clause-summary g c =
    let p = c.in_ok-policy.field-0 in
    subst (λ told. IfOk c.summary.result (λ summary. summary ≡ told))
    (ap (summary_in p) c.new-script.ensures ∙ of_bench p c.args.seed c.args.count c.in_ok-policy.ensures)
    c.summary.ensures.summary

pub returns-clause-steps : goal.returns-clause-steps
returns-clause-steps g c =
    bench_counts c.in_ok-policy.field-0 c.args.seed c.args.count c.new-script.result c.args.steps.now
    c.summary.new.steps c.in_ok-policy.ensures c.new-script.ensures c.summary.ensures.steps

pub returns-clause-lines : goal.returns-clause-lines
returns-clause-lines g c =
    let p = c.in_ok-policy.field-0 in
    let script = c.new-script.result in
    lines_told c.summary.result (summary_in p script) (c.args.count + 3) c.summary.ensures.summary
    (summary_long p script ∙ ap length c.new-script.ensures ∙ made_long c.args.seed c.args.count)

pub returns-in_err-policy-clause-steps : goal.returns-in_err-policy-clause-steps
returns-in_err-policy-clause-steps g c = none_counted (made_steps c.args.seed c.args.count) c.args.steps.now
