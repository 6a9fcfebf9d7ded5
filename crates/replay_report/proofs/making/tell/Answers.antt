use Rattle.std.proofs.Common.{◌≡◌, ◌∙◌, ap, refl}
use Rattle.replay_report.specs.Players.{plan_of}
use Rattle.replay_report.specs.Making.{Tally, after_lines, first, tally_of}
use Rattle.replay_report.proofs.Stepping.{counts_of, rules_told, script_counts, told_of, unowed}
use Rattle.replay_report.proofs.making.tell.Goals as goal

pub returns-clause-summary : goal.returns-clause-summary
returns-clause-summary g c =
    let p = plan_of c.args.player.now in
    let player = c.play_lines.new.player in
    let counts = c.play_lines.new.counts in
    let t = tally_of player counts in
    let all : t ≡ after_lines p (first p) c.args.script.now =
    c.in_ok-play_lines.ensures.tally
    ∙ ap (λ (u : Tally). after_lines p u c.args.script.now)
    (ap (tally_of c.args.player.now) c.new-counts.ensures ∙ c.requires.first) in
    told_of p c.args.lines c.in_ok-rules.rules counts t c.args.script.now c.requires.lines
    (counts_of player counts t refl)
    (rules_told p (plan_of player) player counts t c.in_ok-rules.rules refl c.in_ok-play_lines.ensures.plan
    c.in_ok-rules.ensures)
    all

pub play_lines-requires-clause-form : goal.play_lines-requires-clause-form
play_lines-requires-clause-form g c ks lives = c.requires.form

pub play_lines-requires-clause-report : goal.play_lines-requires-clause-report
play_lines-requires-clause-report g c ks lives = c.requires.report

pub play_lines-requires-clause-ready : goal.play_lines-requires-clause-ready
play_lines-requires-clause-ready g c ks lives = c.requires.ready

pub returns-clause-steps : goal.returns-clause-steps
returns-clause-steps g c =
    let player = c.args.player.now in
    script_counts (plan_of player) (tally_of player c.new-counts.result) c.args.script.now c.args.steps.now
    c.play_lines.new.steps (ap (tally_of player) c.new-counts.ensures ∙ c.requires.first) c.play_lines.ensures.steps

-- after want of memory
pub returns-in_err-play_lines-clause-summary : goal.returns-in_err-play_lines-clause-summary
returns-in_err-play_lines-clause-summary g c = unowed c.from_residual.result _ c.from_residual.ensures.0

pub returns-in_err-play_lines-clause-steps : goal.returns-in_err-play_lines-clause-steps
returns-in_err-play_lines-clause-steps g c =
    let player = c.args.player.now in
    script_counts (plan_of player) (tally_of player c.new-counts.result) c.args.script.now c.args.steps.now
    c.play_lines.new.steps (ap (tally_of player) c.new-counts.ensures ∙ c.requires.first) c.play_lines.ensures.steps

pub returns-in_err-rules-clause-summary : goal.returns-in_err-rules-clause-summary
returns-in_err-rules-clause-summary g c =
    unowed c.from_residual-in_err-rules.result _ c.from_residual-in_err-rules.ensures.0

pub returns-in_err-rules-clause-steps : goal.returns-in_err-rules-clause-steps
returns-in_err-rules-clause-steps g c =
    let player = c.args.player.now in
    script_counts (plan_of player) (tally_of player c.new-counts.result) c.args.script.now c.args.steps.now
    c.play_lines.new.steps (ap (tally_of player) c.new-counts.ensures ∙ c.requires.first) c.play_lines.ensures.steps
