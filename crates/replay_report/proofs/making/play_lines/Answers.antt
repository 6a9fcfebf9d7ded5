use Rattle.std.proofs.Common.{◌∙◌, ◌+◌, arith, refl}
use Rattle.replay_report.specs.Players.{plan_of, progress_of}
use Rattle.replay_report.specs.Making.{lines_steps, tally_of}
use Rattle.replay_report.proofs.Stepping.{at_end, line_on, line_sums, line_within, progress_is, shorter, so_far, unowed}
use Rattle.replay_report.proofs.making.play_lines.Goals as goal

pub loop-line-init : goal.loop-line-init
loop-line-init g c = record {
  tally = refl;
  plan = refl;
  form = c.requires.form;
  report = c.requires.report;
  ready = c.requires.ready;
  steps = omega arith;
}

-- the last line was done
pub returns-in_default-clause-tally : goal.returns-in_default-clause-tally
returns-in_default-clause-tally g c =
    let player = c.loop-line.player in
    let none = c.in_ok-line.ensures.end c.in_default.is in
    at_end (plan_of player) (tally_of player c.loop-line.counts) c.loop-line.script none ∙ c.loop-line.invariant.tally

pub returns-in_default-clause-plan : goal.returns-in_default-clause-plan
returns-in_default-clause-plan g c = c.loop-line.invariant.plan

pub returns-in_default-clause-steps : goal.returns-in_default-clause-steps
returns-in_default-clause-steps g c =
    so_far _ c.loop-line.steps c.loop-line.steps _ (omega arith) c.loop-line.invariant.steps

-- one more line
pub play_line-requires-clause-form : goal.play_line-requires-clause-form
play_line-requires-clause-form g c ks lives = c.loop-line.invariant.form

pub play_line-requires-clause-report : goal.play_line-requires-clause-report
play_line-requires-clause-report g c ks lives = c.loop-line.invariant.report

pub play_line-requires-clause-ready : goal.play_line-requires-clause-ready
play_line-requires-clause-ready g c ks lives = c.loop-line.invariant.ready

pub loop-line-preserved : goal.loop-line-preserved
loop-line-preserved g c =
    let old = c.loop-line.player in
    let new = c.play_line.new.player in
    let next = rw c.in-Some.is at c.in_ok-line.ensures.line in
    let line = c.as_bytes.result.now in
    record {
      tally =
          line_on (plan_of old) (plan_of new) (tally_of old c.loop-line.counts) (tally_of new c.play_line.new.counts)
          c.in-Some.line line c.loop-line.script c.next.new.self
          next c.as_bytes.ensures.bytes c.in_ok-play_line.ensures.tally c.in_ok-play_line.ensures.plan
          ∙ c.loop-line.invariant.tally;
      plan = c.in_ok-play_line.ensures.plan ∙ c.loop-line.invariant.plan;
      form = c.in_ok-play_line.ensures.form;
      report = c.in_ok-play_line.ensures.report;
      ready = c.in_ok-play_line.ensures.ready;
      steps =
          line_sums (plan_of old) (plan_of new) (tally_of old c.loop-line.counts)
          (tally_of new c.play_line.new.counts) (progress_of old) c.in-Some.line line c.loop-line.script
          c.next.new.self c.loop-line.steps c.play_line.new.steps _ (progress_is old c.loop-line.counts) next
          c.as_bytes.ensures.bytes c.in_ok-play_line.ensures.tally c.in_ok-play_line.ensures.plan
          c.play_line.ensures.steps c.loop-line.invariant.steps;
    }

pub loop-line-smaller : goal.loop-line-smaller
loop-line-smaller g c =
    let next = rw c.in-Some.is at c.in_ok-line.ensures.line in
    shorter c.in-Some.line c.loop-line.script c.next.new.self next

-- after want of memory
pub returns-in_err-line-clause-tally : goal.returns-in_err-line-clause-tally
returns-in_err-line-clause-tally g c = unowed c.from_residual.result _ c.from_residual.ensures.0

pub returns-in_err-line-clause-plan : goal.returns-in_err-line-clause-plan
returns-in_err-line-clause-plan g c = unowed c.from_residual.result _ c.from_residual.ensures.0

pub returns-in_err-line-clause-steps : goal.returns-in_err-line-clause-steps
returns-in_err-line-clause-steps g c =
    so_far _ c.loop-line.steps c.loop-line.steps _ (omega arith) c.loop-line.invariant.steps

pub returns-in_err-play_line-clause-tally : goal.returns-in_err-play_line-clause-tally
returns-in_err-play_line-clause-tally g c =
    unowed c.from_residual-in_err-play_line.result _ c.from_residual-in_err-play_line.ensures.0

pub returns-in_err-play_line-clause-plan : goal.returns-in_err-play_line-clause-plan
returns-in_err-play_line-clause-plan g c =
    unowed c.from_residual-in_err-play_line.result _ c.from_residual-in_err-play_line.ensures.0

pub returns-in_err-play_line-clause-steps : goal.returns-in_err-play_line-clause-steps
returns-in_err-play_line-clause-steps g c =
    let old = c.loop-line.player in
    let next = rw c.in-Some.is at c.in_ok-line.ensures.line in
    line_within (plan_of old) (tally_of old c.loop-line.counts) (progress_of old) c.in-Some.line
    c.as_bytes.result.now c.loop-line.script c.next.new.self c.loop-line.steps c.play_line.new.steps _
    (progress_is old c.loop-line.counts) next c.as_bytes.ensures.bytes c.play_line.ensures.steps
    c.loop-line.invariant.steps
