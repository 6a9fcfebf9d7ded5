use Rattle.std.proofs.Common.{◌≡◌, ◌≤◌, ◌∙◌, false, true, ap, length, subst, sym, arith, rules}
use Rattle.script_text.specs.Reading.{line_in}
use Rattle.replay_report.specs.Kinds.{Reads}
use Rattle.replay_report.specs.Players.{form_of, is_ready, plan_of, progress_of, reported}
use Rattle.replay_report.specs.Reports.{taken}
use Rattle.replay_report.specs.declared.kind.Kind.TheVariants.{Long, Size}
use Rattle.replay_report.proofs.Followed.{long_taken}
use Rattle.replay_report.proofs.Taking.{done_takes, line_counts, read_refused, read_said, read_taken, refused_takes}
use Rattle.replay_report.proofs.Taking.{size_taken}
use Rattle.replay_report.proofs.Taking.{unknown_takes}
use Rattle.replay_report.proofs.player.Player.line.Goals as goal

pub returns-then-line-gt-LINE-clause-takes : goal.returns-then-line-gt-LINE-clause-takes
unfolding form_of plan_of reported progress_of
returns-then-line-gt-LINE-clause-takes g c =
    let self = c.args.self.now in
    let at = progress_of self in
    refused_takes (taken (form_of self) (plan_of self) at c.args.line.now c.args.used) Long c.args.used at
    (reported self)
    (long_taken (form_of self) (plan_of self) at c.args.line.now c.args.used (omega (arith, c.if-line-gt-LINE.true)))

pub returns-then-size-gt-SCRIPT-clause-takes : goal.returns-then-size-gt-SCRIPT-clause-takes
unfolding form_of plan_of reported progress_of
returns-then-size-gt-SCRIPT-clause-takes g c =
    let self = c.args.self.now in
    let at = progress_of self in
    refused_takes (taken (form_of self) (plan_of self) at c.args.line.now c.args.used) Size c.args.used at
    (reported self)
    (size_taken (form_of self) (plan_of self) at c.args.line.now c.args.used (omega (arith, c.if-line-gt-LINE.false))
    (omega (arith, c.if-size-gt-SCRIPT.true)))

pub returns-in-Err-clause-takes : goal.returns-in-Err-clause-takes
unfolding form_of plan_of reported progress_of
returns-in-Err-clause-takes g c =
    let self = c.args.self.now in
    let at = progress_of self in
    let line = c.args.line.now in
    let read = read_taken (form_of self) (plan_of self) at line c.args.used (omega (arith, c.if-line-gt-LINE.false))
    (omega (arith, c.if-size-gt-SCRIPT.false)) in
    let said = subst (Reads (line_in (form_of self) line)) c.in-Err.is c.in_ok-said.ensures in
    refused_takes (taken (form_of self) (plan_of self) at line c.args.used) c.in-Err.kind c.args.used at (reported self)
    (read ∙ read_refused (plan_of self) (line_in (form_of self) line) c.in-Err.kind at.stand said)

pub returns-then-not-branch-clause-takes : goal.returns-then-not-branch-clause-takes
unfolding form_of plan_of reported progress_of
returns-then-not-branch-clause-takes g c =
    let self = c.args.self.now in
    let at = progress_of self in
    let line = c.args.line.now in
    let read = read_taken (form_of self) (plan_of self) at line c.args.used (omega (arith, c.if-line-gt-LINE.false))
    (omega (arith, c.if-size-gt-SCRIPT.false)) in
    let said = subst (Reads (line_in (form_of self) line)) c.in-Ok.is c.in_ok-said.ensures in
    let known : c.in_ok-play.field-0 ≡ false = search rules in
    unknown_takes (plan_of self) (taken (form_of self) (plan_of self) at line c.args.used) c.in-Ok.said
    c.in_ok-play.field-0 self.number self.size c.args.used self.stage c.play.new.stage self.streams
    c.play.new.streams
    (read ∙ read_said (plan_of self) (line_in (form_of self) line) c.in-Ok.said at.stand said) known
    c.in_ok-play.ensures.plays

pub returns-clause-takes : goal.returns-clause-takes
unfolding form_of plan_of reported progress_of
returns-clause-takes g c =
    let self = c.args.self.now in
    let at = progress_of self in
    let line = c.args.line.now in
    let read = read_taken (form_of self) (plan_of self) at line c.args.used (omega (arith, c.if-line-gt-LINE.false))
    (omega (arith, c.if-size-gt-SCRIPT.false)) in
    let said = subst (Reads (line_in (form_of self) line)) c.in-Ok.is c.in_ok-said.ensures in
    let known : c.in_ok-play.field-0 ≡ true = search rules in
    done_takes (plan_of self) (taken (form_of self) (plan_of self) at line c.args.used) c.in-Ok.said
    c.in_ok-play.field-0 self.number self.size c.args.used self.stage c.play.new.stage self.streams
    c.play.new.streams
    (read ∙ read_said (plan_of self) (line_in (form_of self) line) c.in-Ok.said at.stand said) known
    c.in_ok-play.ensures.plays

pub play-requires-clause-compiled : goal.play-requires-clause-compiled
unfolding is_ready
play-requires-clause-compiled g c ks lives = c.requires.ready

pub returns-clause-steps : goal.returns-clause-steps
unfolding form_of plan_of reported progress_of
returns-clause-steps g c =
    let self = c.args.self.now in
    let said = subst (Reads (line_in (form_of self) c.args.line.now)) c.in-Ok.is c.in_ok-said.ensures in
    line_counts (form_of self) (plan_of self) (progress_of self) c.args.line.now c.args.used c.in-Ok.said
    c.args.steps.now c.play.new.steps (omega (arith, c.if-line-gt-LINE.false))
    (omega (arith, c.if-size-gt-SCRIPT.false))
    said c.play.ensures.steps

pub returns-in_err-play-clause-steps : goal.returns-in_err-play-clause-steps
unfolding form_of plan_of reported progress_of
returns-in_err-play-clause-steps g c =
    let self = c.args.self.now in
    let said = subst (Reads (line_in (form_of self) c.args.line.now)) c.in-Ok.is c.in_ok-said.ensures in
    line_counts (form_of self) (plan_of self) (progress_of self) c.args.line.now c.args.used c.in-Ok.said
    c.args.steps.now c.play.new.steps (omega (arith, c.if-line-gt-LINE.false))
    (omega (arith, c.if-size-gt-SCRIPT.false))
    said c.play.ensures.steps
