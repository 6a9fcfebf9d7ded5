use Rattle.std.proofs.Common.{◌≡◌, ◌+◌, ◌∙◌, false, [], length, refl, subst, sym, rules}
use Rattle.std.proofs.lemmas.Result.{err_from_is_err_and}
use Rattle.replay_report.specs.Players.{form_of, plan_of, progress_of, reported}
use Rattle.replay_report.specs.Playing.{Played}
use Rattle.replay_report.specs.Reports.{Progress, taken}
use Rattle.replay_report.specs.declared.kind.Kind.{Kind}
use Rattle.std.specs.Prelude.{ℕ, List, Result}
use Rattle.covisor_proxy.specs.Chunks.{GoesOn, LinesOf}
use Rattle.covisor_proxy.specs.Following.{Does, Follows, Halts}
use Rattle.covisor_proxy.specs.Outcomes.{moment}
use Rattle.covisor_proxy.specs.declared.lines.Taken.{Taken}
use Rattle.covisor_proxy.specs.declared.lines.Taken.TheVariants.{Whole, Part}
use Rattle.covisor_proxy.proofs.Going.{follows-line, follows-part, follows-read, follows-start}
use Rattle.covisor_proxy.proofs.Reaching.{begins-so, reaches-halted, reaches-last, reaches-unread, steps-same}
use Rattle.covisor_proxy.proofs.Reaching.{taken-same}
use Rattle.covisor_proxy.proofs.replay.replay_over.Goals as goal
use Rattle.covisor_proxy.proofs.replay.replay_over.Goals.{in-Whole+in_ok-whole_line-in-Whole}
use Rattle.covisor_proxy.proofs.replay.replay_over.Goals.{in-Part+in_ok-more-in-Part+else-not-branch}

pub loop-init : goal.loop-init
loop-init g c =
    let here = moment (g.S.Source.remaining c.args.input.now) (g.S.Source.faults c.args.input.now)
    (g.K.Sink.held c.args.out.now) (g.K.Sink.faults c.args.out.now) c.args.steps.now in
    record {
      follows = follows-start (form_of c.args.player.now) (plan_of c.args.player.now) here
          (progress_of c.args.player.now) c.args.lines.now (reported c.args.player.now) c.requires.begins
          c.requires.unread c.requires.silent;
      reads = refl;
      writes = refl;
      form = refl;
      plan = refl;
      ready = c.requires.ready;
    }

pub returns-in_err-take : goal.returns-in_err-take
returns-in_err-take g c =
    let p = err_from_is_err_and c.from_residual.result c.from_residual.ensures.1 in
    let old = moment (g.S.Source.remaining c.args.input.now) (g.S.Source.faults c.args.input.now)
    (g.K.Sink.held c.args.out.now) (g.K.Sink.faults c.args.out.now) c.args.steps.now in
    let new = moment (g.S.Source.remaining c.loop.input) (g.S.Source.faults c.loop.input) (g.K.Sink.held c.loop.out)
    (g.K.Sink.faults c.loop.out) c.loop.steps in
    rw (p.1, p.2)
    (record {
      reaches = begins-so (form_of c.args.player.now) (plan_of c.args.player.now) old new
          (progress_of c.loop.player) c.loop.lines (reported c.loop.player) c.loop.invariant.follows;
    })

pub returns-in_err-whole_line-in-Whole : goal.returns-in_err-whole_line-in-Whole
returns-in_err-whole_line-in-Whole g c =
    let p = err_from_is_err_and c.from_residual-in_err-whole_line-in-Whole.result
    c.from_residual-in_err-whole_line-in-Whole.ensures.1 in
    let old = moment (g.S.Source.remaining c.args.input.now) (g.S.Source.faults c.args.input.now)
    (g.K.Sink.held c.args.out.now) (g.K.Sink.faults c.args.out.now) c.args.steps.now in
    let new = moment (g.S.Source.remaining c.loop.input) (g.S.Source.faults c.loop.input) (g.K.Sink.held c.loop.out)
    (g.K.Sink.faults c.loop.out) c.loop.steps in
    let form = form_of c.args.player.now in
    let plan = plan_of c.args.player.now in
    let at = progress_of c.loop.player in
    let at' = progress_of c.whole_line.new.player in
    let mid = c.take.new.self in
    let w = reported c.loop.player in
    let w' = reported c.whole_line.new.player in
    let held = g.K.Sink.held c.whole_line.new.out in
    let writes = g.K.Sink.faults c.whole_line.new.out in
    let stop = c.in_err-whole_line-in-Whole.field-0.0 in
    let went : GoesOn Whole c.loop.lines mid =
    subst (λ (x : Taken). GoesOn x c.loop.lines mid) c.in-Whole.is c.in_ok-take.ensures in
    let same = taken-same (form_of c.loop.player) form (plan_of c.loop.player) plan at mid.line (length mid.line + 1)
    c.loop.invariant.form c.loop.invariant.plan in
    let halts = subst (λ (x : Result Played Kind). Halts stop x at at' new.held held new.writes writes w w') same
    c.in_err-whole_line-in-Whole.ensures.halts in
    let steps = c.whole_line.new.steps in
    let counts = steps-same (form_of c.loop.player) form (plan_of c.loop.player) plan at mid.line (length mid.line + 1)
    c.loop.steps steps
    c.loop.invariant.form c.loop.invariant.plan c.in_err-whole_line-in-Whole.ensures.steps in
    rw (p.1, p.2)
    (record {
      reaches = reaches-halted stop form plan old new held writes steps at at' c.loop.lines mid w w'
          c.loop.invariant.follows went c.loop.invariant.writes halts counts;
    })

pub returns-in_err-more-in-Part : goal.returns-in_err-more-in-Part
returns-in_err-more-in-Part g c =
    let p = err_from_is_err_and c.from_residual-in_err-more-in-Part.result
    c.from_residual-in_err-more-in-Part.ensures.1 in
    let old = moment (g.S.Source.remaining c.args.input.now) (g.S.Source.faults c.args.input.now)
    (g.K.Sink.held c.args.out.now) (g.K.Sink.faults c.args.out.now) c.args.steps.now in
    let new = moment (g.S.Source.remaining c.loop.input) (g.S.Source.faults c.loop.input) (g.K.Sink.held c.loop.out)
    (g.K.Sink.faults c.loop.out) c.loop.steps in
    let next = moment (g.S.Source.remaining c.more.new.input) (g.S.Source.faults c.more.new.input)
    (g.K.Sink.held c.more.new.out) (g.K.Sink.faults c.more.new.out) c.loop.steps in
    let form = form_of c.args.player.now in
    let plan = plan_of c.args.player.now in
    let at = progress_of c.loop.player in
    let mid = c.take.new.self in
    let w = reported c.loop.player in
    let stop = c.in_err-more-in-Part.field-0.0 in
    let went : GoesOn Part c.loop.lines mid =
    subst (λ (x : Taken). GoesOn x c.loop.lines mid) c.in-Part.is c.in_ok-take.ensures in
    let follows = follows-part form plan old new at c.loop.lines mid w c.loop.invariant.follows went in
    rw (p.1, p.2)
    (record {
      reaches = reaches-unread stop form plan old new next at (progress_of c.more.new.player) mid w
          (reported c.more.new.player)
          follows went.2 c.loop.invariant.reads c.loop.invariant.writes refl c.in_err-more-in-Part.ensures.progress
          (c.in_err-more-in-Part.ensures.stops c.loop.steps);
    })

pub returns-then-not-branch : goal.returns-then-not-branch
returns-then-not-branch g c =
    let old = moment (g.S.Source.remaining c.args.input.now) (g.S.Source.faults c.args.input.now)
    (g.K.Sink.held c.args.out.now) (g.K.Sink.faults c.args.out.now) c.args.steps.now in
    let new = moment (g.S.Source.remaining c.loop.input) (g.S.Source.faults c.loop.input) (g.K.Sink.held c.loop.out)
    (g.K.Sink.faults c.loop.out) c.loop.steps in
    let next = moment (g.S.Source.remaining c.more.new.input) (g.S.Source.faults c.more.new.input)
    (g.K.Sink.held c.more.new.out) (g.K.Sink.faults c.more.new.out) c.loop.steps in
    let form = form_of c.args.player.now in
    let plan = plan_of c.args.player.now in
    let at = progress_of c.loop.player in
    let at' = progress_of c.more.new.player in
    let mid = c.take.new.self in
    let more = c.more.new.lines in
    let w = reported c.loop.player in
    let went : GoesOn Part c.loop.lines mid =
    subst (λ (x : Taken). GoesOn x c.loop.lines mid) c.in-Part.is c.in_ok-take.ensures in
    let follows = follows-part form plan old new at c.loop.lines mid w c.loop.invariant.follows went in
    let reads = c.in_ok-more-in-Part.ensures.reads c.loop.steps in
    let ended : c.in_ok-more-in-Part.field-0 ≡ false = search rules in
    let last = reads.at_end ended in
    let here : Follows form plan old next at' more [] =
    subst (λ (x : Progress). Follows form plan old next x more []) (sym c.in_ok-more-in-Part.ensures.progress)
    (follows-read form plan old new next at mid more w follows went.2 reads.appends reads.gave reads.line refl) in
    record {
      reaches = reaches-last c.last_line.result (form_of c.more.new.player) form (plan_of c.more.new.player) plan old
          next c.last_line.new.steps at' (progress_of c.last_line.new.player) more
          c.line.result.now (reported c.more.new.player) (reported c.last_line.new.player)
          (c.in_ok-more-in-Part.ensures.form ∙ c.loop.invariant.form)
          (c.in_ok-more-in-Part.ensures.plan ∙ c.loop.invariant.plan) c.line.ensures reads.waits
          here last.0 last.1 (reads.reads ∙ c.loop.invariant.reads) (reads.writes ∙ c.loop.invariant.writes)
          c.last_line.ensures.steps
          c.last_line.ensures.closes c.last_line.ensures.refused;
    }

pub loop-preserved : goal.loop-preserved
loop-preserved g c =
    let old = moment (g.S.Source.remaining c.args.input.now) (g.S.Source.faults c.args.input.now)
    (g.K.Sink.held c.args.out.now) (g.K.Sink.faults c.args.out.now) c.args.steps.now in
    let new = moment (g.S.Source.remaining c.loop.input) (g.S.Source.faults c.loop.input) (g.K.Sink.held c.loop.out)
    (g.K.Sink.faults c.loop.out) c.loop.steps in
    let form = form_of c.args.player.now in
    let plan = plan_of c.args.player.now in
    let at = progress_of c.loop.player in
    let mid = c.take.new.self in
    let w = reported c.loop.player in
    elim c.match-branch-2.branch [
      | in-Whole+in_ok-whole_line-in-Whole v ↦
          let went : GoesOn Whole c.loop.lines mid =
          subst (λ (x : Taken). GoesOn x c.loop.lines mid) v.in-Whole.is c.in_ok-take.ensures in
          let at' = progress_of v.whole_line.new.player in
          let w' = reported v.whole_line.new.player in
          let held = g.K.Sink.held v.whole_line.new.out in
          let writes = g.K.Sink.faults v.whole_line.new.out in
          let same = taken-same (form_of c.loop.player) form (plan_of c.loop.player) plan at mid.line
          (length mid.line + 1) c.loop.invariant.form c.loop.invariant.plan in
          let does = subst (λ (x : Result Played Kind). Does x (length mid.line + 1) at at' new.held held w w') same
          v.in_ok-whole_line-in-Whole.ensures.does in
          let steps = v.whole_line.new.steps in
          let counts = steps-same (form_of c.loop.player) form (plan_of c.loop.player) plan at mid.line
          (length mid.line + 1) c.loop.steps steps
          c.loop.invariant.form c.loop.invariant.plan v.in_ok-whole_line-in-Whole.ensures.steps in
          let here = follows-line form plan old new held writes steps at at' c.loop.lines mid w w'
          c.loop.invariant.follows went does counts in
          rw (v.player-is, v.lines-is, v.input-is, v.out-is, v.steps-is)
          (record {
            follows =
                subst (λ (x : LinesOf). Follows form plan old (moment new.left new.reads held writes steps) at' x w')
                (sym v.in_ok-whole_line-in-Whole.ensures.next) here;
            reads = c.loop.invariant.reads;
            writes = v.in_ok-whole_line-in-Whole.ensures.quiet ∙ c.loop.invariant.writes;
            form = v.in_ok-whole_line-in-Whole.ensures.form ∙ c.loop.invariant.form;
            plan = v.in_ok-whole_line-in-Whole.ensures.plan ∙ c.loop.invariant.plan;
            ready = v.in_ok-whole_line-in-Whole.ensures.ready;
          })
      | in-Part+in_ok-more-in-Part+else-not-branch v ↦
          let went : GoesOn Part c.loop.lines mid =
          subst (λ (x : Taken). GoesOn x c.loop.lines mid) v.in-Part.is c.in_ok-take.ensures in
          let next = moment (g.S.Source.remaining v.more.new.input) (g.S.Source.faults v.more.new.input)
          (g.K.Sink.held v.more.new.out) (g.K.Sink.faults v.more.new.out) c.loop.steps in
          let at' = progress_of v.more.new.player in
          let more = v.more.new.lines in
          let reads = v.in_ok-more-in-Part.ensures.reads c.loop.steps in
          let follows = follows-part form plan old new at c.loop.lines mid w c.loop.invariant.follows went in
          let here : Follows form plan old next at' more [] =
          subst (λ (x : Progress). Follows form plan old next x more []) (sym v.in_ok-more-in-Part.ensures.progress)
          (follows-read form plan old new next at mid more w follows went.2 reads.appends reads.gave reads.line refl) in
          rw (v.player-is, v.lines-is, v.input-is, v.out-is, v.steps-is)
          (record {
            follows = subst (Follows form plan old next at' more) (sym reads.waits) here;
            reads = reads.reads ∙ c.loop.invariant.reads;
            writes = reads.writes ∙ c.loop.invariant.writes;
            form = v.in_ok-more-in-Part.ensures.form ∙ c.loop.invariant.form;
            plan = v.in_ok-more-in-Part.ensures.plan ∙ c.loop.invariant.plan;
            ready = v.in_ok-more-in-Part.ensures.ready c.loop.invariant.ready;
          })
    ]

pub returns : goal.returns
returns g c =
    let old = moment (g.S.Source.remaining c.args.input.now) (g.S.Source.faults c.args.input.now)
    (g.K.Sink.held c.args.out.now) (g.K.Sink.faults c.args.out.now) c.args.steps.now in
    let new = moment (g.S.Source.remaining c.loop.input) (g.S.Source.faults c.loop.input) (g.K.Sink.held c.loop.out)
    (g.K.Sink.faults c.loop.out) c.loop.steps in
    record {
      reaches = begins-so (form_of c.args.player.now) (plan_of c.args.player.now) old new
          (progress_of c.loop.player) c.loop.lines (reported c.loop.player) c.loop.invariant.follows;
    }
