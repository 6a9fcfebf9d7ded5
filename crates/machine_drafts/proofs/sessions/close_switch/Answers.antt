use Rattle.std.proofs.Common.{List, []}
use Rattle.install_plan.specs.declared.written.Written.{Written}
use Rattle.machine_drafts.proofs.Placed.{none_changed, round_based, round_changed, round_emptied}
use Rattle.machine_meaning.specs.Rounds.{ended_switch}
use Rattle.machine_drafts.specs.SwitchDrafts.{SwitchDraftOf}
use Rattle.machine_drafts.proofs.sessions.close_switch.Goals as goal

pub returns-then-place-switches-clause-now : goal.returns-then-place-switches-clause-now
returns-then-place-switches-clause-now c =
    none_changed (λ (x : SwitchDraftOf). x.now) ended_switch c.args.switches.now c.args.n c.if-place-switches.true

pub returns-then-place-switches-clause-standing : goal.returns-then-place-switches-clause-standing
returns-then-place-switches-clause-standing c =
    none_changed (λ (x : SwitchDraftOf). x.standing) (λ (old : List Written). []) c.args.switches.now c.args.n
    c.if-place-switches.true

pub returns-clause-now : goal.returns-clause-now
returns-clause-now c =
    let r = c.index-switches-place.result in
    round_changed ended_switch c.args.switches.now c.args.n c.close.new.self r c.if-place-switches.false
    c.close.ensures

pub returns-clause-standing : goal.returns-clause-standing
returns-clause-standing c =
    let r = c.index-switches-place.result in
    round_emptied ended_switch c.args.switches.now c.args.n c.close.new.self r c.if-place-switches.false
    c.close.ensures

pub returns-clause-bases : goal.returns-clause-bases
returns-clause-bases c =
    let r = c.index-switches-place.result in
    round_based ended_switch c.args.switches.now c.args.n c.close.new.self r c.if-place-switches.false
    c.close.ensures
