use Rattle.std.proofs.Common.{Option, subst}
use Rattle.event_acts.specs.Acts.{WasJudgedAt}
use Rattle.event_acts.specs.declared.judging.Judged.{Judged}
use Rattle.event_acts.proofs.Acted.{nobody_heard}
use Rattle.event_acts.proofs.acting.hears_judged.Goals as goal

pub hears_member-requires-clause-frame : goal.hears_member-requires-clause-frame
hears_member-requires-clause-frame c = c.requires.frame

pub hears_member-requires-clause-judged : goal.hears_member-requires-clause-judged
hears_member-requires-clause-judged c =
    subst (λ (j : Option Judged). WasJudgedAt c.args.setup.now c.args.draft.now c.args.n c.args.frame.now j)
    c.in-Some.is c.requires.judged

pub returns-in-Some-clause-drafted : goal.returns-in-Some-clause-drafted
returns-in-Some-clause-drafted c = c.hears_member.ensures.drafted

pub returns-in-Some-clause-bases : goal.returns-in-Some-clause-bases
returns-in-Some-clause-bases c = c.hears_member.ensures.bases

pub returns-in-Some-clause-sendable : goal.returns-in-Some-clause-sendable
returns-in-Some-clause-sendable c = c.hears_member.ensures.sendable

pub returns-in-None-clause-drafted : goal.returns-in-None-clause-drafted
returns-in-None-clause-drafted c =
    nobody_heard c.args.setup.now c.args.draft.now c.args.n c.args.frame.now
    (subst (λ (j : Option Judged). WasJudgedAt c.args.setup.now c.args.draft.now c.args.n c.args.frame.now j)
    c.in-None.is c.requires.judged)
