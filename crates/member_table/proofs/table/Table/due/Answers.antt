use Rattle.std.proofs.Common.{ap, subst, sym}
use Rattle.member_table.specs.Tables.{Held}
use Rattle.member_table.specs.Timeouts.{ListsRising, is_hard_due, is_idle_due, serials_of}
use Rattle.member_table.specs.declared.change.Due.{Due}
use Rattle.member_table.proofs.Quiet.{none_hard, none_idle}
use Rattle.member_table.proofs.table.Table.due.Goals as goal

pub returns-then-now-self-clause-hard : goal.returns-then-now-self-clause-hard
returns-then-now-self-clause-hard c =
    let es = c.self.inside.order.entries in
    let now = c.args.now in
    subst (λ (h : Held). ListsRising (serials_of (is_hard_due now) h.table.entries) c.none.result.hard) c.self.view_is
    (subst (ListsRising (serials_of (is_hard_due now) es)) (sym (ap (λ (d : Due). d.hard) c.none.ensures))
    (none_hard c.self.inside.soonest now es c.if-now-self.true c.self.invariant.quiet))

pub returns-then-now-self-clause-idle : goal.returns-then-now-self-clause-idle
returns-then-now-self-clause-idle c =
    let es = c.self.inside.order.entries in
    let now = c.args.now in
    subst (λ (h : Held). ListsRising (serials_of (is_idle_due now) h.table.entries) c.none.result.idle) c.self.view_is
    (subst (ListsRising (serials_of (is_idle_due now) es)) (sym (ap (λ (d : Due). d.idle) c.none.ensures))
    (none_idle c.self.inside.soonest now es c.if-now-self.true c.self.invariant.quiet))
