use Rattle.std.proofs.lemmas.Result.{IfOk-weaker}
use Rattle.member_table.specs.Timeouts.{is_hard_due, is_idle_due}
use Rattle.member_state.proofs.Due.{due_is}
use Rattle.member_state.proofs.planning.due_in.Goals as goal

pub returns-clause-hard : goal.returns-clause-hard
returns-clause-hard c = IfOk-weaker c.due.result _ _
    (λ due l. due_is (is_hard_due c.args.now) c.args.table.now.table due.hard c.len.ensures.sound l)
    c.due.ensures.hard

pub returns-clause-idle : goal.returns-clause-idle
returns-clause-idle c = IfOk-weaker c.due.result _ _
    (λ due l. due_is (is_idle_due c.args.now) c.args.table.now.table due.idle c.len.ensures.sound l)
    c.due.ensures.idle
