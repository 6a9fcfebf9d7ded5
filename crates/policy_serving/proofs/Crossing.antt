-- The machine may go to another thread.
use denote.Param.Send.{IsSend, sendable}
use denote.Param.SendFields.{as_row_send}
use Rattle.std.proofs.Crossing.{Arc-send, Box-send}
use Rattle.cv_io.proofs.list.List.TheSendSync.{the_send as list}
use Rattle.machine_drafts.proofs.session.Member.TheSendSync.{the_send as member}
use Rattle.machine_drafts.proofs.session.Switch.TheSendSync.{the_send as switch}
use Rattle.machine_drafts.proofs.setup.Setup.TheSendSync.{the_send as setup, the_sync as shared_setup}
use Rattle.policy_serving.proofs.KeptCrossing.{composed}
use Rattle.machine_drafts.specs.contracts.held.Held as Held
use Rattle.hyper_core.specs.contracts.hyper.Hyper as Hyper
use Rattle.machine_meaning.proofs.state.Owed.TheSendSync.{the_send as owed}
use Rattle.outbox.proofs.letters.Letters.TheSendSync.{the_send as letters}
use Rattle.policy_expr.proofs.expr.Expr.TheLaws.TheKnot as knot
use Rattle.policy_expr.specs.contracts.expr.Expr as Expr
use Rattle.stats_map.proofs.counts.Counts.TheSendSync.{the_send as counts}
use Rattle.waitings.proofs.state.Waiting.TheSendSync.{the_send as waiting}

expr : IsSend Expr.the_field.row
expr = knot.send-Expr (search sendable) Box-send

expr_row : IsSend Expr.the_row
expr_row = as_row_send Expr.the_field expr

held : IsSend Held.the_row
held = search (list, expr_row, member, switch, counts, waiting, owed, letters, sendable) depth 60

held_field : IsSend Held.the_field.row
held_field = search (list, expr_row, expr, member, switch, counts, waiting, owed, letters, sendable) depth 60

pub hyper : IsSend Hyper.the_row
hyper = search (Arc-send, setup, shared_setup, held_field, held, composed, sendable) depth 20
