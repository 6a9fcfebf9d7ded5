use Rattle.std.proofs.Common.{◌≡◌, drop}
use Rattle.of10_actions.specs.Rewriting.{no_rewrite}
use Rattle.packet_map.specs.Sending.{table_from}
use Rattle.event_acts.proofs.giving.table_rewrite.Given as goal

abbrev pub invariant-loop-action : goal.invariant-loop-action
invariant-loop-action l = table_from l.rewrite (drop l.action-index l.actions) ≡ table_from no_rewrite l.actions
