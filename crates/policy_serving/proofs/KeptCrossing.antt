-- What the machine keeps of the composed part may go to another thread.
use denote.Param.Send.{IsSend, sendable}
use Rattle.composed_tables.specs.contracts.composed.Composed as Composed
use Rattle.composed_tables.specs.contracts.rules.Rules as Rules
use Rattle.cv_io.proofs.list.List.TheSendSync.{the_send as list}
use Rattle.hop_rules.proofs.table.HopTable.TheSendSync.{the_send as hop_table}
use Rattle.incr_compile.proofs.node.Below.TheSendSync.{the_send as below}
use Rattle.incr_compile.proofs.tree.Tree.TheLaws.TheKnot as tree_knot
use Rattle.incr_compile.specs.contracts.compiled.Compiled as Compiled
use Rattle.incr_compile.specs.contracts.node.Node as Node
use Rattle.incr_compile.specs.contracts.tree.Tree as Tree
use Rattle.made_rules.proofs.made.Made.TheSendSync.{the_send as made}
use Rattle.match_index.proofs.index.Index.TheSendSync.{the_send as index}
use Rattle.policy_expr.proofs.expr.Expr.TheLaws.TheKnot as knot
use Rattle.policy_expr.specs.contracts.expr.Expr as Expr
use Rattle.policy_meaning.proofs.network.Link.TheSendSync.{the_send as link}
use Rattle.policy_meaning.specs.contracts.network.VirtualSwitch as VirtualSwitch
use Rattle.rule_ancestry.proofs.store.Store.TheSendSync.{the_send as store}
use Rattle.std.proofs.Crossing.{Box-send}
use Rattle.switch_meaning.proofs.wiring.Cable.TheSendSync.{the_send as cable}
use Rattle.switch_meaning.proofs.wiring.NextHop.TheSendSync.{the_send as hop}
use Rattle.switch_meaning.proofs.wiring.Outside.TheSendSync.{the_send as outside}
use Rattle.switch_meaning.specs.contracts.wiring.Wiring as Wiring
use Rattle.switch_tables.proofs.switch_table.SwitchTable.TheSendSync.{the_send as table}

expr : IsSend Expr.the_field.row
expr = knot.send-Expr (search sendable) Box-send

node_field : IsSend Node.the_field.row
node_field = search (store, made, index, below, sendable) depth 30

tree : IsSend Tree.the_field.row
tree =
    tree_knot.send-Tree (search sendable) (search sendable) (search (store, made, sendable) depth 20)
    node_field Box-send

compiled : IsSend Compiled.the_row
compiled = search (tree, sendable) depth 20

virtual : IsSend VirtualSwitch.the_row
virtual = search (list, link, expr, sendable) depth 20

rules : IsSend Rules.the_row
rules = search (list, compiled, hop_table, sendable) depth 30

wiring_field : IsSend Wiring.the_field.row
wiring_field = search (list, outside, cable, hop, sendable) depth 30

pub composed : IsSend Composed.the_row
composed = search (list, wiring_field, virtual, rules, table, sendable) depth 60
