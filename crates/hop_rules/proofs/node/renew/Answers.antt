use Rattle.std.proofs.Common.{ap, arith, length, subst, sym}
use Rattle.std.specs.Prelude.{IsPermutation, filter, filter_map}
use Rattle.rule_ancestry.specs.Holding.{is_outside}
use Rattle.hop_rules.specs.Nodes.{found}
use Rattle.hop_rules.specs.Turns.{AreHidden}
use Rattle.hop_rules.proofs.Changing.{found-hidden}
use Rattle.hop_rules.proofs.Found.{found-numbered}
use Rattle.hop_rules.proofs.node.renew.Goals as goal

pub show_all-requires-clause-room : goal.show_all-requires-clause-room
show_all-requires-clause-room c =
    let r = c.requires.room (c.if-not-is_read.false) in
    let h = c.hide.ensures.room in
    let e = ap length c.as_slice-2.ensures in
    omega arith

pub show_all-requires-clause-hidden : goal.show_all-requires-clause-hidden
show_all-requires-clause-hidden c =
    let b = c.requires.turned (c.if-not-is_read.false) in
    subst (λ ids. AreHidden c.hide.new.index.items c.args.store.now ids) (sym c.as_slice-2.ensures)
    (found-hidden c.args.index.now.items c.hide.new.index.items c.args.store.now c.args.turn.now b
    (subst (λ ids. IsPermutation c.hide.new.index.items (filter_map found (filter (is_outside ids) b.before)))
    c.as_slice.ensures
    (c.hide.ensures.items found found-numbered b.before b.found_are)))
