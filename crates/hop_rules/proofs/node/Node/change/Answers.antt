use Rattle.std.proofs.Common.{◌∙◌, ◌++◌, List, ap, arith, length, subst, sym}
use Rattle.std.specs.List.Sorted.{IsStrictlySortedBy}
use Rattle.std.specs.Ordering.{nat_cmp}
use Rattle.std.specs.Prelude.{IsPermutation, filter_map}
use Rattle.made_rules.specs.Rules.{rules_in}
use Rattle.match_index.specs.declared.item.Item.{Item}
use Rattle.hop_rules.specs.Nodes.{NodeOf, found}
use Rattle.hop_rules.specs.Turns.{IsChange}
use Rattle.hop_rules.specs.declared.node.Turn.{Turn}
use Rattle.hop_rules.proofs.Changing.{come-count, ready-change, ready-turned}
use Rattle.hop_rules.proofs.HeldRules.{same-ids}
use Rattle.hop_rules.proofs.Settled.{found-held}
use Rattle.hop_rules.proofs.node.Node.change.Goals as goal

pub invariant_of-self : goal.invariant_of-self
invariant_of-self c read =
    subst (λ (items : List Item). IsPermutation items (filter_map found (rules_in c.self.inside.store)))
    (sym c.make_room.ensures.items) (c.self.invariant read)

pub ready-requires : goal.ready-requires
ready-requires c = found-held c.self.inside.store c.args.lost.now c.deref.result.now
    (c.deref.ensures.value ∙ c.in_ok-gone.ensures)

pub settle-left-requires : goal.settle-left-requires
settle-left-requires c = let r = c.in_ok-change.ensures.ready in ((r.kept ++ r.coming) ++ r.going, r.is)

pub undo-requires : goal.undo-requires
undo-requires c = let r = c.in_ok-change.ensures.ready in ((r.kept ++ r.coming) ++ r.going, r.is)

pub renew-requires-clause-room : goal.renew-requires-clause-room
renew-requires-clause-room c read =
    let r = c.in_ok-change.ensures.ready in
    let a = c.in_ok-make_room.ensures.room read in
    let b = come-count c.self.inside.store c.ready.new.store c.deref.result.now c.args.fresh.items c.in_ok-change.change
    r in
    let e = ap (λ (t : Turn). length t.come) c.in-Ok.ensures in
    omega arith

pub renew-requires-clause-turned : goal.renew-requires-clause-turned
renew-requires-clause-turned c read =
    let r = c.in_ok-change.ensures.ready in
    let p = c.settle-left.ensures.settled c.self.inside.store c.deref.result.now c.args.fresh.items r in
    record {
      before = rules_in c.self.inside.store;
      rising = subst (IsStrictlySortedBy nat_cmp) (same-ids c.self.inside.store) r.rises;
      turned = ready-turned c.self.inside.store c.ready.new.store c.settle-left.new.store c.deref.result.now
          c.args.fresh.items c.in_ok-change.change r p c.in-Ok.turn c.in-Ok.ensures;
      found_are = subst (λ (items : List Item). IsPermutation items (filter_map found (rules_in c.self.inside.store)))
          (sym c.make_room.ensures.items) (c.self.invariant read);
    }

pub returns-in-Ok-clause-change : goal.returns-in-Ok-clause-change
returns-in-Ok-clause-change c =
    let r = c.in_ok-change.ensures.ready in
    let p = c.settle-left.ensures.settled c.self.inside.store c.deref.result.now c.args.fresh.items r in
    let l = c.settle-left.ensures.left c.self.inside.store c.deref.result.now c.args.fresh.items r in
    subst (λ (n : NodeOf). IsChange n.held c.settle-left.new.store c.args.lost.now c.args.fresh.items c.in-Ok.turn
    c.settle-left.result.items) c.self.view_is
    (ready-change c.self.inside.store c.ready.new.store c.settle-left.new.store c.deref.result.now c.args.fresh.items
    c.in_ok-change.change r p c.args.lost.now (c.deref.ensures.value ∙ c.in_ok-gone.ensures) c.in-Ok.turn
    c.in-Ok.ensures c.settle-left.result.items l c.len-count.ensures.rising)
