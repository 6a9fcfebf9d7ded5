use Rattle.std.proofs.Common.{arith, subst}
use Rattle.std.specs.List.Sorted.{IsStrictlySortedBy}
use Rattle.std.specs.Ordering.{nat_cmp}
use Rattle.made_rules.proofs.Ids.{Rising}
use Rattle.made_rules.specs.Rules.{rules_in}
use Rattle.hop_rules.specs.Nodes.{found}
use Rattle.hop_rules.proofs.Found.{found-numbered, match-at}
use Rattle.hop_rules.proofs.HeldRules.{same-ids}
use Rattle.hop_rules.proofs.Showing.{all-shown, none-yet, one-more, still-hidden}
use Rattle.hop_rules.proofs.node.show_all.Goals as goal

pub loop-id-init : goal.loop-id-init
loop-id-init c =
    let up : Rising (rules_in c.args.store.now) =
    subst (IsStrictlySortedBy nat_cmp) (same-ids c.args.store.now) c.len-count.ensures.rising in
    record {
      room = let r = c.requires.room in omega arith;
      shown = λ coming kept p e s. none-yet found found-numbered (rules_in c.args.store.now) coming kept c.args.ids.now
          up p e c.args.index.now.items s;
    }

pub show-requires-clause-new_id : goal.show-requires-clause-new_id
show-requires-clause-new_id c =
    let up : Rising (rules_in c.args.store.now) =
    subst (IsStrictlySortedBy nat_cmp) (same-ids c.args.store.now) c.len-count.ensures.rising in
    let r = c.requires.hidden in
    still-hidden found found-numbered (rules_in c.args.store.now) r.coming r.kept c.args.ids.now up r.all r.ids_are
    c.loop-id.id-index _ c.loop-id-test.true c.loop-id.index.items
    (c.loop-id.invariant.shown r.coming r.kept r.all r.ids_are r.found_are)

pub loop-id-preserved : goal.loop-id-preserved
loop-id-preserved c =
    let up : Rising (rules_in c.args.store.now) =
    subst (IsStrictlySortedBy nat_cmp) (same-ids c.args.store.now) c.len-count.ensures.rising in
    record {
      room = let r = c.loop-id.invariant.room in let s = c.show.ensures.room in omega arith;
      shown = λ coming kept p e s.
          one-more found found-numbered (rules_in c.args.store.now) coming kept c.args.ids.now up p e c.loop-id.id-index
          _ c.loop-id-test.true c.loop-id.index.items c.show.new.index.items _
          (c.loop-id.invariant.shown coming kept p e s)
          (λ h k there. match-at c.args.store.now h _ _ k c.match_at.ensures there) c.show.ensures.items;
    }

pub returns : goal.returns
returns c =
    let up : Rising (rules_in c.args.store.now) =
    subst (IsStrictlySortedBy nat_cmp) (same-ids c.args.store.now) c.len-count.ensures.rising in
    let r = c.requires.hidden in
    all-shown found found-numbered (rules_in c.args.store.now) r.coming r.kept c.args.ids.now up r.all r.ids_are
    c.loop-id.id-index c.loop-id.index.items (omega (arith, c.loop-id-test.false))
    (c.loop-id.invariant.shown r.coming r.kept r.all r.ids_are r.found_are)
