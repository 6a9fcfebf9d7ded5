use Rattle.std.proofs.Common.{◌∙◌, ap, arith}
use Rattle.std.specs.Prelude.{option_map}
use Rattle.rule_ancestry.specs.Holding.{item_at}
use Rattle.hop_rules.specs.Handed.{asks_by, listed}
use Rattle.hop_rules.specs.Items.{item_for}
use Rattle.hop_rules.specs.Standing.{over}
use Rattle.hop_rules.proofs.Listed.{listed-numbered}
use Rattle.hop_rules.proofs.Showing.{all-shown, none-yet, one-more, still-hidden}
use Rattle.hop_rules.proofs.given.list_all.Goals as goal

pub loop-id-init : goal.loop-id-init
loop-id-init c =
    let exits = c.args.exits.now in
    record {
      room = let r = c.requires.room in omega arith;
      shown = λ coming kept p e s. none-yet (listed exits) (listed-numbered exits) c.args.store.now coming kept
          c.args.ids.now c.len-count.ensures.rising p e c.args.index.now.items s;
    }

pub show-requires-clause-new_id : goal.show-requires-clause-new_id
show-requires-clause-new_id c =
    let exits = c.args.exits.now in
    let r = c.requires.unlisted in
    still-hidden (listed exits) (listed-numbered exits) c.args.store.now r.coming r.kept c.args.ids.now
    c.len-count.ensures.rising r.all r.ids_are c.loop-id.id-index _ c.loop-id-test.true c.loop-id.index.items
    (c.loop-id.invariant.shown r.coming r.kept r.all r.ids_are r.listed)

pub loop-id-preserved : goal.loop-id-preserved
loop-id-preserved c =
    let exits = c.args.exits.now in
    record {
      room = let r = c.loop-id.invariant.room in let s = c.show.ensures.room in omega arith;
      shown = λ coming kept p e s.
          one-more (listed exits) (listed-numbered exits) c.args.store.now coming kept c.args.ids.now
          c.len-count.ensures.rising p e c.loop-id.id-index _ c.loop-id-test.true c.loop-id.index.items
          c.show.new.index.items _
          (c.loop-id.invariant.shown coming kept p e s)
          (λ h k there.
          ap (option_map (item_for _)) (c.asked_at.ensures h.item (ap (λ n. item_at c.args.store.now n) k ∙ there))
          ∙ ap (λ n. option_map (item_for n) (asks_by h.item (over exits h.item.tail))) k)
          c.show.ensures.items;
    }

pub returns : goal.returns
returns c =
    let exits = c.args.exits.now in
    let r = c.requires.unlisted in
    all-shown (listed exits) (listed-numbered exits) c.args.store.now r.coming r.kept c.args.ids.now
    c.len-count.ensures.rising r.all r.ids_are c.loop-id.id-index c.loop-id.index.items
    (omega (arith, c.loop-id-test.false))
    (c.loop-id.invariant.shown r.coming r.kept r.all r.ids_are r.listed)
