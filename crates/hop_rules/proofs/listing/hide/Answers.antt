use Rattle.std.proofs.Common.{◌∙◌, refl, sym, subst, take, arith}
use Rattle.std.specs.Prelude.{IsPermutation, filter, filter_map}
use Rattle.std.proofs.lemmas.List.{take_all}
use Rattle.rule_ancestry.specs.Holding.{is_outside}
use Rattle.rule_ancestry.proofs.Lists.{outside-more, outside-none}
use Rattle.hop_rules.proofs.listing.hide.Goals as goal

pub loop-id-init : goal.loop-id-init
loop-id-init c = record {
  items = λ shown numbered rules h. subst (λ z. IsPermutation c.args.index.now.items (filter_map shown z))
      (sym (outside-none rules)) h;
  room = refl;
}

pub loop-id-preserved : goal.loop-id-preserved
loop-id-preserved c = record {
  items = λ shown numbered rules h.
      subst (λ z. IsPermutation c.hide_one.new.index.items (filter_map shown z))
      (outside-more c.args.ids.now c.loop-id.id-index _ rules c.loop-id-test.true)
      (c.hide_one.ensures.items shown numbered (filter (is_outside (take c.loop-id.id-index c.args.ids.now)) rules)
      (c.loop-id.invariant.items shown numbered rules h));
  room = c.hide_one.ensures.room ∙ c.loop-id.invariant.room;
}

pub returns-clause-items : goal.returns-clause-items
returns-clause-items c shown numbered rules h =
    subst (λ ids. IsPermutation c.loop-id.index.items (filter_map shown (filter (is_outside ids) rules)))
    (take_all c.loop-id.id-index c.args.ids.now (omega (arith, c.loop-id-test.false)))
    (c.loop-id.invariant.items shown numbered rules h)
