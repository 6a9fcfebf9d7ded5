use Rattle.std.proofs.Common.{◌≡◌, ◌++◌, [], length, ap, sym, subst, ◌∙◌}
use Rattle.std.specs.Prelude.{IsPermutation, filter}
use Rattle.std.proofs.lemmas.List.Sorted.{IsPermutation-refl}
use Rattle.rule_ancestry.specs.Holding.{held_as, is_outside}
use Rattle.rule_ancestry.proofs.Lists.{adds-held, adds-others, count-last, outside-none}
use Rattle.rule_ancestry.proofs.store.Store.add_all.Goals as goal

pub loop-item-init : goal.loop-item-init
loop-item-init g c = record {
  added = subst (λ z. IsPermutation (held_as z [] ++ c.args.self.now) c.args.self.now) (sym c.in_ok-ids.ensures.items)
      (IsPermutation-refl c.args.self.now);
  count = ap length c.in_ok-ids.ensures.items;
  others = ap (λ z. filter (is_outside z) c.args.self.now) c.in_ok-ids.ensures.items ∙ outside-none c.args.self.now;
}

pub loop-item-preserved : goal.loop-item-preserved
loop-item-preserved g c =
    let a = c.in_default.ensures.added in
    let i = c.loop-item.invariant in
    record {
      added = adds-held c.args.self.now c.loop-item.self c.add_noted.new.self c.loop-item.ids.items
          c.add_noted.new.ids.items c.loop-item.yielded c.in-Some.item i.count i.added a;
      count = count-last c.loop-item.ids.items c.add_noted.new.ids.items c.loop-item.yielded a.id c.in-Some.item a.noted
          i.count;
      others = adds-others c.args.self.now c.loop-item.self c.add_noted.new.self c.loop-item.ids.items
          c.add_noted.new.ids.items c.in-Some.item i.others a;
    }
