use Rattle.std.proofs.Common.{◌≡◌, ◌<◌, ◌≤◌, ◌++◌, arith, length, ap, sym, subst, ◌∙◌, rules}
use Rattle.std.specs.Prelude.{IsPermutation, filter, map}
use Rattle.std.proofs.lemmas.List.{take_all}
use Rattle.std.proofs.lemmas.List.Sorted.{IsPermutation-refl, IsPermutation-trans}
use Rattle.rule_ancestry.specs.Holding.{is_other, is_outside, item_of}
use Rattle.rule_ancestry.specs.Names.{bears}
use Rattle.rule_ancestry.proofs.Lists.{outside-named, outside-none, outside-step}
use Rattle.rule_ancestry.proofs.Slots.{rising-now}
use Rattle.rule_ancestry.proofs.store.Store.take.Goals as goal

pub loop-place-init : goal.loop-place-init
loop-place-init g c = record {
  moved = subst (λ z. IsPermutation (map item_of c.args.self.now) (z ++ map item_of c.args.self.now))
      (sym c.in_ok-gone.ensures.items) (IsPermutation-refl (map item_of c.args.self.now));
  rest = sym (outside-none c.args.self.now);
  len = search rules;
  room = search rules;
}

pub loop-place-preserved : goal.loop-place-preserved
loop-place-preserved g c = record {
  moved = IsPermutation-trans _ _ _ c.loop-place.invariant.moved c.move_out.ensures.moved;
  rest =
      let lt : c.loop-place.place < length c.in_ok-ids.ids.items = let t = c.loop-place-test.true in let l =
      c.len-place-end.ensures in omega arith in
      outside-step c.in_ok-ids.ids.items c.loop-place.place c.index.result.now c.args.self.now c.loop-place.self
      c.move_out.new.self lt c.loop-place.invariant.rest
      (subst (λ i. c.move_out.new.self ≡ filter (is_other i) c.loop-place.self) c.index.ensures
      c.move_out.ensures.rest);
  len = let a = c.loop-place.invariant.len in let b = c.move_out.ensures.len in omega arith;
  room = let a = c.loop-place.invariant.room in let b = c.move_out.ensures.room in omega arith;
}

pub returns-clause-rest : goal.returns-clause-rest
returns-clause-rest g c =
    let past : length c.in_ok-ids.ids.items ≤ c.loop-place.place = let t = c.loop-place-test.false in let l =
    c.len-place-end.ensures in omega arith in
    c.loop-place.invariant.rest
    ∙ ap (λ z. filter (is_outside z) c.args.self.now) (take_all c.loop-place.place c.in_ok-ids.ids.items past)
    ∙ ap (λ z. filter (is_outside z) c.args.self.now) c.in_ok-ids.ensures
    ∙ outside-named (bears g.R.Name.Ord.cmp g.R.Filed.borne c.args.name) c.args.self.now
    (rising-now c.args.self.now c.self.inside.slab.slots c.self.view_is)
