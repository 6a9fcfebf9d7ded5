use Rattle.std.proofs.Common.{rules, ◌≡◌, ◌∷◌, [], ap, arith, length, subst, sym, ◌∙◌}
use Rattle.std.specs.Vec.Iter.{into_iter_items}
use Rattle.made_rules.specs.Changing.{AreWide}
use Rattle.made_rules.proofs.Widening.{Widening, nothing-left, widening-all, widening-more, widening-none, widening-old}
use Rattle.made_rules.proofs.Widening.{widening-undone, widening-wide}
use Rattle.made_rules.proofs.stay.widen.Goals as goal

pub loop-one-init : goal.loop-one-init
loop-one-init c = record {
  widening = λ rest wases same p. subst
      (λ z. Widening rest wases c.args.both.items z c.args.store.now c.in_ok-stays.stays.items)
      (sym c.into_iter-one-iterator.ensures.into_iter_gives.0)
      (widening-none rest wases c.args.both.items c.args.store.now c.in_ok-stays.stays.items same p
      c.in_ok-stays.ensures.items);
  count = search rules;
}

pub widen_noted-requires : goal.widen_noted-requires
widen_noted-requires c =
    let at = c.loop-one in
    let r = c.requires in
    let steps : into_iter_items at.one-iterator ≡ c.in-Some.one ∷ into_iter_items c.next.new.self =
    c.in-Some.ensures.steps.0 in
    widening-old r.rest r.was c.args.both.items (into_iter_items c.next.new.self) c.in-Some.one at.store at.stays.items
    (subst (λ z. Widening r.rest r.was c.args.both.items z at.store at.stays.items) steps
    (at.invariant.widening r.rest r.was r.same r.all))

pub loop-one-preserved : goal.loop-one-preserved
loop-one-preserved c =
    let at = c.loop-one in
    let steps : into_iter_items at.one-iterator ≡ c.in-Some.one ∷ into_iter_items c.next.new.self =
    c.in-Some.ensures.steps.0 in
    record {
      widening = λ rest wases same p. widening-more rest wases c.args.both.items (into_iter_items c.next.new.self)
          c.in-Some.one at.store c.widen_noted.new.store at.stays.items c.widen_noted.new.stays.items
          (subst (λ z. Widening rest wases c.args.both.items z at.store at.stays.items) steps
          (at.invariant.widening rest wases same p)) c.in_default.ensures.noted;
      count = let was = at.invariant.count in let gone = c.in-Some.ensures.steps.1 in let short = ap length steps in
          omega arith;
    }

pub narrow-requires : goal.narrow-requires
narrow-requires c =
    let at = c.loop-one in
    let r = c.requires in
    let w = at.invariant.widening r.rest r.was r.same r.all in
    subst (λ z. AreWide z c.widen_noted.new.stays.items) (sym c.in-Err.ensures.memory)
    (subst (λ z. AreWide at.store z) (sym c.in-Err.ensures.unnoted)
    (widening-wide r.rest r.was c.args.both.items (into_iter_items at.one-iterator) at.store at.stays.items w))

pub returns-in-Err-clause-memory : goal.returns-in-Err-clause-memory
returns-in-Err-clause-memory c =
    let at = c.loop-one in
    let r = c.requires in
    let left = into_iter_items at.one-iterator in
    let w = at.invariant.widening r.rest r.was r.same r.all in
    widening-undone c.args.store.now c.widen_noted.new.store c.narrow.new.store r.rest r.was c.args.both.items left
    c.widen_noted.new.stays.items c.len-count.ensures.rising c.len-rest.ensures.rising r.all
    (subst (λ z. Widening r.rest r.was c.args.both.items left z c.widen_noted.new.stays.items)
    (sym c.in-Err.ensures.memory)
    (subst (λ z. Widening r.rest r.was c.args.both.items left at.store z) (sym c.in-Err.ensures.unnoted) w))
    c.narrow.ensures

pub returns-clause-widened : goal.returns-clause-widened
returns-clause-widened c rest wases same p =
    let at = c.loop-one in
    let none = c.in-None.ensures.steps in
    let empty : into_iter_items at.one-iterator ≡ [] = nothing-left _ (sym at.invariant.count ∙ none.0) in
    widening-all rest wases c.args.both.items (into_iter_items at.one-iterator) at.store at.stays.items empty
    (at.invariant.widening rest wases same p)
