use Rattle.std.proofs.Common.{◌<◌, cond, take, ◌≡◌, ◌∙◌, ap, map, length, sym, arith, inr, not, Some, true, false, Bool}
use Rattle.std.proofs.Common.{refl}
use Rattle.std.proofs.lemmas.List.{take_all}
use Rattle.std.specs.List.{list_any}
use Rattle.std.specs.HashSet.{contains}
use Rattle.std.specs.Option.{option_map}
use Rattle.virtual_topology.specs.declared.fault.TopologyFault.TheVariants.{PortTwice}
use Rattle.virtual_topology.specs.Faults.{place_text}
use Rattle.virtual_topology.specs.Places.{PlaceUse, same_use}
use Rattle.virtual_topology.specs.Shown.{shown}
use Rattle.virtual_topology.proofs.Steps.{derived_is, again_here, again_step, among_step, mapped_at, as_many_mapped}
use Rattle.virtual_topology.proofs.used.set_of.Goals as goal

refused : (b : Bool) → not b ≡ false → b ≡ true
refused true e = refl
refused false e = sym e

taken : (b : Bool) → not b ≡ true → b ≡ false
taken true e = sym e
taken false e = refl

pub returns-then-not-branch-clause-fault : goal.returns-then-not-branch-clause-fault
returns-then-not-branch-clause-fault c =
    let us = map shown c.args.list.now in
    let i = c.loop-place.place-index in
    let u = shown c.place-item.result in
    let lt : i < length us = omega (arith, as_many_mapped shown c.args.list.now, c.loop-place-test.true) in
    let old : list_any (same_use u) (take i us) ≡ true =
    sym (c.loop-place.invariant.0 c.place-item.result)
    ∙ ((λ j. contains (sym derived_is j) c.loop-place.set c.place-item.result)
    ∙ refused _ (sym c.in_ok-insert.ensures.added ∙ c.if-not-branch.true)) in
    inr (ap (option_map (λ (w : PlaceUse). PortTwice (place_text w.place)))
    (sym c.loop-place.invariant.1
    ∙ again_here us i u lt
    (mapped_at shown c.args.list.now i c.place-item.result c.loop-place-test.true c.place-item.is) old)
    ∙ ap (λ t. Some (PortTwice t)) (sym c.in_ok-use_text.ensures))

pub loop-place-preserved : goal.loop-place-preserved
loop-place-preserved c =
    let us = map shown c.args.list.now in
    let i = c.loop-place.place-index in
    let u = shown c.place-item.result in
    let lt : i < length us = omega (arith, as_many_mapped shown c.args.list.now, c.loop-place-test.true) in
    let item = mapped_at shown c.args.list.now i c.place-item.result c.loop-place-test.true c.place-item.is in
    let new : list_any (same_use u) (take i us) ≡ false =
    sym (c.loop-place.invariant.0 c.place-item.result)
    ∙ ((λ j. contains (sym derived_is j) c.loop-place.set c.place-item.result)
    ∙ taken _ (sym c.in_ok-insert.ensures.added ∙ c.if-not-branch.false)) in (
      λ q. among_step us i u (shown q) lt item _ _ (c.loop-place.invariant.0 q)
          ((λ j. contains (sym derived_is j) c.insert.new.self q)
          ∙ (c.in_ok-insert.ensures.updates.0 q
          ∙ (λ j. cond (derived_is j c.place-item.result q) true (contains (derived_is j) c.loop-place.set q)))),
      again_step us i u lt item new ∙ c.loop-place.invariant.1,
    )

pub returns-clause-contains : goal.returns-clause-contains
returns-clause-contains c = λ u.
    c.loop-place.invariant.0 u ∙ ap (list_any (same_use (shown u)))
    (take_all _ (map shown c.args.list.now)
    (omega (arith, as_many_mapped shown c.args.list.now, c.loop-place-test.false)))
