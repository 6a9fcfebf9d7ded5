use Rattle.std.proofs.Common.{rules, ◌≡◌, sym, ap, subst, ◌∙◌}
use Rattle.std.specs.Prelude.{IfSome, Option, is_ok}
use Rattle.std.specs.BTreeMap.{is_at}
use Rattle.std.specs.Map.{set_value}
use Rattle.install_plan.specs.InsideSlots.{Fits, IsPutInto, order}
use Rattle.install_plan.specs.declared.key.Key.{Key}
use Rattle.install_plan.specs.declared.slot.Slot.{Slot}
use Rattle.install_plan.proofs.Taking.{ok-holds}
use Rattle.install_plan.proofs.Writing.{fit-of}
use Rattle.install_plan.proofs.slots.put_into.Goals as goal

pub put_in-requires-clause-fits : goal.put_in-requires-clause-fits
put_in-requires-clause-fits c = subst (λ (z : Key). Fits (z, c.in-Some.slot.now)) c.requires.key
    (fit-of c.args.key.now c.in-Some.slot.now c.args.slots.now.entries c.requires.fit (sym c.in-Some.ensures.value))

pub returns-in-Some : goal.returns-in-Some
returns-in-Some c =
    let new = (c.get_mut.follows.lender c.put_in.new.self).entries in
    let w : new ≡ set_value (is_at (order c.args.key.now)) c.args.slots.now.entries c.put_in.new.self = search rules in
    let put : IsPutInto (is_ok c.put_in.result) c.args.entry c.args.slots.now.entries new c.in-Some.slot.now = record {
      slot = c.put_in.new.self;
      written = w ∙ ap (λ (z : Key). set_value (is_at (order z)) c.args.slots.now.entries c.put_in.new.self)
          c.requires.key;
      fits = c.put_in.ensures.fits;
      added = λ ok apart. ok-holds c.put_in.result ok (c.put_in.ensures.added apart);
    } in
    subst (λ (o : Option Slot). IfSome o (IsPutInto (is_ok c.put_in.result) c.args.entry c.args.slots.now.entries new))
    c.in-Some.ensures.value put
