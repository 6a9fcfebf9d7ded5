use Rattle.std.proofs.Common.{rules, ◌≡◌, sym, ap, subst, ◌∙◌}
use Rattle.std.specs.Prelude.{Option, MatchOption}
use Rattle.std.specs.BTreeMap.{is_at}
use Rattle.std.specs.Map.{set_value}
use Rattle.install_plan.specs.InsideSlots.{Fits, IsTakenFrom, order}
use Rattle.install_plan.specs.declared.key.Key.{Key}
use Rattle.install_plan.specs.declared.slot.Slot.{Slot}
use Rattle.install_plan.proofs.Writing.{fit-of}
use Rattle.install_plan.proofs.slots.take_from.Goals as goal

pub take_out-requires : goal.take_out-requires
take_out-requires c = subst (λ (z : Key). Fits (z, c.in-Some.slot.now)) c.requires.key
    (fit-of c.args.key.now c.in-Some.slot.now c.args.slots.now.entries c.requires.fit (sym c.in-Some.ensures.value))

pub returns-in-Some : goal.returns-in-Some
returns-in-Some c =
    let new = (c.get_mut.follows.lender c.take_out.new.self).entries in
    let w : new ≡ set_value (is_at (order c.args.key.now)) c.args.slots.now.entries c.take_out.new.self =
    search rules in
    let taken : IsTakenFrom c.args.entry.now c.args.slots.now.entries new c.in-Some.slot.now = record {
      slot = c.take_out.new.self;
      written = w ∙ ap (λ (z : Key). set_value (is_at (order z)) c.args.slots.now.entries c.take_out.new.self)
          c.requires.key;
      fits = c.take_out.ensures.fits;
      taken = c.take_out.ensures.taken;
    } in
    subst (λ (o : Option Slot). MatchOption o (new ≡ c.args.slots.now.entries)
    (IsTakenFrom c.args.entry.now c.args.slots.now.entries new)) c.in-Some.ensures.value taken
