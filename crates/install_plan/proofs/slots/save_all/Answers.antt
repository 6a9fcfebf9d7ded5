use Rattle.std.proofs.Common.{◌≡◌, refl, sym, ap, subst, ◌∙◌, ◌⊎◌, inl, inr, ◌∷◌}
use Rattle.std.specs.Prelude.{IsSome, Some}
use Rattle.std.specs.List.{AllByRecursion}
use Rattle.switch_meaning.proofs.Members.{IsIn, all-in}
use Rattle.install_plan.specs.InsideSlots.{Slots, slot_at}
use Rattle.install_plan.specs.declared.key.Key.{Key}
use Rattle.install_plan.specs.declared.slot.Slot.{Slot}
use Rattle.install_plan.proofs.Keyed.{first-or-later, in-found, no-items}
use Rattle.install_plan.proofs.slots.save_all.Goals as goal

abbrev Listed : Slots → Slots → Type 0
Listed slots rest = AllByRecursion (λ (p : Key × Slot). slot_at p.0 slots ≡ Some p.1) rest

pub loop-key-init : goal.loop-key-init
loop-key-init c =
    let slots = c.args.slots.now.entries in
    let pairs = c.into_iter-key-iterator.ensures.into_iter_gives ∙ c.iter-key-items.ensures.rest in (
      c.requires,
      refl,
      subst (Listed slots) (sym pairs)
          (all-in (λ (p : Key × Slot). slot_at p.0 slots ≡ Some p.1) slots
          (λ p i. in-found p.0 p.1 slots c.requires.rise i)),
      λ p i. inr (subst (IsIn p) (sym pairs) i),
    )

pub loop-key-preserved : goal.loop-key-preserved
loop-key-preserved c = (
  c.save_slot.ensures.kept c.args.slots.now.entries left.0 c.loop-key.invariant.0,
  c.save_slot.ensures.before c.args.slots.now.entries left.0 c.loop-key.invariant.0 ∙ c.loop-key.invariant.1,
  left.1,
  λ p i. by p (c.loop-key.invariant.3 p i),
)
  where
    left : Listed c.args.slots.now.entries ((c.in-Some.key.now, c.in-Some.slot.now) ∷ c.next.new.self)
    left = subst (Listed c.args.slots.now.entries) c.in-Some.ensures.steps c.loop-key.invariant.2

    now : (p : Key × Slot) → (p ≡ (c.in-Some.key.now, c.in-Some.slot.now)) ⊎ IsIn p c.next.new.self
        → IsSome (slot_at p.0 c.save_slot.new.saved.entries) ⊎ IsIn p c.next.new.self
    now p (inl e) =
        inl (subst (λ (z : Key). IsSome (slot_at z c.save_slot.new.saved.entries))
        (sym (ap (λ (q : Key × Slot). q.0) e)) c.in_ok-save_slot.ensures.there)
    now p (inr j) = inr j

    by : (p : Key × Slot) → IsSome (slot_at p.0 c.loop-key.saved.entries) ⊎ IsIn p c.loop-key.key-iterator
        → IsSome (slot_at p.0 c.save_slot.new.saved.entries) ⊎ IsIn p c.next.new.self
    by p (inl t) = inl (c.save_slot.ensures.still p.0 t)
    by p (inr j) = now p (first-or-later (subst (IsIn p) c.in-Some.ensures.steps j))

pub returns-in_err-save_slot-clause-kept : goal.returns-in_err-save_slot-clause-kept
returns-in_err-save_slot-clause-kept c =
    let left = subst (Listed c.args.slots.now.entries) c.in-Some.ensures.steps c.loop-key.invariant.2 in
    c.save_slot.ensures.kept c.args.slots.now.entries left.0 c.loop-key.invariant.0

pub returns-in_err-save_slot-clause-before : goal.returns-in_err-save_slot-clause-before
returns-in_err-save_slot-clause-before c =
    let left = subst (Listed c.args.slots.now.entries) c.in-Some.ensures.steps c.loop-key.invariant.2 in
    c.save_slot.ensures.before c.args.slots.now.entries left.0 c.loop-key.invariant.0 ∙ c.loop-key.invariant.1

pub returns-clause-there : goal.returns-clause-there
returns-clause-there c = all-in (λ (p : Key × Slot). IsSome (slot_at p.0 c.loop-key.saved.entries))
    c.args.slots.now.entries (λ p i. by p (c.loop-key.invariant.3 p i))
  where
    by : (p : Key × Slot) → IsSome (slot_at p.0 c.loop-key.saved.entries) ⊎ IsIn p c.loop-key.key-iterator
        → IsSome (slot_at p.0 c.loop-key.saved.entries)
    by p (inl t) = t
    by p (inr j) = no-items (subst (IsIn p) c.in-None.ensures.steps.0 j)
