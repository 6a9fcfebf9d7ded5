use Rattle.std.proofs.Common.{ap, subst, cond, ◌∙◌}
use Rattle.std.specs.Prelude.{Some, IsSome}
use Rattle.install_plan.specs.InsideSlots.{slot_at}
use Rattle.install_plan.specs.declared.slot.Slot.{Slot}
use Rattle.install_plan.proofs.Writing.{nothing, open-before, open-kept, open-now}
use Rattle.install_plan.proofs.slots.open.Goals as goal

pub returns-in_ok-insert-clause-kept : goal.returns-in_ok-insert-clause-kept
returns-in_ok-insert-clause-kept c = λ saved kept.
    let none = nothing (slot_at c.args.key.now c.args.slots.now.entries) c.contains_key.result c.contains_key.ensures
    c.if-not-contains_key.true in
    open-kept c.args.key.now c.new.result c.args.slots.now.entries c.insert.new.self.entries
    c.in_ok-insert.ensures.entries (ap (λ (s : Slot). s.entries) c.new.ensures) none saved c.insert.ensures.ordered
    kept

pub returns-in_ok-insert-clause-now : goal.returns-in_ok-insert-clause-now
returns-in_ok-insert-clause-now c =
    let none = nothing (slot_at c.args.key.now c.args.slots.now.entries) c.contains_key.result c.contains_key.ensures
    c.if-not-contains_key.true in
    open-now c.args.key.now c.new.result c.args.slots.now.entries c.insert.new.self.entries
    c.in_ok-insert.ensures.entries (ap (λ (s : Slot). s.entries) c.new.ensures) none

pub returns-in_ok-insert-clause-before : goal.returns-in_ok-insert-clause-before
returns-in_ok-insert-clause-before c = λ saved kept.
    let none = nothing (slot_at c.args.key.now c.args.slots.now.entries) c.contains_key.result c.contains_key.ensures
    c.if-not-contains_key.true in
    open-before c.args.key.now c.new.result c.args.slots.now.entries c.insert.new.self.entries
    c.in_ok-insert.ensures.entries (ap (λ (s : Slot). s.entries) c.new.ensures) none saved kept

pub returns-in_ok-insert-clause-only : goal.returns-in_ok-insert-clause-only
returns-in_ok-insert-clause-only c =
    λ q f t. subst IsSome (c.in_ok-insert.ensures.updates.0 q
    ∙ ap (λ b. cond b (Some c.new.result) (slot_at q c.args.slots.now.entries)) f) t
