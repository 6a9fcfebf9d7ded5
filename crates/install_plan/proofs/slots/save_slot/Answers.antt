use Rattle.std.proofs.Common.{sym, ap, subst, ◌∙◌}
use Rattle.std.specs.Prelude.{Some, IsSome}
use Rattle.install_plan.specs.InsideSlots.{slot_at}
use Rattle.install_plan.proofs.Writing.{nothing, save-before, save-kept, some-cond}
use Rattle.install_plan.proofs.slots.save_slot.Goals as goal

pub returns-in_ok-insert-clause-still : goal.returns-in_ok-insert-clause-still
returns-in_ok-insert-clause-still c = λ q t. subst IsSome (sym (c.in_ok-insert.ensures.updates.0 q))
    (some-cond _ c.in_ok-copy.field-0 (slot_at q c.args.saved.now.entries) t)

pub returns-in_ok-insert-clause-kept : goal.returns-in_ok-insert-clause-kept
returns-in_ok-insert-clause-kept c = λ slots at kept.
    let found = at ∙ ap Some (sym c.in_ok-copy.ensures) in
    let none = nothing (slot_at c.args.key.now c.args.saved.now.entries) c.contains_key.result c.contains_key.ensures
    c.if-not-contains_key.true in
    save-kept c.args.key.now c.in_ok-copy.field-0 slots c.args.saved.now.entries c.insert.new.self.entries found none
    kept c.in_ok-insert.ensures.entries c.insert.ensures.ordered

pub returns-in_ok-insert-clause-before : goal.returns-in_ok-insert-clause-before
returns-in_ok-insert-clause-before c = λ slots at kept.
    let found = at ∙ ap Some (sym c.in_ok-copy.ensures) in
    let none = nothing (slot_at c.args.key.now c.args.saved.now.entries) c.contains_key.result c.contains_key.ensures
    c.if-not-contains_key.true in
    save-before c.args.key.now c.in_ok-copy.field-0 slots c.args.saved.now.entries c.insert.new.self.entries found none
    kept c.in_ok-insert.ensures.updates.0
