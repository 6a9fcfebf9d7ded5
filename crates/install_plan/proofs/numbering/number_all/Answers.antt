use Rattle.std.proofs.Common.{sym, subst, ◌∙◌}
use Rattle.install_plan.proofs.Progress.{IsNumbered, alike-numbered, next-saved, next-there, numbered-first}
use Rattle.install_plan.proofs.Progress.{numbered-last, numbered-more}
use Rattle.install_plan.specs.InsideSlots.{Slots}
use Rattle.install_plan.specs.declared.written.Batch.{Batch}
use Rattle.install_plan.proofs.numbering.number_all.Goals as goal

pub loop-key-init : goal.loop-key-init
loop-key-init c =
    let rest = c.into_iter-key-iterator.ensures.into_iter_gives ∙ c.iter-key-items.ensures.rest in
    let b : Batch = record { deletes = c.new.result; adds = c.new-2.result } in
    subst (λ (z : Slots). IsNumbered c.args.slots.now.entries c.args.saved.now.entries c.args.next z
    c.args.slots.now.entries b c.args.next) (sym rest)
    (numbered-first c.args.slots.now.entries c.args.saved.now.entries c.args.next b c.requires c.new.ensures
    c.new-2.ensures)

pub number_at-requires : goal.number_at-requires
number_at-requires c =
    let n =
    subst (λ (z : Slots). IsNumbered c.args.slots.now.entries c.args.saved.now.entries c.args.next z
    c.loop-key.slots.entries c.loop-key.batch c.loop-key.cookie) c.in-Some.ensures.steps c.loop-key.invariant in
    next-there c.args.slots.now.entries c.args.saved.now.entries c.next.new.self c.loop-key.slots.entries c.args.next
    c.loop-key.cookie c.loop-key.batch c.in-Some.key.now c.in-Some.old.now n

pub returns-in_err-cookie-clause-kept : goal.returns-in_err-cookie-clause-kept
returns-in_err-cookie-clause-kept c =
    let n =
    subst (λ (z : Slots). IsNumbered c.args.slots.now.entries c.args.saved.now.entries c.args.next z
    c.loop-key.slots.entries c.loop-key.batch c.loop-key.cookie) c.in-Some.ensures.steps c.loop-key.invariant in
    let t = next-there c.args.slots.now.entries c.args.saved.now.entries c.next.new.self c.loop-key.slots.entries
    c.args.next c.loop-key.cookie c.loop-key.batch c.in-Some.key.now c.in-Some.old.now n in
    let u = next-saved c.args.slots.now.entries c.args.saved.now.entries c.next.new.self c.loop-key.slots.entries
    c.args.next c.loop-key.cookie c.loop-key.batch c.in-Some.key.now c.in-Some.old.now n in
    (alike-numbered c.args.slots.now.entries c.args.saved.now.entries c.loop-key.slots.entries
    c.number_at.new.slots.entries c.in-Some.key.now t u c.number_at.ensures.entries n.alike).kept

pub returns-in_err-cookie-clause-only : goal.returns-in_err-cookie-clause-only
returns-in_err-cookie-clause-only c =
    let n =
    subst (λ (z : Slots). IsNumbered c.args.slots.now.entries c.args.saved.now.entries c.args.next z
    c.loop-key.slots.entries c.loop-key.batch c.loop-key.cookie) c.in-Some.ensures.steps c.loop-key.invariant in
    let t = next-there c.args.slots.now.entries c.args.saved.now.entries c.next.new.self c.loop-key.slots.entries
    c.args.next c.loop-key.cookie c.loop-key.batch c.in-Some.key.now c.in-Some.old.now n in
    let u = next-saved c.args.slots.now.entries c.args.saved.now.entries c.next.new.self c.loop-key.slots.entries
    c.args.next c.loop-key.cookie c.loop-key.batch c.in-Some.key.now c.in-Some.old.now n in
    (alike-numbered c.args.slots.now.entries c.args.saved.now.entries c.loop-key.slots.entries
    c.number_at.new.slots.entries c.in-Some.key.now t u c.number_at.ensures.entries n.alike).only

pub returns-in_err-cookie-clause-entries : goal.returns-in_err-cookie-clause-entries
returns-in_err-cookie-clause-entries c =
    let n =
    subst (λ (z : Slots). IsNumbered c.args.slots.now.entries c.args.saved.now.entries c.args.next z
    c.loop-key.slots.entries c.loop-key.batch c.loop-key.cookie) c.in-Some.ensures.steps c.loop-key.invariant in
    let t = next-there c.args.slots.now.entries c.args.saved.now.entries c.next.new.self c.loop-key.slots.entries
    c.args.next c.loop-key.cookie c.loop-key.batch c.in-Some.key.now c.in-Some.old.now n in
    let u = next-saved c.args.slots.now.entries c.args.saved.now.entries c.next.new.self c.loop-key.slots.entries
    c.args.next c.loop-key.cookie c.loop-key.batch c.in-Some.key.now c.in-Some.old.now n in
    (alike-numbered c.args.slots.now.entries c.args.saved.now.entries c.loop-key.slots.entries
    c.number_at.new.slots.entries c.in-Some.key.now t u c.number_at.ensures.entries n.alike).entries

pub returns-in_err-cookie-clause-before : goal.returns-in_err-cookie-clause-before
returns-in_err-cookie-clause-before c =
    let n =
    subst (λ (z : Slots). IsNumbered c.args.slots.now.entries c.args.saved.now.entries c.args.next z
    c.loop-key.slots.entries c.loop-key.batch c.loop-key.cookie) c.in-Some.ensures.steps c.loop-key.invariant in
    let t = next-there c.args.slots.now.entries c.args.saved.now.entries c.next.new.self c.loop-key.slots.entries
    c.args.next c.loop-key.cookie c.loop-key.batch c.in-Some.key.now c.in-Some.old.now n in
    let u = next-saved c.args.slots.now.entries c.args.saved.now.entries c.next.new.self c.loop-key.slots.entries
    c.args.next c.loop-key.cookie c.loop-key.batch c.in-Some.key.now c.in-Some.old.now n in
    (alike-numbered c.args.slots.now.entries c.args.saved.now.entries c.loop-key.slots.entries
    c.number_at.new.slots.entries c.in-Some.key.now t u c.number_at.ensures.entries n.alike).before

pub loop-key-preserved : goal.loop-key-preserved
loop-key-preserved c =
    let n =
    subst (λ (z : Slots). IsNumbered c.args.slots.now.entries c.args.saved.now.entries c.args.next z
    c.loop-key.slots.entries c.loop-key.batch c.loop-key.cookie) c.in-Some.ensures.steps c.loop-key.invariant in
    numbered-more c.args.slots.now.entries c.args.saved.now.entries c.next.new.self c.loop-key.slots.entries
    c.number_at.new.slots.entries c.args.next c.loop-key.cookie c.in_ok-cookie.cookie c.loop-key.batch
    c.number_at.new.batch c.in-Some.key.now c.in-Some.old.now c.in_ok-cookie.ensures.deletes
    c.in_ok-cookie.ensures.adds c.in_ok-cookie.ensures.next c.in_ok-cookie.ensures.slot n

pub returns-clause-batch : goal.returns-clause-batch
returns-clause-batch c =
    let n =
    subst (λ (z : Slots). IsNumbered c.args.slots.now.entries c.args.saved.now.entries c.args.next z
    c.loop-key.slots.entries c.loop-key.batch c.loop-key.cookie) c.in-None.ensures.steps.0 c.loop-key.invariant in
    numbered-last c.args.slots.now.entries c.args.saved.now.entries c.loop-key.slots.entries c.args.next
    c.loop-key.cookie c.loop-key.batch n
