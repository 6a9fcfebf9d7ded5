use Rattle.std.proofs.Common.{List, refl, ap, subst, ◌∙◌, map, drop, ◌+◌, arith}
use Rattle.install_plan.specs.InsideNumbering.{numbered_at}
use Rattle.install_plan.specs.Tables.{entry_of}
use Rattle.install_plan.specs.declared.written.Written.{Written}
use Rattle.install_plan.proofs.Cookies.{entries-numbered}
use Rattle.install_plan.proofs.Whole.{IsRenumbered, drop-all, drop-first, key_in, renumbered-first, renumbered-last}
use Rattle.install_plan.proofs.Whole.{renumbered-more, there-now}
use Rattle.install_plan.proofs.numbering.number_whole.Goals as goal

pub loop-written-init : goal.loop-written-init
loop-written-init c =
    let entries = ap (map entry_of) (c.as_slice-written-items.ensures ∙ c.in_ok-adds.ensures)
    ∙ entries-numbered c.args.next _ in
    renumbered-first c.args.slots.now.entries c.save_all.new.saved.entries c.as_slice-written-items.result.now
    c.save_all.ensures.kept c.in_ok-save_all.ensures.there entries

pub give-requires : goal.give-requires
give-requires c =
    let items = c.as_slice-written-items.result.now in
    let v = c.written-item.result in
    let rest = drop (c.loop-written.written-index + 1) items in
    let first = drop-first items c.loop-written.written-index v c.loop-written-test.true c.written-item.is in
    let n =
    subst (λ (xs : List Written). IsRenumbered c.args.slots.now.entries c.save_all.new.saved.entries items xs
    c.loop-written.slots.entries) first c.loop-written.invariant in
    there-now c.args.slots.now.entries c.save_all.new.saved.entries c.loop-written.slots.entries
    (numbered_at (key_in v) v.cookie c.loop-written.slots.entries) items rest v n refl

pub loop-written-preserved : goal.loop-written-preserved
loop-written-preserved c =
    let items = c.as_slice-written-items.result.now in
    let v = c.written-item.result in
    let rest = drop (c.loop-written.written-index + 1) items in
    let first = drop-first items c.loop-written.written-index v c.loop-written-test.true c.written-item.is in
    let n =
    subst (λ (xs : List Written). IsRenumbered c.args.slots.now.entries c.save_all.new.saved.entries items xs
    c.loop-written.slots.entries) first c.loop-written.invariant in
    renumbered-more c.args.slots.now.entries c.save_all.new.saved.entries c.loop-written.slots.entries
    c.give.new.slots.entries items rest v n c.give.ensures

pub returns-clause-standing : goal.returns-clause-standing
returns-clause-standing c =
    let items = c.as_slice-written-items.result.now in
    let none = drop-all items c.loop-written.written-index (omega (arith, c.loop-written-test.false)) in
    let n =
    subst (λ (xs : List Written). IsRenumbered c.args.slots.now.entries c.save_all.new.saved.entries items xs
    c.loop-written.slots.entries) none c.loop-written.invariant in
    renumbered-last c.args.slots.now.entries c.save_all.new.saved.entries c.loop-written.slots.entries items n
    ∙ c.as_slice-written-items.ensures
