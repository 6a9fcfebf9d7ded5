use Rattle.std.proofs.Common.{◌≡◌, Option, sym, ap, subst, ◌∙◌, take_all}
use Rattle.std.specs.Option.{option_copied}
use Rattle.of10_match.specs.Matching.{holds}
use Rattle.switch_meaning.specs.Choosing.{chosen_entry, height_of}
use Rattle.switch_meaning.specs.InsideChoosing.{after}
use Rattle.switch_meaning.specs.MayUse.{MayUse}
use Rattle.switch_meaning.specs.declared.entry.FlowEntry.{FlowEntry}
use Rattle.switch_meaning.proofs.Highest.{highest-may, highest-more}
use Rattle.switch_meaning.proofs.choosing.usable.Goals as goal

pub loop-entry-preserved : goal.loop-entry-preserved
loop-entry-preserved c =
    highest-more (λ (e : FlowEntry). holds e.m c.args.header.now) (height_of c.args.reading)
    c.as_slice-entry-items.result.now c.loop-entry.entry-index c.entry-item.result
    (option_copied c.loop-entry.best) _ c.loop-entry-test.true c.entry-item.is c.loop-entry.invariant
    c.better-best.ensures

pub returns-clause-may_use : goal.returns-clause-may_use
returns-clause-may_use c =
    let table = c.args.table.now in
    let h = c.args.header.now in
    let value : option_copied c.loop-entry.best ≡ chosen_entry c.args.reading table h =
    c.loop-entry.invariant ∙ ap (λ es. chosen_entry c.args.reading es h)
    (take_all c.loop-entry.entry-index c.as_slice-entry-items.result.now c.loop-entry-test.false
    ∙ c.as_slice-entry-items.ensures) in
    subst (λ (o : Option FlowEntry). MayUse table h o) (sym value) (highest-may c.args.reading table h)
