use Rattle.std.proofs.Common.{◌≡◌, List, sym, ◌∙◌, true≢false}
use Rattle.std.specs.List.{insert}
use Rattle.match_index.proofs.Lists.{either_then}
use Rattle.switch_meaning.specs.declared.entry.PhysEntry.{PhysEntry}
use Rattle.install_plan.specs.InsideSlots.{Fits, key_of}
use Rattle.install_plan.proofs.Ancestries.{fits-inserted, fits-same, fits-set, not-apart}
use Rattle.install_plan.proofs.slot.Slot.put_in.Goals as goal

pub returns-then-has_ancestry-clause-added : goal.returns-then-has_ancestry-clause-added
returns-then-has_ancestry-clause-added c = λ apart.
    let any = not-apart c.args.self.now.entries c.place_of-place.result c.args.entry
    (sym c.has_ancestry.ensures ∙ c.if-has_ancestry.true) in
    absurd (true≢false (sym any ∙ apart))

pub returns-then-has_ancestry-clause-fits : goal.returns-then-has_ancestry-clause-fits
returns-then-has_ancestry-clause-fits c =
    fits-set c.args.entry c.args.self.now c.place_of-place.result c.args.self.now.cookie _ c.requires.fits
    c.requires.in_range (sym c.has_ancestry.ensures ∙ c.if-has_ancestry.true) c.set.ensures

pub returns-clause-fits : goal.returns-clause-fits
returns-clause-fits c =
    let Fit : List PhysEntry
    → Type 0 = λ es. Fits (key_of c.args.entry, record { entries = es; cookie = c.args.self.now.cookie }) in
    either_then (c.insert.new.self ≡ insert c.args.self.now.entries c.place_of-place.result c.args.entry)
    (c.insert.new.self ≡ c.args.self.now.entries) (Fit c.insert.new.self) c.insert.result
    (λ e. fits-inserted c.args.entry c.args.self.now c.place_of-place.result c.args.self.now.cookie _ _
    c.as_slice.ensures c.requires.fits c.requires.in_range c.place_of-place.ensures.before
    c.place_of-place.ensures.after (sym c.has_ancestry.ensures ∙ c.if-has_ancestry.false) e)
    (λ e. fits-same _ c.args.self.now c.args.self.now.cookie _ c.requires.fits e) c.insert.ensures.inserted
    c.insert.ensures.memory
