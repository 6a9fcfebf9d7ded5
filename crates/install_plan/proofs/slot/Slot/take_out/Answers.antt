use Rattle.std.proofs.Common.{◌≡◌, true, false, List, refl, sym, ap, subst, ◌∙◌, true≢false}
use Rattle.std.specs.Option.{option_map_or}
use Rattle.switch_meaning.specs.Same.{same_entry}
use Rattle.switch_meaning.specs.declared.entry.PhysEntry.{PhysEntry}
use Rattle.switch_meaning.proofs.Alike.{entry_decides}
use Rattle.install_plan.specs.Tables.{Adds}
use Rattle.install_plan.proofs.Ancestries.{fits-removed, stands-there}
use Rattle.install_plan.proofs.slot.Slot.take_out.Goals as goal

pub returns-then-is_at-clause-taken : goal.returns-then-is_at-clause-taken
returns-then-is_at-clause-taken c = λ there.
    let e = c.args.entry.now in
    let s = stands-there c.args.self.now.entries _ c.place_of-place.result e c.as_slice.ensures c.requires.rising there
    c.place_of-place.ensures.before c.place_of-place.ensures.after in
    subst (λ (xs : List PhysEntry). Adds e xs c.args.self.now.entries) (sym c.remove.ensures.items) s.taken

pub returns-then-is_at-clause-fits : goal.returns-then-is_at-clause-fits
returns-then-is_at-clause-fits c = fits-removed _ c.args.self.now c.place_of-place.result c.args.self.now.cookie _
    c.requires c.remove.ensures.items

pub returns-else-is_at-clause-taken : goal.returns-else-is_at-clause-taken
returns-else-is_at-clause-taken c = λ there.
    let e = c.args.entry.now in
    let s = stands-there c.args.self.now.entries _ c.place_of-place.result e c.as_slice.ensures c.requires.rising there
    c.place_of-place.ensures.before c.place_of-place.ensures.after in
    let yes : c.is_at.result ≡ true = c.is_at.ensures
    ∙ (ap (λ o. option_map_or (λ (d : PhysEntry). same_entry d e) o false) s.at ∙ (entry_decides e e).1 refl) in
    absurd (true≢false (sym yes ∙ c.if-is_at.false))
