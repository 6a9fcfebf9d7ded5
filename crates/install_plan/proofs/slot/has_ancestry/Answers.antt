use Rattle.std.proofs.Common.{false, ap, ◌∙◌}
use Rattle.std.specs.Option.{option_map_or}
use Rattle.std.specs.Ordering.{is_eq}
use Rattle.cv_io.specs.Leaves.{ancestry_cmp}
use Rattle.switch_meaning.specs.declared.entry.PhysEntry.{PhysEntry}
use Rattle.install_plan.proofs.slot.has_ancestry.Goals as goal

pub returns-in-Some : goal.returns-in-Some
returns-in-Some c =
    let compared = c.cmp.ensures ∙ (λ i. ancestry_cmp (c.as_slice.ensures i) (c.as_slice-in-Some.ensures i)) in
    c.is_eq.ensures
    ∙ (ap is_eq compared
    ∙ ap (λ o. option_map_or (λ (d : PhysEntry). is_eq (ancestry_cmp d.ancestry c.args.ancestry.now)) o false)
    c.in-Some.ensures.value)
