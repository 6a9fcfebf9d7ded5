use Rattle.std.proofs.Common.{◌≡◌, ◌∙◌, ◌-◌, Some, length, subst, sym}
use Rattle.std.specs.Prelude.{slice_get}
use Rattle.shared_list.proofs.Places.{ends_last}
use Rattle.shared_list.proofs.searching.ends.Goals as goal

pub returns-in-Some : goal.returns-in-Some
returns-in-Some g c =
    c.wants.ensures
    ∙ ends_last (g.W.Wanted.wants c.args.wanted.now) c.args.items.now c.in-Some.item.now
    (subst (λ xs. slice_get xs (length xs - 1) ≡ Some c.in-Some.item.now) c.as_slice.ensures
    (sym c.in-Some.ensures.value))
