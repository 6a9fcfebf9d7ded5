use Rattle.std.proofs.Common.{◌≡◌, ◌∙◌, ◌++◌, List, ℕ, sym, ap, ap₂, subst, subst₂}
use Rattle.std.specs.Prelude.{IsPermutation}
use Rattle.std.specs.Map.{values_of}
use Rattle.std.proofs.lemmas.List.Sorted.{IsPermutation-trans}
use Rattle.match_index.specs.InsideGroups.{in_groups}
use Rattle.match_index.specs.Items.{ids_of}
use Rattle.match_index.specs.Questions.{asks}
use Rattle.match_index.proofs.Rising.{ids_same}
use Rattle.match_index.proofs.index.Index.listed.Goals as goal

pub returns-clause-ids : goal.returns-clause-ids
returns-clause-ids c =
    let p = asks c.args.question.now in
    let late = c.self.inside.late.items in
    let groups = c.self.inside.groups.items in
    let held = values_of c.self.inside.held.entries in
    let asked : c.list_of.new.ids.items ≡ ids_of p (late ++ in_groups groups) =
    c.in_ok-list_of.ensures ∙ ap₂ (λ s l. s ++ ids_of p l) c.new-ids.ensures.items
    (ap₂ (λ l g. l ++ in_groups g) c.deref.ensures.value c.deref-2.ensures.value) in
    let From : List ℕ → Type 0 = λ ns. IsPermutation ns c.sort.new.self.items in
    let Both : List ℕ → List ℕ → Type 0 = λ ns ms. IsPermutation ns ms in
    subst₂ Both (ap (λ i. ids_of p i.items) c.self.view_is) (sym c.from_vec.ensures)
    (IsPermutation-trans (ids_of p held) (ids_of p (late ++ in_groups groups)) c.sort.new.self.items
    (ids_same p held (late ++ in_groups groups) c.self.invariant.0.same)
    (subst From asked c.in_ok-sort.ensures.permutation))
