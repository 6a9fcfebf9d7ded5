use Rattle.std.proofs.Common.{◌++◌, List, subst, subst₂}
use Rattle.std.specs.Map.{values_of}
use Rattle.match_index.specs.InsideGroups.{GroupOf, in_groups}
use Rattle.match_index.specs.Items.{IndexOf, IsTop}
use Rattle.match_index.specs.Questions.{asks}
use Rattle.match_index.specs.declared.item.Item.{Item}
use Rattle.match_index.proofs.Tops.{top_same}
use Rattle.match_index.proofs.index.Index.top.Goals as goal

pub returns : goal.returns
returns c =
    let p = asks c.args.question.now in
    let late = c.self.inside.late.items in
    let groups = c.self.inside.groups.items in
    let P : List Item → List GroupOf → Type 0 = λ l g. IsTop p (l ++ in_groups g) c.top_of.result in
    let Q : IndexOf → Type 0 = λ i. IsTop p i.items c.top_of.result in
    subst Q c.self.view_is
    (top_same p (values_of c.self.inside.held.entries) (late ++ in_groups groups) c.top_of.result
    c.self.invariant.0.same (subst₂ P c.deref.ensures.value c.deref-2.ensures.value c.top_of.ensures))
