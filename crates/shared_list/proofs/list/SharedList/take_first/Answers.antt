use Rattle.std.proofs.Common.{◌≡◌, ◌∙◌, None, Some, ap, subst, sym}
use Rattle.std.specs.Prelude.{IfOk, OnOk, find, position}
use Rattle.std.specs.Arc.{arc_value}
use Rattle.std.specs.List.{list_any}
use Rattle.std.specs.Set.{remove_key}
use Rattle.shared_list.specs.InsideRuns.{joined}
use Rattle.shared_list.proofs.Places.{looked, looked_none}
use Rattle.shared_list.proofs.Runs.{find_none, remove_none}
use Rattle.shared_list.proofs.list.SharedList.take_first.Goals as goal

pub returns-in-Some-clause-item : goal.returns-in-Some-clause-item
returns-in-Some-clause-item g c =
    let q = g.W.Wanted.wants c.args.wanted.now in
    let at =
    subst (λ rs. position (λ run. list_any q (arc_value run)) rs ≡ Some c.in-Some.place) c.as_slice.ensures
    (sym c.run_with.ensures.place ∙ c.in-Some.is) in
    let first = looked q c.self.inside.runs c.in-Some.place at in
    subst (λ xs. IfOk c.take_from.result (λ item. item ≡ find q xs)) c.self.view_is (c.take_from.ensures.item first)

pub returns-in-Some-clause-left : goal.returns-in-Some-clause-left
returns-in-Some-clause-left g c =
    let q = g.W.Wanted.wants c.args.wanted.now in
    let at =
    subst (λ rs. position (λ run. list_any q (arc_value run)) rs ≡ Some c.in-Some.place) c.as_slice.ensures
    (sym c.run_with.ensures.place ∙ c.in-Some.is) in
    let first = looked q c.self.inside.runs c.in-Some.place at in
    subst (λ xs. OnOk c.take_from.result (joined c.take_from.new.runs ≡ remove_key q xs)) c.self.view_is
    (c.take_from.ensures.left first)

pub returns-in-None-clause-item : goal.returns-in-None-clause-item
returns-in-None-clause-item g c =
    let q = g.W.Wanted.wants c.args.wanted.now in
    let at =
    subst (λ rs. position (λ run. list_any q (arc_value run)) rs ≡ None) c.as_slice.ensures
    (sym c.run_with.ensures.place ∙ c.in-None.is) in
    let none = looked_none q c.self.inside.runs at in
    find_none q c.self.inside.runs none ∙ ap (find q) c.self.view_is

pub returns-in-None-clause-left : goal.returns-in-None-clause-left
returns-in-None-clause-left g c =
    let q = g.W.Wanted.wants c.args.wanted.now in
    let at =
    subst (λ rs. position (λ run. list_any q (arc_value run)) rs ≡ None) c.as_slice.ensures
    (sym c.run_with.ensures.place ∙ c.in-None.is) in
    let none = looked_none q c.self.inside.runs at in
    sym c.self.view_is ∙ (remove_none q c.self.inside.runs none ∙ ap (remove_key q) c.self.view_is)
