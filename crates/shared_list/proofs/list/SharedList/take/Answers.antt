use Rattle.std.proofs.Common.{◌≡◌, ◌∙◌, ap, subst, sym}
use Rattle.std.specs.Prelude.{IfOk, OnOk, find}
use Rattle.std.specs.Set.{remove_key}
use Rattle.shared_list.specs.Behind.{StandBehind}
use Rattle.shared_list.specs.InsideRuns.{HaveItems, IsFirstRun, joined}
use Rattle.shared_list.proofs.Runs.{find_none, remove_none}
use Rattle.shared_list.proofs.list.SharedList.take.Goals as goal

pub returns-in-Some-clause-item : goal.returns-in-Some-clause-item
returns-in-Some-clause-item g c behind =
    let q = g.W.Wanted.wants c.args.wanted.now in
    let runs = c.self.inside.runs in
    let found =
    subst (λ rs. HaveItems rs → StandBehind q (joined rs) → IsFirstRun q rs c.run_with_first.result) c.as_slice.ensures
    c.run_with_first.ensures.place c.self.invariant (subst (StandBehind q) (sym c.self.view_is) behind) in
    let first = subst (IsFirstRun q runs) c.in-Some.is found in
    subst (λ xs. IfOk c.take_from.result (λ item. item ≡ find q xs)) c.self.view_is (c.take_from.ensures.item first)

pub returns-in-Some-clause-left : goal.returns-in-Some-clause-left
returns-in-Some-clause-left g c behind =
    let q = g.W.Wanted.wants c.args.wanted.now in
    let runs = c.self.inside.runs in
    let found =
    subst (λ rs. HaveItems rs → StandBehind q (joined rs) → IsFirstRun q rs c.run_with_first.result) c.as_slice.ensures
    c.run_with_first.ensures.place c.self.invariant (subst (StandBehind q) (sym c.self.view_is) behind) in
    let first = subst (IsFirstRun q runs) c.in-Some.is found in
    subst (λ xs. OnOk c.take_from.result (joined c.take_from.new.runs ≡ remove_key q xs)) c.self.view_is
    (c.take_from.ensures.left first)

pub returns-in-None-clause-item : goal.returns-in-None-clause-item
returns-in-None-clause-item g c behind =
    let q = g.W.Wanted.wants c.args.wanted.now in
    let runs = c.self.inside.runs in
    let found =
    subst (λ rs. HaveItems rs → StandBehind q (joined rs) → IsFirstRun q rs c.run_with_first.result) c.as_slice.ensures
    c.run_with_first.ensures.place c.self.invariant (subst (StandBehind q) (sym c.self.view_is) behind) in
    let none = subst (IsFirstRun q runs) c.in-None.is found in
    find_none q c.self.inside.runs none ∙ ap (find q) c.self.view_is

pub returns-in-None-clause-left : goal.returns-in-None-clause-left
returns-in-None-clause-left g c behind =
    let q = g.W.Wanted.wants c.args.wanted.now in
    let runs = c.self.inside.runs in
    let found =
    subst (λ rs. HaveItems rs → StandBehind q (joined rs) → IsFirstRun q rs c.run_with_first.result) c.as_slice.ensures
    c.run_with_first.ensures.place c.self.invariant (subst (StandBehind q) (sym c.self.view_is) behind) in
    let none = subst (IsFirstRun q runs) c.in-None.is found in
    sym c.self.view_is ∙ (remove_none q c.self.inside.runs none ∙ ap (remove_key q) c.self.view_is)
