use Rattle.std.proofs.Common.{◌≡◌, ◌∙◌, ap, subst, sym}
use Rattle.std.specs.Prelude.{OnOk}
use Rattle.shared_list.specs.Behind.{StandBehind, put_before}
use Rattle.shared_list.specs.InsideRuns.{HaveItems, IsFirstRun, joined}
use Rattle.shared_list.proofs.Runs.{on_ok, put_none}
use Rattle.shared_list.proofs.list.SharedList.put.Goals as goal

pub returns-in-Some-clause-put : goal.returns-in-Some-clause-put
returns-in-Some-clause-put g c behind =
    let q = g.W.Wanted.wants c.args.wanted.now in
    let runs = c.self.inside.runs in
    let found =
    subst (λ rs. HaveItems rs → StandBehind q (joined rs) → IsFirstRun q rs c.run_with_first.result) c.as_slice.ensures
    c.run_with_first.ensures.place c.self.invariant (subst (StandBehind q) (sym c.self.view_is) behind) in
    let first = subst (IsFirstRun q runs) c.in-Some.is found in
    subst (λ xs. OnOk c.put.result (joined c.put.new.runs ≡ put_before q c.args.item xs)) c.self.view_is
    (c.put.ensures.put first)

pub returns-in-None-clause-put : goal.returns-in-None-clause-put
returns-in-None-clause-put g c behind =
    let q = g.W.Wanted.wants c.args.wanted.now in
    let runs = c.self.inside.runs in
    let found =
    subst (λ rs. HaveItems rs → StandBehind q (joined rs) → IsFirstRun q rs c.run_with_first.result) c.as_slice.ensures
    c.run_with_first.ensures.place c.self.invariant (subst (StandBehind q) (sym c.self.view_is) behind) in
    let none = subst (IsFirstRun q runs) c.in-None.is found in
    on_ok c.append.result c.append.ensures.appended
    (λ e. e ∙ (put_none q c.args.item runs none ∙ ap (put_before q c.args.item) c.self.view_is))
