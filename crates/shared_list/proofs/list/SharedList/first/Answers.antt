use Rattle.std.proofs.Common.{◌≡◌, ◌∙◌, Some, ap, length, refl, subst, sym}
use Rattle.std.specs.Prelude.{find, option_map, slice_get}
use Rattle.std.specs.Arc.{arc_value}
use Rattle.std.proofs.lemmas.Option.{slice_get_read}
use Rattle.shared_list.specs.Behind.{StandBehind}
use Rattle.shared_list.specs.InsideRuns.{HaveItems, IsFirstRun, joined}
use Rattle.shared_list.proofs.Runs.{find_at_first, find_none}
use Rattle.shared_list.proofs.list.SharedList.first.Goals as goal

pub returns-in-Some : goal.returns-in-Some
returns-in-Some g c behind =
    let q = g.W.Wanted.wants c.args.wanted.now in
    let runs = c.self.inside.runs in
    let run = c.index-runs-place.result in
    let listed = c.as_slice-runs.result.now in
    let found =
    subst (λ rs. HaveItems rs → StandBehind q (joined rs) → IsFirstRun q rs c.run_with_first.result)
    c.as_slice-runs.ensures c.run_with_first.ensures.place c.self.invariant
    (subst (StandBehind q) (sym c.self.view_is) behind) in
    let first = subst (IsFirstRun q runs) c.in-Some.is found in
    let is = slice_get_read listed (length listed) c.in-Some.place run refl c.in-Some.ensures.within
    c.index-runs-place.is in
    let at =
    subst (λ rs. option_map (λ r. arc_value r) (slice_get rs c.in-Some.place) ≡ Some (arc_value run))
    c.as_slice-runs.ensures (ap (option_map (λ r. arc_value r)) is) in
    c.first_in.ensures
    ∙ (ap (find q) c.deref.ensures
    ∙ (sym (find_at_first q (arc_value run) runs c.in-Some.place first at) ∙ ap (find q) c.self.view_is))

pub returns-in-None : goal.returns-in-None
returns-in-None g c behind =
    let q = g.W.Wanted.wants c.args.wanted.now in
    let found =
    subst (λ rs. HaveItems rs → StandBehind q (joined rs) → IsFirstRun q rs c.run_with_first.result)
    c.as_slice-runs.ensures c.run_with_first.ensures.place c.self.invariant
    (subst (StandBehind q) (sym c.self.view_is) behind) in
    find_none q c.self.inside.runs (subst (IsFirstRun q c.self.inside.runs) c.in-None.is found)
    ∙ ap (find q) c.self.view_is
