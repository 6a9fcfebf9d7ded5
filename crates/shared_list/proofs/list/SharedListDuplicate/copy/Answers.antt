use Rattle.std.proofs.Common.{◌∙◌, ap, map}
use Rattle.std.specs.Arc.{arc_value}
use Rattle.std.proofs.lemmas.List.{take_all}
use Rattle.shared_list.proofs.Runs.{have_same, joined_same}
use Rattle.shared_list.proofs.list.SharedListDuplicate.copy.Goals as goal

pub invariant_of-result : goal.invariant_of-result
invariant_of-result g c =
    have_same c.loop-run.runs c.self.inside.runs
    (c.loop-run.invariant
    ∙ ap (map (λ r. arc_value r)) (take_all c.loop-run.run-index c.as_slice-run-items.result.now c.loop-run-test.false
    ∙ c.as_slice-run-items.ensures)) c.self.invariant

pub returns : goal.returns
returns g c =
    joined_same c.loop-run.runs c.self.inside.runs
    (c.loop-run.invariant
    ∙ ap (map (λ r. arc_value r)) (take_all c.loop-run.run-index c.as_slice-run-items.result.now c.loop-run-test.false
    ∙ c.as_slice-run-items.ensures)) ∙ c.self.view_is
