use Rattle.std.proofs.Common.{◌≡◌, ◌∙◌, ◌+◌, ◌++◌, [], ◌∷◌, Some, ap, drop, length, subst, take}
use Rattle.std.specs.Prelude.{option_map, slice_get}
use Rattle.std.specs.Arc.{arc_value}
use Rattle.shared_list.specs.InsideRuns.{joined}
use Rattle.shared_list.proofs.Runs.{appended, at_last, have_pushed, on_ok}
use Rattle.shared_list.proofs.changing.append.Goals as goal

pub returns-in-Some-clause-appended : goal.returns-in-Some-clause-appended
returns-in-Some-clause-appended g c =
    let long = subst (λ rs. c.in-Some.last + 1 ≡ length rs) c.as_slice.ensures c.in-Some.ensures in
    let at =
    subst (λ rs. option_map (λ run. arc_value run) (slice_get rs c.in-Some.last) ≡ Some c.in_ok-items.items)
    c.as_slice-in-Some.ensures c.in_ok-items.ensures in
    on_ok c.replace.result c.replace.ensures.replaced
    (λ e. e ∙ (ap (λ items. joined (take c.in-Some.last c.args.runs.now)
    ++ (items ++ joined (drop (c.in-Some.last + 1) c.args.runs.now))) c.in_ok-push.ensures.pushed
    ∙ at_last c.args.runs.now c.in-Some.last c.in_ok-items.items c.args.item long at))

pub returns-clause-appended : goal.returns-clause-appended
returns-clause-appended g c =
    on_ok c.push-3.result c.push-3.ensures.pushed
    (λ e. ap joined e ∙ appended c.args.runs.now c.in_ok-new.field-0 c.args.item
    (c.in_ok-new.ensures.ok ∙ (c.in_ok-push-2.ensures.pushed ∙ ap (λ xs. xs ++ c.args.item ∷ []) c.new-items.ensures)))

pub returns-clause-each : goal.returns-clause-each
returns-clause-each g c have =
    have_pushed c.args.runs.now c.push-3.new.self c.in_ok-new.field-0 c.push-3.result c.args.item
    (c.in_ok-new.ensures.ok ∙ (c.in_ok-push-2.ensures.pushed ∙ ap (λ xs. xs ++ c.args.item ∷ []) c.new-items.ensures))
    c.push-3.ensures.pushed c.push-3.ensures.memory have
