use Rattle.std.proofs.Common.{rules, ◌≡◌, Bool, ap, ◌∙◌}
use Rattle.std.specs.Prelude.{filter, not}
use Rattle.std.proofs.lemmas.Fn.{filter_same}
use Rattle.waitings.specs.Waitings.{is_asked_by}
use Rattle.waitings.specs.declared.state.Waiting.{Waiting}
use Rattle.waitings.proofs.changing.without_asked_by.Goals as goal

pub returns : goal.returns
returns c =
    let stays : Waiting → Bool = λ w. not (is_asked_by c.args.member w) in
    let kept : c.retain.new.self.items ≡ filter stays c.into_vec-items.result.items =
    filter_same _ stays _ (λ x b f' k. search rules) _ _ c.retain.ensures.filtered in
    c.from_vec.ensures ∙ (kept ∙ ap (filter stays) c.into_vec-items.ensures)
