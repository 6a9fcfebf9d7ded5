use Rattle.std.proofs.Common.{sym, subst, ap, ◌∙◌}
use Rattle.std.specs.Prelude.{IsPermutation}
use Rattle.std.proofs.lemmas.List.Sorted.{IsPermutation-sym}
use Rattle.std.proofs.lemmas.Result.{IfOk-weaker}
use Rattle.match_index.specs.Items.{ids_of}
use Rattle.match_index.specs.Questions.{is_meeting}
use Rattle.hop_rules.specs.Handed.{GivenOf}
use Rattle.hop_rules.proofs.given.Given.meeting.Goals as goal

pub returns : goal.returns
returns c =
    let test = is_meeting c.args.m.now in
    IfOk-weaker c.numbers.result _ _
    (λ ids e. subst (λ its. IsPermutation ids.items (ids_of test its)) (ap (λ (g : GivenOf). g.items) c.self.view_is)
    (subst (λ z. IsPermutation z (ids_of test c.self.inside.index.items)) (sym (e ∙ c.as_slice.ensures))
    (IsPermutation-sym _ _ c.in_ok-found.ensures.ids)))
    c.numbers.ensures
