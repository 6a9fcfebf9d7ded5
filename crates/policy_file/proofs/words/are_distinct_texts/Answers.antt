use Rattle.std.proofs.Common.{◌∙◌, refl, nat_cmp}
use Rattle.std.specs.Cmp.Lexicographic.{slice_cmp}
use Rattle.std.specs.Ordering.{eq_by_cmp}
use Rattle.std.proofs.lemmas.Result.{IfOk-weaker}
use Rattle.toml.specs.Data.{same_key}
use Rattle.policy_file.proofs.Distinct.{distinct_shown}
use Rattle.policy_file.proofs.words.are_distinct_texts.Goals as goal

pub returns : goal.returns
returns c =
    IfOk-weaker c.are_distinct.result _ _ (λ d h. h
    ∙ distinct_shown (λ w. w.now) (eq_by_cmp (λ a b. slice_cmp nat_cmp a.now b.now)) same_key (λ x y. refl)
    c.args.words.now) c.are_distinct.ensures
