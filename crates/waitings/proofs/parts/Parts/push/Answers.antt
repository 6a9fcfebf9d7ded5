use Rattle.std.proofs.Common.{◌∙◌, ◌∷◌, ◌++◌, [], List, ap, refl}
use Rattle.waitings.specs.InsideSpans.{all_spelled}
use Rattle.waitings.specs.declared.state.Part.{Part}
use Rattle.waitings.proofs.Spans.{one_more}
use Rattle.waitings.proofs.parts.Parts.push.Goals as goal

pub returns-clause-pushed : goal.returns-clause-pushed
returns-clause-pushed c =
    let same = c.if-lengthen.ensures.kept refl in
    ap all_spelled c.in_ok-push.ensures.ok
    ∙ (one_more c.lengthen.new.spans.items c.of.result
    ∙ ((λ i. all_spelled (same i).items ++ c.of.ensures.spelled i)
    ∙ ap (λ (ps : List Part). ps ++ c.args.part ∷ []) c.self.view_is))
