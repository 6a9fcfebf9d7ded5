use Rattle.std.proofs.Common.{◌∙◌, ap, length}
use Rattle.std.specs.Prelude.{◌==◌}
use Rattle.waitings.specs.declared.state.Part.{Part}
use Rattle.std.proofs.Common.{List}
use Rattle.waitings.proofs.Spans.{none_waited}
use Rattle.waitings.proofs.parts.Parts.is_empty.Goals as goal

pub returns : goal.returns
returns c =
    c.is_empty.ensures
    ∙ (none_waited c.self.inside.spans.items ∙ ap (λ (ps : List Part). length ps == 0) c.self.view_is)
