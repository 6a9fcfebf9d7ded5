use Rattle.std.proofs.Common.{[], ◌∷◌, ap, ◌∙◌}
use Rattle.of10_match.specs.Fields.{MatchOf}
use Rattle.random_changes.proofs.Tables.{empty-sound}
use Rattle.random_changes.proofs.members.empty_table.Goals as goal

pub returns : goal.returns
returns c =
    empty-sound c.args.member c.in_ok-region.region c.in_ok-visible.visible c.new-entries.result
    (c.in_ok-region.ensures ∙ ap (λ (m : MatchOf). m ∷ []) c.everything.ensures.value) c.in_ok-visible.ensures
    c.new-entries.ensures
