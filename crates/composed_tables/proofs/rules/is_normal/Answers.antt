use Rattle.std.proofs.Common.{subst, sym, ◌∙◌}
use Rattle.of10_match.specs.Normal.{IsNormal}
use Rattle.of10_match.proofs.Same.{match_decides}
use Rattle.composed_tables.proofs.rules.is_normal.Goals as goal

pub returns : goal.returns
returns c t = subst IsNormal ((match_decides c.normal.result c.args.m.now).0 (sym c.eq.ensures ∙ t))
    c.normal.ensures.normal
