use Rattle.std.proofs.Common.{ap, refl, sym, ◌∙◌}
use Rattle.made_rules.specs.Changing.{settled}
use Rattle.incr_compile.specs.Ways.{without_ids}
use Rattle.incr_compile.proofs.Carrying.{coming-first}
use Rattle.incr_compile.proofs.Scratch.{without-held}
use Rattle.incr_compile.proofs.telling.tell.Goals as goal

pub returns-clause-come : goal.returns-clause-come
returns-clause-come c before lost fresh r =
    c.in_ok-come.ensures ∙ ap without_ids (c.deref.ensures.value
    ∙ c.in_ok-held.ensures r.coming _ (r.come ∙ sym c.come.ensures)
    (coming-first before c.args.store.now (settled r) lost fresh c.args.change.now r refl))
    ∙ without-held r.coming
