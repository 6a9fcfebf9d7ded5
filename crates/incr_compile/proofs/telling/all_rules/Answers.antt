use Rattle.std.proofs.Common.{ap, sym, ◌∙◌}
use Rattle.std.proofs.lemmas.Result.{IfOk-weaker}
use Rattle.incr_compile.specs.Ways.{without_ids}
use Rattle.incr_compile.proofs.Scratch.{without-held}
use Rattle.incr_compile.proofs.Wholes.{all-held}
use Rattle.incr_compile.proofs.telling.all_rules.Goals as goal

pub returns : goal.returns
returns c =
    IfOk-weaker c.copies_of.result _ _ (λ rules e.
    e ∙ ap without_ids (c.deref-2.ensures.value
    ∙ c.in_ok-held.ensures c.args.store.now _ (sym (c.deref.ensures.value ∙ c.in_ok-ids.ensures))
    (all-held c.args.store.now)) ∙ without-held c.args.store.now)
    c.copies_of.ensures
