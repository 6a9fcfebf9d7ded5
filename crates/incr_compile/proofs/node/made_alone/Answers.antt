use Rattle.std.proofs.Common.{subst, sym, ◌∙◌}
use Rattle.std.proofs.lemmas.Result.{IfOk-weaker}
use Rattle.incr_compile.specs.Nodes.{AreFit}
use Rattle.incr_compile.proofs.Fits.{fit-all-sound}
use Rattle.incr_compile.proofs.Wholes.{all-held, alone-below, alone-spent, others-alone}
use Rattle.incr_compile.proofs.node.made_alone.Goals as goal

pub made_by_right-requires-clause-sound : goal.made_by_right-requires-clause-sound
made_by_right-requires-clause-sound g c =
    fit-all-sound c.requires.0 c.deref-2.result.now
    (subst (λ z. AreFit c.requires.0 z)
    (sym (c.deref-2.ensures.value
    ∙ c.in_ok-come.ensures c.args.right.now _ (sym (c.deref.ensures.value ∙ c.in_ok-ids.ensures))
    (all-held c.args.right.now))) c.requires.1)

pub made_by_right-requires-clause-alone : goal.made_by_right-requires-clause-alone
made_by_right-requires-clause-alone g c =
    alone-below c.args.op c.args.size c.requires.0 c.deref-2.result.now c.requires.2
    (subst (λ z. AreFit c.requires.0 z)
    (sym (c.deref-2.ensures.value
    ∙ c.in_ok-come.ensures c.args.right.now _ (sym (c.deref.ensures.value ∙ c.in_ok-ids.ensures))
    (all-held c.args.right.now))) c.requires.1)

pub returns-clause-made : goal.returns-clause-made
returns-clause-made g c =
    IfOk-weaker c.made_by_right.result _ _ (λ fresh p.
    others-alone c.args.op c.args.size fresh.items c.deref-2.result.now c.new-left.result c.args.right.now
    c.new-left.ensures
    (c.deref-2.ensures.value ∙ c.in_ok-come.ensures c.args.right.now _
    (sym (c.deref.ensures.value ∙ c.in_ok-ids.ensures)) (all-held c.args.right.now)) p)
    c.made_by_right.ensures.made

pub returns-clause-steps : goal.returns-clause-steps
returns-clause-steps g c =
    alone-spent c.args.op c.new-left.result c.args.right.now c.deref-2.result.now c.args.steps.now
    c.made_by_right.new.steps c.new-left.ensures
    (c.deref-2.ensures.value ∙ c.in_ok-come.ensures c.args.right.now _
    (sym (c.deref.ensures.value ∙ c.in_ok-ids.ensures)) (all-held c.args.right.now)) c.made_by_right.ensures.steps
