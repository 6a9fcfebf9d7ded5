use Rattle.std.proofs.Common.{sym, ◌∙◌}
use Rattle.std.proofs.lemmas.Result.{IfOk-weaker}
use Rattle.incr_compile.specs.Nodes.{node_of}
use Rattle.incr_compile.proofs.Carrying.{found-held, right-carried, right-come-alone, right-come-levels}
use Rattle.incr_compile.proofs.Carrying.{right-come-sound, right-others-sound, right-steps}
use Rattle.incr_compile.proofs.node.Node.ready_right.Goals as goal

pub made_by_right-requires-clause-sound : goal.made_by_right-requires-clause-sound
made_by_right-requires-clause-sound g c =
    right-come-sound (node_of c.args.self.now) c.requires.0 c.args.right.now c.requires.1 c.args.left.now
    c.args.below.now c.requires.2 c.deref.result.now (λ items rest e p. c.deref.ensures.value
    ∙ c.in_ok-come.ensures items rest (e ∙ sym c.come.ensures) p)

pub made_by_right-requires-clause-sound_lefts : goal.made_by_right-requires-clause-sound_lefts
made_by_right-requires-clause-sound_lefts g c =
    right-others-sound (node_of c.args.self.now) c.requires.0 c.args.right.now c.requires.1 c.args.left.now
    c.args.below.now c.requires.2 c.deref.result.now (λ items rest e p. c.deref.ensures.value
    ∙ c.in_ok-come.ensures items rest (e ∙ sym c.come.ensures) p)

pub made_by_right-requires-clause-alone : goal.made_by_right-requires-clause-alone
made_by_right-requires-clause-alone g c =
    right-come-alone (node_of c.args.self.now) c.requires.0 c.args.right.now c.requires.1 c.args.left.now
    c.args.below.now c.requires.2 c.deref.result.now (λ items rest e p. c.deref.ensures.value
    ∙ c.in_ok-come.ensures items rest (e ∙ sym c.come.ensures) p)

pub made_by_right-requires-clause-level : goal.made_by_right-requires-clause-level
made_by_right-requires-clause-level g c =
    right-come-levels (node_of c.args.self.now) c.requires.0 c.args.right.now c.requires.1 c.args.left.now
    c.args.below.now c.requires.2 c.deref.result.now (λ items rest e p. c.deref.ensures.value
    ∙ c.in_ok-come.ensures items rest (e ∙ sym c.come.ensures) p)

pub ready-requires : goal.ready-requires
ready-requires g c = found-held c.args.self.now.made c.deref-2.result.now c.deref-3.result.now
    (c.deref-3.ensures.value ∙ c.in_ok-lost.ensures)

pub returns-clause-ready : goal.returns-clause-ready
returns-clause-ready g c before after l =
    IfOk-weaker c.ready.result _ _ (λ change u.
    right-carried (node_of c.args.self.now) before c.args.right.now after c.args.left.now c.args.below.now l
    c.deref.result.now (λ items rest e p. c.deref.ensures.value
    ∙ c.in_ok-come.ensures items rest (e ∙ sym c.come.ensures) p)
    c.ready.new.store c.deref-3.result.now c.in_ok-fresh.fresh.items c.deref-2.result.now c.gone.result.now change u
    c.gone.ensures (c.deref-2.ensures.value ∙ c.in_ok-origins.ensures)
    (c.deref-3.ensures.value ∙ c.in_ok-lost.ensures) c.in_ok-fresh.ensures.made)
    c.ready.ensures.ready

pub returns-in_err-origins-clause-steps : goal.returns-in_err-origins-clause-steps
returns-in_err-origins-clause-steps g c before after l =
    right-steps (node_of c.args.self.now) before c.args.right.now after c.args.left.now c.args.below.now l
    c.deref.result.now (λ items rest e p. c.deref.ensures.value
    ∙ c.in_ok-come.ensures items rest (e ∙ sym c.come.ensures) p)
    c.args.steps.now c.made_by_right.new.steps c.made_by_right.ensures.steps

pub returns-in_err-lost-clause-steps : goal.returns-in_err-lost-clause-steps
returns-in_err-lost-clause-steps g c before after l =
    right-steps (node_of c.args.self.now) before c.args.right.now after c.args.left.now c.args.below.now l
    c.deref.result.now (λ items rest e p. c.deref.ensures.value
    ∙ c.in_ok-come.ensures items rest (e ∙ sym c.come.ensures) p)
    c.args.steps.now c.made_by_right.new.steps c.made_by_right.ensures.steps

pub returns-in_err-reserve-clause-steps : goal.returns-in_err-reserve-clause-steps
returns-in_err-reserve-clause-steps g c before after l =
    right-steps (node_of c.args.self.now) before c.args.right.now after c.args.left.now c.args.below.now l
    c.deref.result.now (λ items rest e p. c.deref.ensures.value
    ∙ c.in_ok-come.ensures items rest (e ∙ sym c.come.ensures) p)
    c.args.steps.now c.made_by_right.new.steps c.made_by_right.ensures.steps

pub returns-in_err-fresh-clause-steps : goal.returns-in_err-fresh-clause-steps
returns-in_err-fresh-clause-steps g c before after l =
    right-steps (node_of c.args.self.now) before c.args.right.now after c.args.left.now c.args.below.now l
    c.deref.result.now (λ items rest e p. c.deref.ensures.value
    ∙ c.in_ok-come.ensures items rest (e ∙ sym c.come.ensures) p)
    c.args.steps.now c.made_by_right.new.steps c.made_by_right.ensures.steps

pub returns-clause-steps : goal.returns-clause-steps
returns-clause-steps g c before after l =
    right-steps (node_of c.args.self.now) before c.args.right.now after c.args.left.now c.args.below.now l
    c.deref.result.now (λ items rest e p. c.deref.ensures.value
    ∙ c.in_ok-come.ensures items rest (e ∙ sym c.come.ensures) p)
    c.args.steps.now c.made_by_right.new.steps c.made_by_right.ensures.steps
