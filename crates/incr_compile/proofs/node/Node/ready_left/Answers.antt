use Rattle.std.proofs.Common.{sym, ◌∙◌}
use Rattle.std.proofs.lemmas.Result.{IfOk-weaker}
use Rattle.incr_compile.specs.Nodes.{node_of}
use Rattle.incr_compile.proofs.Carrying.{found-held, left-carried, left-come-alone, left-come-levels, left-come-sound}
use Rattle.incr_compile.proofs.Carrying.{left-others-sound, left-steps}
use Rattle.incr_compile.proofs.node.Node.ready_left.Goals as goal

pub made_by_left-requires-clause-sound : goal.made_by_left-requires-clause-sound
made_by_left-requires-clause-sound g c =
    left-come-sound (node_of c.args.self.now) c.requires.0 c.args.left.now c.requires.1 c.args.right.now
    c.args.below.now c.requires.2 c.deref.result.now (λ items rest e p. c.deref.ensures.value
    ∙ c.in_ok-come.ensures items rest (e ∙ sym c.come.ensures) p)

pub made_by_left-requires-clause-sound_rights : goal.made_by_left-requires-clause-sound_rights
made_by_left-requires-clause-sound_rights g c =
    left-others-sound (node_of c.args.self.now) c.requires.0 c.args.left.now c.requires.1 c.args.right.now
    c.args.below.now c.requires.2 c.deref.result.now (λ items rest e p. c.deref.ensures.value
    ∙ c.in_ok-come.ensures items rest (e ∙ sym c.come.ensures) p)

pub made_by_left-requires-clause-alone : goal.made_by_left-requires-clause-alone
made_by_left-requires-clause-alone g c =
    left-come-alone (node_of c.args.self.now) c.requires.0 c.args.left.now c.requires.1 c.args.right.now
    c.args.below.now c.requires.2 c.deref.result.now (λ items rest e p. c.deref.ensures.value
    ∙ c.in_ok-come.ensures items rest (e ∙ sym c.come.ensures) p)

pub made_by_left-requires-clause-level : goal.made_by_left-requires-clause-level
made_by_left-requires-clause-level g c =
    left-come-levels (node_of c.args.self.now) c.requires.0 c.args.left.now c.requires.1 c.args.right.now
    c.args.below.now c.requires.2 c.deref.result.now (λ items rest e p. c.deref.ensures.value
    ∙ c.in_ok-come.ensures items rest (e ∙ sym c.come.ensures) p)

pub ready-requires : goal.ready-requires
ready-requires g c = found-held c.args.self.now.made c.deref-2.result.now c.deref-3.result.now
    (c.deref-3.ensures.value ∙ c.in_ok-lost.ensures)

pub returns-clause-ready : goal.returns-clause-ready
returns-clause-ready g c before after l =
    IfOk-weaker c.ready.result _ _ (λ change u.
    left-carried (node_of c.args.self.now) before c.args.left.now after c.args.right.now c.args.below.now l
    c.deref.result.now (λ items rest e p. c.deref.ensures.value
    ∙ c.in_ok-come.ensures items rest (e ∙ sym c.come.ensures) p)
    c.ready.new.store c.deref-3.result.now c.in_ok-fresh.fresh.items c.deref-2.result.now c.gone.result.now change u
    c.gone.ensures (c.deref-2.ensures.value ∙ c.in_ok-origins.ensures)
    (c.deref-3.ensures.value ∙ c.in_ok-lost.ensures) c.in_ok-fresh.ensures.made)
    c.ready.ensures.ready

pub returns-in_err-origins-clause-steps : goal.returns-in_err-origins-clause-steps
returns-in_err-origins-clause-steps g c before after l =
    left-steps (node_of c.args.self.now) before c.args.left.now after c.args.right.now c.args.below.now l
    c.deref.result.now (λ items rest e p. c.deref.ensures.value
    ∙ c.in_ok-come.ensures items rest (e ∙ sym c.come.ensures) p)
    c.args.steps.now c.made_by_left.new.steps c.made_by_left.ensures.steps

pub returns-in_err-lost-clause-steps : goal.returns-in_err-lost-clause-steps
returns-in_err-lost-clause-steps g c before after l =
    left-steps (node_of c.args.self.now) before c.args.left.now after c.args.right.now c.args.below.now l
    c.deref.result.now (λ items rest e p. c.deref.ensures.value
    ∙ c.in_ok-come.ensures items rest (e ∙ sym c.come.ensures) p)
    c.args.steps.now c.made_by_left.new.steps c.made_by_left.ensures.steps

pub returns-in_err-reserve-clause-steps : goal.returns-in_err-reserve-clause-steps
returns-in_err-reserve-clause-steps g c before after l =
    left-steps (node_of c.args.self.now) before c.args.left.now after c.args.right.now c.args.below.now l
    c.deref.result.now (λ items rest e p. c.deref.ensures.value
    ∙ c.in_ok-come.ensures items rest (e ∙ sym c.come.ensures) p)
    c.args.steps.now c.made_by_left.new.steps c.made_by_left.ensures.steps

pub returns-in_err-fresh-clause-steps : goal.returns-in_err-fresh-clause-steps
returns-in_err-fresh-clause-steps g c before after l =
    left-steps (node_of c.args.self.now) before c.args.left.now after c.args.right.now c.args.below.now l
    c.deref.result.now (λ items rest e p. c.deref.ensures.value
    ∙ c.in_ok-come.ensures items rest (e ∙ sym c.come.ensures) p)
    c.args.steps.now c.made_by_left.new.steps c.made_by_left.ensures.steps

pub returns-clause-steps : goal.returns-clause-steps
returns-clause-steps g c before after l =
    left-steps (node_of c.args.self.now) before c.args.left.now after c.args.right.now c.args.below.now l
    c.deref.result.now (λ items rest e p. c.deref.ensures.value
    ∙ c.in_ok-come.ensures items rest (e ∙ sym c.come.ensures) p)
    c.args.steps.now c.made_by_left.new.steps c.made_by_left.ensures.steps
