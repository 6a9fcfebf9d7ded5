use Rattle.std.proofs.Common.{sym, ◌∙◌}
use Rattle.incr_compile.proofs.Wholes.{all-held, both-made, both-spent, join-alone, join-levels, join-rights}
use Rattle.incr_compile.proofs.Wholes.{join-sound, lefts-spent}
use Rattle.incr_compile.proofs.node.made_of_all.Goals as goal

pub made_of_found-requires-clause-sound : goal.made_of_found-requires-clause-sound
made_of_found-requires-clause-sound g c =
    join-sound c.args.op c.args.size c.args.left.now c.args.right.now c.requires.can c.deref-3.result.now
    (c.deref-3.ensures.value ∙ c.in_ok-come.ensures c.args.left.now _
    (sym (c.deref.ensures.value ∙ c.in_ok-ids.ensures)) (all-held c.args.left.now))

pub made_of_found-requires-clause-sound_rights : goal.made_of_found-requires-clause-sound_rights
made_of_found-requires-clause-sound_rights g c =
    join-rights c.args.op c.args.size c.args.left.now c.args.right.now c.requires.can

pub made_of_found-requires-clause-alone : goal.made_of_found-requires-clause-alone
made_of_found-requires-clause-alone g c =
    join-alone c.args.op c.args.size c.args.left.now c.args.right.now c.requires.can c.deref-3.result.now
    (c.deref-3.ensures.value ∙ c.in_ok-come.ensures c.args.left.now _
    (sym (c.deref.ensures.value ∙ c.in_ok-ids.ensures)) (all-held c.args.left.now))

pub made_of_found-requires-clause-level : goal.made_of_found-requires-clause-level
made_of_found-requires-clause-level g c =
    join-levels c.args.op c.args.size c.args.left.now c.args.right.now c.requires.can c.deref-3.result.now
    (c.deref-3.ensures.value ∙ c.in_ok-come.ensures c.args.left.now _
    (sym (c.deref.ensures.value ∙ c.in_ok-ids.ensures)) (all-held c.args.left.now))

pub returns-clause-made : goal.returns-clause-made
returns-clause-made g c =
    both-made c.args.op c.args.size c.in_ok-fresh.fresh.items c.in_ok-alone.alone.items c.append.new.self.items
    c.deref-3.result.now c.args.left.now c.args.right.now
    (c.deref-3.ensures.value ∙ c.in_ok-come.ensures c.args.left.now _
    (sym (c.deref.ensures.value ∙ c.in_ok-ids.ensures)) (all-held c.args.left.now))
    c.in_ok-fresh.ensures.made c.in_ok-alone.ensures.made c.in_ok-append.ensures.items

pub returns-in_err-fresh-clause-steps : goal.returns-in_err-fresh-clause-steps
returns-in_err-fresh-clause-steps g c =
    lefts-spent c.args.op c.deref-3.result.now c.args.left.now c.args.right.now c.args.steps.now
    c.made_of_found.new.steps
    (c.deref-3.ensures.value ∙ c.in_ok-come.ensures c.args.left.now _
    (sym (c.deref.ensures.value ∙ c.in_ok-ids.ensures)) (all-held c.args.left.now)) c.made_of_found.ensures.steps

pub returns-in_err-alone-clause-steps : goal.returns-in_err-alone-clause-steps
returns-in_err-alone-clause-steps g c =
    both-spent c.args.op c.deref-3.result.now c.args.left.now c.args.right.now c.args.steps.now
    c.made_of_found.new.steps c.made_alone.new.steps
    (c.deref-3.ensures.value ∙ c.in_ok-come.ensures c.args.left.now _
    (sym (c.deref.ensures.value ∙ c.in_ok-ids.ensures)) (all-held c.args.left.now)) c.made_of_found.ensures.steps
    c.made_alone.ensures.steps

pub returns-in_err-append-clause-steps : goal.returns-in_err-append-clause-steps
returns-in_err-append-clause-steps g c =
    both-spent c.args.op c.deref-3.result.now c.args.left.now c.args.right.now c.args.steps.now
    c.made_of_found.new.steps c.made_alone.new.steps
    (c.deref-3.ensures.value ∙ c.in_ok-come.ensures c.args.left.now _
    (sym (c.deref.ensures.value ∙ c.in_ok-ids.ensures)) (all-held c.args.left.now)) c.made_of_found.ensures.steps
    c.made_alone.ensures.steps

pub returns-clause-steps : goal.returns-clause-steps
returns-clause-steps g c =
    both-spent c.args.op c.deref-3.result.now c.args.left.now c.args.right.now c.args.steps.now
    c.made_of_found.new.steps c.made_alone.new.steps
    (c.deref-3.ensures.value ∙ c.in_ok-come.ensures c.args.left.now _
    (sym (c.deref.ensures.value ∙ c.in_ok-ids.ensures)) (all-held c.args.left.now)) c.made_of_found.ensures.steps
    c.made_alone.ensures.steps
