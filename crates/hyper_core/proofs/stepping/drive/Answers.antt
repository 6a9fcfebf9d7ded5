use Rattle.std.proofs.Common.{◌∙◌, ap, subst, sym}
use Rattle.stats_map.specs.Told.{HeldOf}
use Rattle.machine_drafts.specs.Machines.{state_in_held}
use Rattle.hyper_core.proofs.Attempts.{drafted_done, drafted_moves, has_all_kept, has_all_moved, held_with}
use Rattle.event_composes.proofs.Cases.{in_any_case}
use Rattle.event_composes.proofs.KeptOn.{kept_done}
use Rattle.hyper_core.proofs.Stepped.{settled_done}
use Rattle.event_composes.specs.Settled.{IsSettledState}
use Rattle.hyper_core.proofs.stepping.drive.Goals as goal

pub draft_event-requires-clause-whole : goal.draft_event-requires-clause-whole
draft_event-requires-clause-whole g c = c.requires.whole

pub draft_event-requires-clause-heard : goal.draft_event-requires-clause-heard
draft_event-requires-clause-heard g c = c.requires.heard

pub draft_event-requires-clause-settled : goal.draft_event-requires-clause-settled
draft_event-requires-clause-settled g c = c.requires.settled

pub draft_event-requires-clause-kept : goal.draft_event-requires-clause-kept
draft_event-requires-clause-kept g c = c.requires.kept

pub make-requires : goal.make-requires
make-requires g c = c.in_ok-reply.ensures.draft.counts

pub move_in-requires : goal.move_in-requires
move_in-requires g c =
    drafted_moves c.args.setup.now c.draft_event.new.held c.args.event.now _ _ c.make.new.self
    c.in_ok-reply.ensures.draft c.in_ok-make.ensures.made

pub returns-clause-done : goal.returns-clause-done
returns-clause-done g c =
    drafted_done c.args.setup.now c.draft_event.new.held c.args.event.now _ _ c.make.new.self
    (state_in_held c.move_in.new.held) c.in_ok-reply.ensures.draft c.in_ok-make.ensures.made c.move_in.ensures

pub returns-clause-all : goal.returns-clause-all
returns-clause-all g c =
    let held = c.draft_event.new.held in
    let all = has_all_kept c.args.setup.now c.args.held.now held c.requires.all c.draft_event.ensures.state in
    has_all_moved c.args.setup.now (held_with held c.make.new.self) c.move_in.new.held
    c.in_ok-reply.field-0.parts.moment c.in_ok-reply.field-0.parts
    (record { members = all.members; switches = all.switches }) c.move_in.ensures

pub returns-clause-settled : goal.returns-clause-settled
returns-clause-settled g c =
    settled_done c.args.setup.now (state_in_held c.args.held.now) c.args.event.now _ _ (returns-clause-done g c)

pub returns-clause-kept : goal.returns-clause-kept
returns-clause-kept g c =
    kept_done c.args.setup.now (state_in_held c.args.held.now) c.args.event.now _ (state_in_held c.move_in.new.held)
    c.draft_event.new.composed (returns-clause-done g c) c.in_ok-reply.ensures.kept

-- where memory is wanted

pub returns-in_err-reply-clause-all : goal.returns-in_err-reply-clause-all
returns-in_err-reply-clause-all g c =
    has_all_kept c.args.setup.now c.args.held.now c.draft_event.new.held c.requires.all c.draft_event.ensures.state

pub returns-in_err-reply-clause-memory : goal.returns-in_err-reply-clause-memory
returns-in_err-reply-clause-memory g c = in_any_case c.from_residual.result c.draft_event.ensures.state

pub returns-in_err-make-clause-all : goal.returns-in_err-make-clause-all
returns-in_err-make-clause-all g c =
    let held = c.draft_event.new.held in
    let all = has_all_kept c.args.setup.now c.args.held.now held c.requires.all c.draft_event.ensures.state in
    record { members = all.members; switches = all.switches }

pub returns-in_err-reply-clause-settled : goal.returns-in_err-reply-clause-settled
returns-in_err-reply-clause-settled g c =
    subst (IsSettledState c.args.setup.now) (sym c.draft_event.ensures.state) c.requires.settled

pub returns-in_err-make-clause-settled : goal.returns-in_err-make-clause-settled
returns-in_err-make-clause-settled g c =
    subst (IsSettledState c.args.setup.now) (sym c.draft_event.ensures.state) c.requires.settled

pub returns-in_err-make-clause-memory : goal.returns-in_err-make-clause-memory
returns-in_err-make-clause-memory g c =
    in_any_case c.from_residual-in_err-make.result
    (ap (λ (counts : HeldOf). state_in_held (held_with c.draft_event.new.held counts)) c.in_err-make.ensures.memory
    ∙ c.draft_event.ensures.state)
