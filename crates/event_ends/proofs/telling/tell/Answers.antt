use Rattle.std.proofs.Common.{◌∙◌, ◌<◌, ◌^◌, length, map, ap, subst, sym, arith}
use Rattle.event_ends.proofs.Based.{same_many}
use Rattle.machine_drafts.specs.Outcomes.{Bases, IsBefore}
use Rattle.machine_meaning.specs.Telling.{forget, tell_ports, tell_removals}
use Rattle.machine_drafts.specs.Views.{switch_of}
use Rattle.event_ends.proofs.telling.tell.Goals as goal

pub forget-requires : goal.forget-requires
forget-requires c =
    let same =
    same_many c.tell_removals.new.draft c.args.draft.now
    (c.in_ok-tell_removals.ensures.bases
    ∙ (c.in_ok-tell_ports.ensures.bases ∙ c.in_ok-request_all.ensures.bases)) in
    let few : length c.args.draft.now.members < 2 ^ 32 = c.requires.few in
    omega arith

pub returns-clause-drafted : goal.returns-clause-drafted
returns-clause-drafted c =
    λ before stood.
    let p = c.args.setup.now in
    let one = c.in_ok-request_all.ensures.bases in
    let all = c.in_ok-tell_removals.ensures.bases ∙ (c.in_ok-tell_ports.ensures.bases ∙ one) in
    c.in_ok-forget.ensures.drafted before (subst (λ (b : Bases). IsBefore b before) (sym all) stood)
    ∙ ap (forget before)
    (c.in_ok-tell_removals.ensures.drafted
    ∙ ap tell_removals
    (c.in_ok-tell_ports.ensures.drafted before
    (stood.switches ∙ ap (λ (b : Bases). map switch_of b.switches) (sym one))
    ∙ ap (tell_ports p before) c.in_ok-request_all.ensures.drafted))
