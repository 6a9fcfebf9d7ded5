use Rattle.std.proofs.Common.{◌≡◌, ◌∙◌, List, length, refl, ap, subst, sym}
use Rattle.std.specs.List.{refill}
use Rattle.stats_map.specs.Told.{told}
use Rattle.event_composes.proofs.Refilled.{refilled}
use Rattle.event_composes.specs.Composed.{with_composed}
use Rattle.machine_meaning.specs.Composing.{compose_all}
use Rattle.machine_drafts.specs.Outcomes.{draft_in, standing_in, switches_in}
use Rattle.event_composes.specs.Sources.{CanGive, GivesAll}
use Rattle.machine_drafts.specs.SwitchDrafts.{SwitchDraftOf}
use Rattle.event_composes.proofs.composing.compose_from.Goals as goal

pub compose_all-requires-clause-can : goal.compose_all-requires-clause-can
compose_all-requires-clause-can c =
    subst (λ (xs : List SwitchDraftOf). CanGive c.args.source.now (length xs)) (sym c.as_mut_slice.ensures.value)
    c.requires

pub returns-clause-drafted : goal.returns-clause-drafted
returns-clause-drafted c t given =
    let o = c.args.draft.now in
    let d = draft_in o in
    let new = c.compose_all.new in
    let lent : c.as_mut_slice.result.now ≡ o.switches = c.as_mut_slice.ensures.value in
    let back : refill (length o.switches) o.switches new.switches ≡ new.switches =
    refilled o.switches new.switches (c.in_ok-compose_all.ensures.long ∙ ap length lent) in
    (λ i. with_composed (switches_in (back i)) (standing_in (back i)) (told new.counts.now) new.next_cookie new.batches
    d)
    ∙ (c.in_ok-compose_all.ensures.composed t (subst (GivesAll t c.args.source.now) (sym lent) given) d refl
    ∙ (λ i. compose_all t (with_composed (switches_in (lent i)) (standing_in (lent i)) (told o.counts.now)
    o.next_cookie o.batches d)))
