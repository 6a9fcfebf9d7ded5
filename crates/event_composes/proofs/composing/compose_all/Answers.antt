use Rattle.std.proofs.Common.{◌∙◌, ◌+◌, ◌<◌, ◌≤◌, ap, sym, drop, length, arith}
use Rattle.std.specs.Prelude.{fold}
use Rattle.std.proofs.lemmas.List.{length-map}
use Rattle.stats_map.specs.Told.{told}
use Rattle.machine_drafts.proofs.Numbers.{fold_end, fold_next}
use Rattle.event_composes.proofs.Sourced.{can_give_one, later_apart}
use Rattle.event_composes.specs.Composed.{with_composed}
use Rattle.machine_meaning.specs.Composing.{compose_at}
use Rattle.machine_meaning.specs.Drafts.{Draft}
use Rattle.machine_meaning.specs.Lists.{places}
use Rattle.machine_drafts.specs.Outcomes.{standing_in, switches_in}
use Rattle.machine_drafts.specs.SwitchDrafts.{SwitchDraftOf}
use Rattle.event_composes.proofs.composing.compose_all.Goals as goal

pub compose_nth-requires-clause-can : goal.compose_nth-requires-clause-can
compose_nth-requires-clause-can c =
    let test = c.loop-n-test.true in
    let within : c.loop-n.n < length c.args.switches.now = omega arith in
    can_give_one c.args.source.now (length c.args.switches.now) c.loop-n.n within c.requires.can

pub loop-n-preserved : goal.loop-n-preserved
loop-n-preserved c =
    let n = c.loop-n.n in
    let first = c.args.switches.now in
    let before = c.loop-n.invariant in
    let long = length-map first (λ (x : SwitchDraftOf). x.now) in
    let test = c.loop-n-test.true in
    let within : n < length (switches_in first) = omega arith in
    let here : n ≤ n = omega arith in
    record {
      bases = c.in_ok-compose_nth.ensures.bases ∙ before.bases;
      counts_base = c.in_ok-compose_nth.ensures.counts_base ∙ before.counts_base;
      long = c.compose_nth.ensures.long ∙ before.long;
      rest = λ m later.
          let less : n ≤ m = omega (arith, later) in
          c.compose_nth.ensures.others m (later_apart n m later) ∙ before.rest m less;
      composed = λ t given d e.
          ap (λ (z : Draft). fold (compose_at t) z (drop (n + 1) (places (switches_in first))))
          (c.in_ok-compose_nth.ensures.composed t (λ x at. given n x (sym (before.rest n here) ∙ at)) d e)
          ∙ (fold_next (compose_at t)
          (with_composed (switches_in c.loop-n.switches) (standing_in c.loop-n.switches) (told c.loop-n.counts.now)
          c.loop-n.next_cookie c.loop-n.batches d)
          (switches_in first) n within ∙ before.composed t given d e);
    }

pub returns-clause-composed : goal.returns-clause-composed
returns-clause-composed c t given d e =
    let first = c.args.switches.now in
    let now = with_composed (switches_in c.loop-n.switches) (standing_in c.loop-n.switches) (told c.loop-n.counts.now)
    c.loop-n.next_cookie c.loop-n.batches d in
    let long = length-map first (λ (x : SwitchDraftOf). x.now) in
    let test = c.loop-n-test.false in
    let end : length (switches_in first) ≤ c.loop-n.n = omega arith in
    sym (fold_end (compose_at t) now (switches_in first) c.loop-n.n end) ∙ c.loop-n.invariant.composed t given d e
