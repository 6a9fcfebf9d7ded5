use Rattle.machine_meaning.proofs.Places.{slice_get-there}
use Rattle.stats_map.specs.Told.{told}
use Rattle.event_composes.proofs.OneSwitch.{nth_based, nth_composed}
use Rattle.event_composes.proofs.Sourced.{others_stay}
use Rattle.event_composes.proofs.composing.compose_nth.Goals as goal

pub returns-clause-bases : goal.returns-clause-bases
returns-clause-bases c =
    nth_based c.args.switches.now c.args.n c.compose_at.new.switch c.index-switches-place.result c.requires.there
    c.in_ok-compose_at.ensures.base

pub returns-clause-others : goal.returns-clause-others
returns-clause-others c m apart = others_stay c.args.switches.now c.args.n c.compose_at.new.switch m apart

pub returns-clause-composed : goal.returns-clause-composed
returns-clause-composed c t given d e =
    nth_composed t d c.args.begun.now c.args.switches.now c.args.n c.compose_at.new.switch
    c.index-switches-place.result
    (told c.args.counts.now.now) (told c.compose_at.new.counts.now) c.args.next_cookie.now c.compose_at.new.next_cookie
    c.args.batches.now c.compose_at.new.batches
    c.requires.there (c.in_ok-compose_at.ensures.composed t
    (given _ (slice_get-there c.args.switches.now c.args.n c.index-switches-place.result c.requires.there))) e
