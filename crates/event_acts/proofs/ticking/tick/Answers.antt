use Rattle.std.proofs.Common.{◌∙◌, ap}
use Rattle.machine_meaning.specs.Ticking.{doubt}
use Rattle.event_acts.proofs.ticking.tick.Goals as goal

pub returns-clause-drafted : goal.returns-clause-drafted
returns-clause-drafted c =
    c.in_ok-doubt.ensures.drafted ∙ ap (doubt c.args.setup.now) c.in_ok-expire.ensures.drafted
