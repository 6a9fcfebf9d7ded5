use Rattle.machine_meaning.proofs.WrittenSteps.{steps_written}
use Rattle.machine_meaning.proofs.laws.steps_are_written.Goals as goal

pub returns : goal.returns
returns c =
    steps_written c.writing.ensures.batch c.writing.ensures.installation c.reading.ensures.sent c.reading.ensures.batch
    c.reading.ensures.quiet c.settings_are_sound.ensures
