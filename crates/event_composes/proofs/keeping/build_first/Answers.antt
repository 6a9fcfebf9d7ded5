use Rattle.event_composes.proofs.keeping.build_first.Goals as goal

pub returns : goal.returns
returns g c = record {
  kept = record {
    sound = λ numbers. c.requires.sound;
    numbers = λ some. c.has_numbers.ensures.0 c.if-not-has_numbers.false;
    of = c.in_ok-composed.ensures.of;
  };
}
