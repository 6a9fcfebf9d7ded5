use Rattle.serving.proofs.closing.next_line.Given as goal

abbrev pub ghosts-step : goal.ghosts-step
ghosts-step g a = record { name = a.blank.name; parts = a.blank.parts }
