use Rattle.bench_parts.proofs.lock.under_mutex.add.Given as goal

abbrev pub ghosts-add_on : goal.ghosts-add_on
ghosts-add_on g a = record { name = a.blank.name; parts = a.blank.parts }
