use Rattle.bench_parts.proofs.join.show.Given as goal

-- the ledger of the counter is the blank one's
abbrev pub ghosts-counted : goal.ghosts-counted
ghosts-counted a = record { name = a.blank.name; parts = a.blank.parts }
