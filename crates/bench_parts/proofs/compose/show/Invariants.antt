use Rattle.bench_parts.proofs.compose.show.Given as goal

-- the ledger of the counter is the blank one's
abbrev pub ghosts-counted : goal.ghosts-counted
ghosts-counted g a = record { name = a.blank.name; parts = a.blank.parts }
