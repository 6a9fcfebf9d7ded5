use Rattle.covisor.proofs.main.Given as goal

-- the ledger of the counter is the blank one's
abbrev pub ghosts-run_counted : goal.ghosts-run_counted
ghosts-run_counted g a = record { name = a.blank.name; parts = a.blank.parts }
