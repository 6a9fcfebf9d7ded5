use Rattle.hyper_core.proofs.opening.open.Given as goal

-- the ledger of the counter is the blank one's
abbrev pub ghosts-build_first : goal.ghosts-build_first
ghosts-build_first g a = record { name = a.blank.name; parts = a.blank.parts }
