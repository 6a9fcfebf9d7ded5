use Rattle.random_changes.proofs.main.Given as goal

-- the ledger of each counter is the blank one's
abbrev pub ghosts-folded : goal.ghosts-folded
ghosts-folded g a = record { name = a.blank.name; parts = a.blank.parts }

abbrev pub ghosts-folded-2 : goal.ghosts-folded-2
ghosts-folded-2 g a = record { name = a.blank.name; parts = a.blank.parts }
