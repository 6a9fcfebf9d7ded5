use Rattle.rule_tests.proofs.composition.pair.Given as goal

-- the ledger of the counter is the blank one's
abbrev pub ghosts-paired : goal.ghosts-paired
ghosts-paired a = record { name = a.blank.name; parts = a.blank.parts }
