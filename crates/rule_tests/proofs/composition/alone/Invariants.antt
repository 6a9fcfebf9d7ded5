use Rattle.rule_tests.proofs.composition.alone.Given as goal

-- the ledger of the counter is the blank one's
abbrev pub ghosts-lone : goal.ghosts-lone
ghosts-lone a = record { name = a.blank.name; parts = a.blank.parts }
