use Rattle.worked_rows.proofs.row.play.Given as goal

-- the ledger of the counter is the blank one's
abbrev pub ghosts-play_counted : goal.ghosts-play_counted
ghosts-play_counted g a = record { name = a.blank.name; parts = a.blank.parts }
