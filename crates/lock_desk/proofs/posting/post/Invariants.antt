use Rattle.lock_desk.proofs.posting.post.Given as goal

abbrev pub ghosts-post_on : goal.ghosts-post_on
ghosts-post_on g a = record { name = a.blank.name; parts = a.blank.parts }
