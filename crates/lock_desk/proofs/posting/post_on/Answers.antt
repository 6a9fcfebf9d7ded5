use Rattle.lock_desk.proofs.Posts.{seen_posted}
use Rattle.lock_desk.proofs.posting.post_on.Goals as goal

pub returns-clause-seen : goal.returns-clause-seen
returns-clause-seen g c = seen_posted g.M.Machine _ _ _ _ _ _ _ _ c.in_ok-receipt.ensures.posted
