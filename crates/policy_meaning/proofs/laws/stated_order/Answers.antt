use Rattle.policy_meaning.proofs.Listings.{listing-is-unique}
use Rattle.policy_meaning.proofs.Ordered.{order_keeps_best}
use Rattle.policy_meaning.proofs.laws.stated_order.Goals as goal

pub returns-clause-best : goal.returns-clause-best
returns-clause-best c = order_keeps_best

pub returns-clause-listing : goal.returns-clause-listing
returns-clause-listing c = listing-is-unique
