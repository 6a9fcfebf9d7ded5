use Rattle.machine_meaning.specs.WorkedCounts.{two_cookies_counted}
use Rattle.machine_meaning.proofs.worked.two_cookies_are_counted.Goals as goal

pub returns : goal.returns
returns c = two_cookies_counted
