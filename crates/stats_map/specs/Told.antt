-- What is held, and the counts that it tells.
use Rattle.stats_map.specs.Counting.{Cookies, CountsOf}
use Rattle.stats_map.specs.InsideSums.{Sums, seen}

-- the cookies that matter, and a sum for each leaf
pub record HeldOf : Type 0 where
  pub live : Cookies
  pub sums : Sums

-- the counts that they tell
abbrev pub told : HeldOf → CountsOf
told h = seen h.live h.sums
