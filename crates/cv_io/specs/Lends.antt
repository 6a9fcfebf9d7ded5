-- What a list is once a loan of its items has ended.
use Rattle.std.specs.Prelude.{List, length}
use Rattle.std.specs.List.{refill}
use Rattle.std.specs.Borrow.{Lends, MutBor, Fml, Array, RattleType}
use Rattle.cv_io.specs.contracts.list.List.{the_row}

-- the list ends as the items that the slice shows last; its length stays
abbrev pub lends_slice : (T : RattleType) → MutBor (List T.Denot) → MutBor (List T.Denot) → Fml
lends_slice T list r = Lends (the_row T) (Array T 0) list r (refill (length list.now) list.now)
