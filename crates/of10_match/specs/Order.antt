-- The order of matches by the bytes that they are written as.
use Rattle.std.specs.Ordering.{nat_cmp}
use Rattle.std.specs.Cmp.Lexicographic.{slice_cmp}
use Rattle.std.specs.declared.cmp.Ordering.{Ordering}
use Rattle.of10_match.specs.Fields.{MatchOf}
use Rattle.of10_match.specs.Wildcards.{match_bytes}

-- the first byte that differs decides
abbrev pub by_bytes : MatchOf → MatchOf → Ordering
by_bytes m n = slice_cmp nat_cmp (match_bytes m) (match_bytes n)
