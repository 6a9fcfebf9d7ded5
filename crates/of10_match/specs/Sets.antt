-- Matches as the sets of the headers that they hold.
use Rattle.std.specs.Prelude.{◌≡◌, ◌&&◌, IsTrue}
use Rattle.of10_match.specs.Fields.{HeaderOf, MatchOf}
use Rattle.of10_match.specs.Ranges.{IsHeader}
use Rattle.of10_match.specs.Matching.{holds}

-- some header is in both
pub record Overlap (m n : MatchOf) : Type 0 where
  pub header : HeaderOf
  pub is_header : IsHeader header
  pub in_first : IsTrue (holds m header)
  pub in_second : IsTrue (holds n header)

-- every header of the second is in the first
abbrev pub Covers : MatchOf → MatchOf → Type 0
Covers m n = (h : HeaderOf) → IsHeader h → IsTrue (holds n h) → IsTrue (holds m h)

-- the headers of the third are those that are in both
abbrev pub IsMeet : MatchOf → MatchOf → MatchOf → Type 0
IsMeet m n b = (h : HeaderOf) → holds b h ≡ (holds m h && holds n h)
