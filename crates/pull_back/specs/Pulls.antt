-- What pulls and images hold.
use Rattle.std.specs.Prelude.{◌≡◌, true, false, ◌&&◌, IsTrue, Option, Some, None}
use Rattle.of10_match.specs.Fields.{HeaderOf, MatchOf}
use Rattle.of10_match.specs.Matching.{holds}
use Rattle.of10_match.specs.Normal.{IsNormal}
use Rattle.of10_match.specs.Ranges.{IsHeader}
use Rattle.of10_actions.specs.Fields.{RewriteOf}
use Rattle.of10_actions.specs.Rewriting.{apply}
use Rattle.pull_back.specs.Pulling.{can_pull, pulled, image}

-- a match that holds exactly the headers that m holds once they are rewritten; none where m holds no such header
abbrev pub IsPullBack : RewriteOf → MatchOf → Option MatchOf → Type 0
IsPullBack r m None = (h : HeaderOf) → holds m (apply r h) ≡ false
IsPullBack r m (Some p) = (h : HeaderOf) → holds p h ≡ holds m (apply r h)

-- some header is in the match once it is rewritten
pub record Reaches (r : RewriteOf) (m : MatchOf) : Type 0 where
  pub header : HeaderOf
  pub is_header : IsHeader header
  pub comes_in : IsTrue (holds m (apply r header))

-- a match that holds each header of m once it is rewritten
abbrev pub IsImage : RewriteOf → MatchOf → MatchOf → Type 0
IsImage r m n = (h : HeaderOf) → holds m h ≡ true → holds n (apply r h) ≡ true

-- the pull of a normal match, if there is one, holds exactly the headers that the match holds once they are rewritten
abbrev pub PullIsExact : Type 0
PullIsExact = (r : RewriteOf) (m : MatchOf) (h : HeaderOf) → IsNormal m
    → (holds (pulled r m) h && can_pull r m) ≡ holds m (apply r h)

-- the image of a normal match holds each header of the match once it is rewritten
abbrev pub ImageHolds : Type 0
ImageHolds = (r : RewriteOf) (m : MatchOf) → IsNormal m → IsImage r m (image r m)
