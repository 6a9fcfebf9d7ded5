-- The order of rows, computed on an example.
use Rattle.std.specs.Prelude.{◌≡◌, ℕ, Some, [], ◌∷◌}
use Rattle.install_plan.specs.declared.written.Written.{Written}
use Rattle.of10_match.specs.Fields.{MatchOf}
use Rattle.of10_match.specs.Matching.{everything}
use Rattle.shared_rows.specs.Rows.{by_key}

-- a row of a match, at priority 5
abbrev pub row_of : MatchOf → ℕ → Written
row_of m cookie = record {
  entry = record { m = m; priority = 5; actions = []; ancestry = [] };
  cookie = cookie;
}

-- packets of one port
abbrev pub at_port : ℕ → MatchOf
at_port port = record everything { in_port = Some port }

-- Priorities are equal, so the 40 bytes of the matches decide. The wildcards come first: those of a match with a port
-- are 00 38 20 FE, and those of the match of every packet 00 38 20 FF. Then comes the port, 00 02 or 01 00.
abbrev pub MatchesDecide : Type 0
MatchesDecide =
    by_key (row_of (at_port 256) 1 ∷ row_of everything 2 ∷ row_of (at_port 2) 3 ∷ [])
    ≡ row_of (at_port 2) 3 ∷ row_of (at_port 256) 1 ∷ row_of everything 2 ∷ []
