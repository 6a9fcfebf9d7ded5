-- Counts, computed.
use Rattle.std.specs.Prelude.{◌≡◌, ℕ, List, [], ◌∷◌, codes, refl}
use Rattle.std.specs.List.{flat_map}
use Rattle.replay_report.specs.Takings.{as_line}
use Rattle.replay_report.specs.MadeCounts.{counted, is_accepted, lines_with, nothing}

-- a message, and the lines that are reported where it is accepted, and where it is denied
abbrev pub a_message : List ℕ
a_message = codes "from mon@v1 010e0048"

abbrev pub entries_go : List ℕ
entries_go = flat_map as_line (codes "to mon@v1 0101" ∷ codes "to s1 010e" ∷ codes "to s1 0112" ∷ [])

abbrev pub denied : List ℕ
denied = flat_map as_line (codes "deny ctl=mon vsw=v1 xid=1 rule=G4 field=tp_src" ∷ codes "to mon@v1 0101" ∷ [])

pub record CountsAreSo : Type 0 where
  pub accepted : counted nothing a_message entries_go ≡ record { accepted = 1; sent = 2 }
  pub denied : counted nothing a_message denied ≡ record { accepted = 0; sent = 0 }
  pub comes_up : counted nothing (codes "up s1") entries_go ≡ record { accepted = 0; sent = 2 }
  pub quiet : counted nothing a_message [] ≡ record { accepted = 1; sent = 0 }

pub counts_are_so : CountsAreSo
unfolding counted is_accepted lines_with
counts_are_so = record { accepted = refl; denied = refl; comes_up = refl; quiet = refl }
