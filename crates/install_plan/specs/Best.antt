-- The entry that a switch uses for a header, of those that stand there.
use Rattle.std.specs.Prelude.{◌≡◌, ℕ, Bool, true, false, ◌==◌, ◌&&◌, ◌||◌, nat_lt, List, Option, MatchOption}
use Rattle.std.specs.List.{Contains, list_any}
use Rattle.of10_match.specs.Fields.{HeaderOf}
use Rattle.of10_match.specs.Matching.{holds, is_one_header}
use Rattle.of10_match.specs.Numbers.{rank_by}
use Rattle.switch_meaning.specs.declared.entry.PhysEntry.{PhysEntry}
use Rattle.install_plan.specs.declared.written.Written.{Written}

-- by the standard, entries without wildcards come before all others
abbrev pub rank_of : PhysEntry → ℕ
rank_of e = rank_by (is_one_header e.m) e.priority

-- the entry holds the header
abbrev pub is_holding : HeaderOf → Written → Bool
is_holding h w = holds w.entry.m h

-- the first has a higher rank, or the same one and a lesser cookie
abbrev pub is_above : Written → Written → Bool
is_above v w = nat_lt (rank_of w.entry) (rank_of v.entry) ||
    ((rank_of w.entry == rank_of v.entry) && nat_lt v.cookie w.cookie)

-- it stands and holds the header, and none that holds it is above it
pub record IsFirst (h : HeaderOf) (standing : List Written) (w : Written) : Type 0 where
  pub stands : Contains standing w
  pub holds_it : is_holding h w ≡ true
  pub none_above : list_any (λ v. is_holding h v && is_above v w) standing ≡ false

-- the first of those that hold the header; none where none holds it
abbrev pub IsBest : HeaderOf → List Written → Option Written → Type 0
IsBest h standing best = MatchOption best (list_any (is_holding h) standing ≡ false) (IsFirst h standing)
