-- What is true of every table.
use Rattle.std.specs.Prelude.{◌≡◌, ◌+◌, ◌<◌, ◌^◌, ◌==◌, false, List, [], ◌∷◌, map}
use Rattle.std.specs.List.{AllByRecursion, IsDistinct}
use Rattle.of10_match.specs.Normal.{IsNormal}
use Rattle.of10_match.specs.Wildcards.{normal_of}
use Rattle.of10_actions.specs.Actions.{AreInRange}
use Rattle.member_table.specs.Entries.{identity_of, is_near}
use Rattle.member_table.specs.Tables.{TableOf, rank_written}
use Rattle.member_table.specs.declared.entry.Entry.{Entry}

-- two entries don't have equal ranks and matches that overlap
abbrev pub AreApart : Entry → Entry → Type 0
AreApart d e = is_near (identity_of e) (identity_of d) ≡ false

-- each two of these are so
abbrev pub EachPair : (Entry → Entry → Type 0) → List Entry → Type 0
EachPair R [] = Unit {0}
EachPair R (e ∷ es) = AllByRecursion (R e) es × EachPair R es

-- an entry's match and rank are those of its match and priority as they are written, the match is normal, and the
-- numbers of its actions are in their ranges
pub record IsAsWritten (e : Entry) : Type 0 where
  pub read : e.normal ≡ normal_of e.raw
  pub ranked : e.rank ≡ rank_written e.raw e.priority
  pub normal : IsNormal e.normal
  pub actions : AreInRange e.actions

-- numbers are from 1 on, below the next one, and each stands once; one more than the next one, and so two more than
-- any that was given, fits in 64 bits; entries are as they are written; no two entries of one rank overlap
pub record IsSound (t : TableOf) : Type 0 where
  pub begun : 0 < t.next
  pub given : AllByRecursion (λ e. (0 < e.serial) × (e.serial < t.next)) t.entries
  pub fits : t.next + 1 < 2 ^ 64
  pub written : AllByRecursion IsAsWritten t.entries
  pub once : IsDistinct ◌==◌ (map (λ e. e.serial) t.entries)
  pub apart : EachPair AreApart t.entries
