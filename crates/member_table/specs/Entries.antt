-- Entries of a member's table: what tells them apart, and lists of them in the order of insertion.
use Rattle.std.specs.Prelude.{ℕ, Bool, ◌==◌, ◌&&◌, List, [], ◌∷◌, if◌then◌else◌}
use Rattle.of10_match.specs.Matching.{overlaps}
use Rattle.of10_match.specs.Same.{same_match}
use Rattle.member_table.specs.declared.entry.Entry.{Entry}
use Rattle.member_table.specs.declared.entry.Identity.{Identity}

-- an entry's rank and match
abbrev pub identity_of : Entry → Identity
identity_of e = record { rank = e.rank; normal = e.normal }

-- equal ranks and equal matches
abbrev pub same_identity : Identity → Identity → Bool
same_identity a b = (a.rank == b.rank) && same_match a.normal b.normal

-- the entry has the number
abbrev pub has_serial : ℕ → Entry → Bool
has_serial serial e = serial == e.serial

-- the entry has the identity
abbrev pub is_at : Identity → Entry → Bool
is_at identity e = same_identity identity (identity_of e)

-- entries with a new one: in the place of the identical entry, else last
abbrev pub put : Entry → List Entry → List Entry
put new [] = new ∷ []
put new (e ∷ es) = if is_at (identity_of new) e then new ∷ es else e ∷ put new es

-- equal ranks, and matches that overlap
abbrev pub is_near : Identity → Identity → Bool
is_near a b = (a.rank == b.rank) && overlaps a.normal b.normal
