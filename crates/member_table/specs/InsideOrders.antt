-- Entries in the order of insertion, found by serial number and by identity.
use Rattle.std.specs.Prelude.{◌≡◌, ℕ, ◌==◌, List, [], ◌∷◌, ◌++◌, Option, Some, None, map, filter_map, find, option_map}
use Rattle.std.specs.Prelude.{nat_eq, position, remove, slice_set}
use Rattle.std.specs.List.{IsDistinct}
use Rattle.member_table.specs.Entries.{has_serial, identity_of, is_at, same_identity}
use Rattle.member_table.specs.declared.entry.Entry.{Entry}
use Rattle.member_table.specs.declared.entry.Identity.{Identity}

-- the entries, and how many more fit without memory
pub record OrderOf : Type 0 where
  pub entries : List Entry
  pub room : ℕ

-- the entries of these numbers, in the order of the numbers
abbrev pub listed : (ℕ → Option Entry) → List ℕ → List Entry
listed entry serials = filter_map entry serials

-- what an entry's number and what its identity finds are these entries, each of which stands once
pub record IsIndexed (entry : ℕ → Option Entry) (number : Identity → Option ℕ) (es : List Entry) : Type 0 where
  pub found : (s : ℕ) → entry s ≡ find (has_serial s) es
  pub named : (k : Identity) → number k ≡ option_map (λ e. e.serial) (find (is_at k) es)
  pub serials_once : IsDistinct ◌==◌ (map (λ e. e.serial) es)
  pub identities_once : IsDistinct same_identity (map identity_of es)

-- the numbers are those of the entries, in their order, and the maps find the entries
pub record IsInStep (serials : List ℕ) (entry : ℕ → Option Entry) (number : Identity → Option ℕ) : Type 0 where
  pub numbers : serials ≡ map (λ e. e.serial) (listed entry serials)
  pub indexed : IsIndexed entry number (listed entry serials)

-- where a number stands, if it is given
abbrev pub place_in : List ℕ → Option ℕ → Option ℕ
place_in serials None = None
place_in serials (Some s) = position (nat_eq s) serials

-- numbers with a new one at a place, or last
abbrev pub numbered_at : Option ℕ → ℕ → List ℕ → List ℕ
numbered_at None serial serials = serials ++ serial ∷ []
numbered_at (Some i) serial serials = slice_set serials i serial

-- numbers with a new one in the place of another, or last
abbrev pub numbered : Option ℕ → ℕ → List ℕ → List ℕ
numbered replaced serial serials = numbered_at (place_in serials replaced) serial serials

-- numbers without the one at a place
abbrev pub unnumbered_at : Option ℕ → List ℕ → List ℕ
unnumbered_at None serials = serials
unnumbered_at (Some i) serials = remove serials i

-- numbers without one
abbrev pub unnumbered : ℕ → List ℕ → List ℕ
unnumbered serial serials = unnumbered_at (position (nat_eq serial) serials) serials
