-- What a change makes of a table, and when it can be made.
use Rattle.std.specs.Prelude.{◌≡◌, ℕ, ◌+◌, ◌<◌, ◌^◌, ◌==◌, ◌||◌, ◌&&◌, not, Bool, false, List, [], ◌∷◌, map, filter}
use Rattle.std.specs.Prelude.{find, Option, Some, None, is_some, IfSome, option_map, if◌then◌else◌}
use Rattle.std.specs.List.{list_any, AllByRecursion}
use Rattle.of10_actions.specs.Actions.{AreInRange}
use Rattle.member_table.specs.Entries.{identity_of, is_at, is_near, put}
use Rattle.member_table.specs.Sound.{IsAsWritten}
use Rattle.member_table.specs.Tables.{TableOf, Held, with_actions}
use Rattle.member_table.specs.declared.change.Change.{Change}
use Rattle.member_table.specs.declared.change.Modified.{Modified}
use Rattle.member_table.specs.declared.entry.Entry.{Entry}

-- the number is one of these
abbrev pub is_among : List ℕ → ℕ → Bool
is_among numbers n = list_any (λ k. k == n) numbers

-- the number is this one
abbrev pub is_number : Option ℕ → ℕ → Bool
is_number None n = false
is_number (Some k) n = k == n

-- the number of the entry whose place the one that comes takes
abbrev pub replaced : Option Entry → List Entry → Option ℕ
replaced None es = None
replaced (Some new) es = option_map (λ e. e.serial) (find (is_at (identity_of new)) es)

-- an entry that doesn't go, or whose place is taken
abbrev pub stays : List ℕ → Option ℕ → Entry → Bool
stays removed place e = not (is_among removed e.serial) || is_number place e.serial

-- an entry with its new actions, if it gets any
abbrev pub changed_by : List Modified → Entry → Entry
changed_by [] e = e
changed_by (m ∷ ms) e = if m.serial == e.serial then with_actions m.actions e else changed_by ms e

-- entries with the one that comes: in the place of the identical one, else last
abbrev pub with_added : Option Entry → List Entry → List Entry
with_added None es = es
with_added (Some new) es = put new es

-- the table after a change
abbrev pub committed : TableOf → Change → TableOf
committed t c = record t {
  entries =
      with_added c.added
      (map (changed_by c.modified) (filter (stays c.removed (replaced c.added t.entries)) t.entries));
  next = (if is_some c.added then t.next + 1 else t.next);
}

-- an entry can be added: it has the next number, it is as it is written, it overlaps none of its rank that stays
-- but the identical one, and there is memory for it
pub record CanAdd (held : Held) (removed : List ℕ) (new : Entry) : Type 0 where
  pub serial : new.serial ≡ held.table.next
  pub more : held.table.next + 2 < 2 ^ 64
  pub written : IsAsWritten new
  pub apart : list_any (λ e. stays removed (replaced (Some new) held.table.entries) e &&
      (is_near (identity_of new) (identity_of e) && not (is_at (identity_of new) e))) held.table.entries ≡ false
  pub room : 0 < held.room

-- other actions, with their numbers in their ranges
abbrev pub IsInRange : Modified → Type 0
IsInRange m = AreInRange m.actions

-- a change can be made: its entry can be added, and its actions are in their ranges
pub record CanCommit (held : Held) (c : Change) : Type 0 where
  pub added : IfSome c.added (CanAdd held c.removed)
  pub modified : AllByRecursion IsInRange c.modified
