-- Whose time is up (idle_timeout and hard_timeout of section 5.3.3 of the standard).
use Rattle.std.specs.Prelude.{ℕ, ◌+◌, ◌==◌, ◌&&◌, not, nat_le, Bool, List, map, filter, IsPermutation, IsSorted}
use Rattle.std.specs.Ordering.{nat_cmp}
use Rattle.member_table.specs.Tables.{TableOf}
use Rattle.member_table.specs.declared.entry.Entry.{Entry}

-- the numbers of the entries that pass a test, in their order
abbrev pub serials_of : (Entry → Bool) → List Entry → List ℕ
serials_of test es = map (λ e. e.serial) (filter test es)

-- there is a timeout, and it has passed
abbrev pub has_passed : ℕ → ℕ → ℕ → Bool
has_passed since timeout now = not (timeout == 0) && nat_le (since + timeout) now

-- the entry has stood for its hard timeout
abbrev pub is_hard_due : ℕ → Entry → Bool
is_hard_due now e = has_passed e.added e.hard now

-- its count hasn't risen for its idle timeout, and its hard timeout hasn't passed
abbrev pub is_idle_due : ℕ → Entry → Bool
is_idle_due now e = not (is_hard_due now e) && has_passed e.last e.idle now

-- a table without the entries that have stood for their hard timeouts at a moment
abbrev pub without_expired : ℕ → TableOf → TableOf
without_expired now t = record t { entries = filter (λ e. not (is_hard_due now e)) t.entries }

-- the same numbers, rising
pub record ListsRising (numbers listed : List ℕ) : Type 0 where
  pub same : IsPermutation numbers listed
  pub rising : IsSorted nat_cmp listed
