-- The entries that are handed over for a switch, and those of them that stand there.
use Rattle.std.specs.Prelude.{◌≡◌, ℕ, ◌+◌, ◌-◌, ◌^◌, ◌≤◌, ◌⊎◌, min, Bool, List, [], ◌∷◌, map, count_by}
use Rattle.std.specs.List.{AllByRecursion, Contains}
use Rattle.std.specs.List.Sorted.{IsStrictlySortedBy}
use Rattle.std.specs.Ordering.{is_eq, ordering_then}
use Rattle.std.specs.declared.cmp.Ordering.{Ordering}
use Rattle.cv_io.specs.Leaves.{ancestry_cmp}
use Rattle.switch_meaning.specs.Batches.{difference, key_cmp}
use Rattle.switch_meaning.specs.Keys.{one_per_key}
use Rattle.switch_meaning.specs.declared.entry.Difference.{Difference}
use Rattle.switch_meaning.specs.declared.entry.PhysEntry.{PhysEntry}
use Rattle.install_plan.specs.declared.written.Batch.{Batch}
use Rattle.install_plan.specs.declared.written.Written.{Written}

-- the entries that were handed over, and those of them that stand on the switch, under their cookies
pub record TableOf : Type 0 where
  pub entries : List PhysEntry
  pub standing : List Written

-- the table as it is, and as it was when it was last kept
pub record InstalledOf : Type 0 where
  pub now : TableOf
  pub before : TableOf

-- the entry of a row
abbrev pub entry_of : Written → PhysEntry
entry_of w = w.entry

-- by rising key, and of one key by rising ancestry
abbrev pub place_cmp : PhysEntry → PhysEntry → Ordering
place_cmp d e = ordering_then (key_cmp d e) (ancestry_cmp d.ancestry e.ancestry)

-- the same key and ancestry
abbrev pub same_place : PhysEntry → PhysEntry → Bool
same_place d e = is_eq (place_cmp d e)

-- what stands is one of each key, with the smallest ancestry; both lists rise
pub record IsTable (t : TableOf) : Type 0 where
  pub rising : IsStrictlySortedBy place_cmp t.entries
  pub standing : map entry_of t.standing ≡ one_per_key t.entries

-- the second list has the entries of the first, and one more
abbrev pub Adds : PhysEntry → List PhysEntry → List PhysEntry → Type 0
Adds e xs ys = (test : PhysEntry → Bool) → count_by test ys ≡ count_by test xs + count_by test (e ∷ [])

-- each of the entries that go is there
abbrev pub AreThere : List PhysEntry → TableOf → Type 0
AreThere gone t = (test : PhysEntry → Bool) → count_by test gone ≤ count_by test t.entries

-- once some go, those that come have places of their own
abbrev pub AreApart : List PhysEntry → List PhysEntry → TableOf → Type 0
AreApart gone come t = (e : PhysEntry)
    → count_by (same_place e) t.entries + count_by (same_place e) come ≤ count_by (same_place e) gone + 1

-- where that is so, what was there and what came is what went and what is there
abbrev pub Exchanges : List PhysEntry → List PhysEntry → TableOf → TableOf → Type 0
Exchanges gone come old new =
    AreThere gone old → AreApart gone come old → (test : PhysEntry → Bool)
    → count_by test old.entries + count_by test come ≡ count_by test gone + count_by test new.entries

-- a number of 64 bits stands still at the greatest one
abbrev pub after : ℕ → ℕ
after n = min (n + 1) (2 ^ 64 - 1)

-- entries under cookies from a number on
abbrev pub numbered : ℕ → List PhysEntry → List Written
numbered next [] = []
numbered next (e ∷ es) = record { entry = e; cookie = next } ∷ numbered (after next) es

-- the batch without cookies
abbrev pub entries_in : Batch → Difference
entries_in b = record { deletes = map entry_of b.deletes; adds = map entry_of b.adds }

-- the batch is the difference of what stood and what stands; what is deleted goes under the cookies under which it
-- stood,
-- what is added comes under cookies from a number on, and what stands has the cookie that it had or one of these
pub record IsBatch (old new : TableOf) (next : ℕ) (b : Batch) : Type 0 where
  pub difference : entries_in b ≡ difference (map entry_of old.standing) (map entry_of new.standing)
  pub deleted : AllByRecursion (Contains old.standing) b.deletes
  pub added : b.adds ≡ numbered next (map entry_of b.adds)
  pub standing : AllByRecursion (λ (w : Written). Contains old.standing w ⊎ Contains b.adds w) new.standing
