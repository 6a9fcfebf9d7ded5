-- The rule of the lock, which each step keeps.
use Rattle.std.specs.Prelude.{◌≡◌, ℕ, ◌/◌, ◌%◌, ◌≤◌, true, List, [], ◌∷◌, length, slice_index, Option, Some, ⊤}
use mathlib.Core.Option.{some, none}
use mathlib.Core.Option as maybe
use mathlib.Core.List.{IsPrefix}
use lib.ListN.{get_elem?}
use Rattle.atomic_table.specs.Table.{State, Me}
use Rattle.policy_lock.specs.declared.machine.Machine.{Ghosts}
use Rattle.policy_lock.specs.declared.held.Held.{Held}
use Rattle.policy_lock.specs.declared.view.Entry.{Entry}
use Rattle.policy_lock.specs.declared.view.Pass.{Pass}
use Rattle.policy_lock.specs.declared.view.View.{View}
use Rattle.policy_lock.specs.History.{IsLegal, calls_by}
use Rattle.policy_lock.specs.Locked.{Stands}

-- which view has a number that was given, and none for the others
abbrev pub Roster : Type 0
Roster = List ℕ → maybe.Option ℕ

module _ {E R S : Type 0} (start : S) (log : List (Entry E R)) (roster : Roster) (j : ℕ) where
  -- the pass is true of the history, and its number is the view j's, as are those that it can still give
  abbrev pub Known : Pass E R S → Type 0
  Known p = (p.start ≡ Some start) × IsPrefix p.seen log × (calls_by p.number log ≡ calls_by p.number p.seen)
      × (roster p.number ≡ some j) × ((k : ℕ) → p.children ≤ k → roster (k ∷ p.number) ≡ none)

  -- each of these passes is
  abbrev pub AllKnown : List (Pass E R S) → Type 0
  AllKnown [] = ⊤
  AllKnown (p ∷ ps) = Known p × AllKnown ps

  -- what the view j says is true of the history
  abbrev pub Knows : View E R S → Type 0
  Knows v = IsPrefix v.pass.seen log × IsPrefix v.told log × (v.seated ≡ true → Known v.pass) × AllKnown v.gathered

module _ {E R S : Type 0} where
  -- the view j may hold the lock whose word is this: it is the one holder, a seat, and has seen the whole history
  abbrev pub IsHolder : ℕ → List (Entry E R) → ℕ → ℕ → View E R S → Type 0
  IsHolder word log holder j v = (word % 2 ≡ 1) × (j ≡ holder) × (v.pass.seen ≡ log) × (v.seated ≡ true)

module _ {M E R S : Type 0} (g : Ghosts M E R S) where
  -- the words, slots and views of the table
  abbrev pub Lock : Type 0
  Lock = State (Option (Held M E R S g)) (View E R S)

  -- a token's view, and the slots that it holds
  abbrev pub Sat : Type 0
  Sat = Me (Option (Held M E R S g)) (View E R S)

  -- One history. The word is twice its length, and one more while a seat holds the value, which else is at home
  pub record Kept (start : S) (s : Lock) : Type 0 where
    pub log : List (Entry E R)
    pub roster : Roster
    pub holder : ℕ
    pub one_word : length s.words ≡ 1
    pub legal : IsLegal g start log
    pub word_is : slice_index s.words 0 / 2 ≡ length log
    pub each_seat : (j : ℕ) (v : View E R S) → get_elem? s.views j ≡ some v → Knows start log roster j v
    -- a number that was not given has no entry, and none below it was given
    pub unborn : (n : List ℕ) → roster n ≡ none → calls_by n log ≡ []
    pub parents : (n : List ℕ) (k : ℕ) → roster n ≡ none → roster (k ∷ n) ≡ none
    pub out : (j : ℕ) (v : View E R S) → get_elem? s.views j ≡ some v → v.holds ≡ true
        → IsHolder (slice_index s.words 0) log holder j v
    pub busy : slice_index s.words 0 % 2 ≡ 1 → (v : View E R S) × (get_elem? s.views holder ≡ some v) × (v.holds ≡ true)
        × (v.seated ≡ true)
    pub home : slice_index s.words 0 % 2 ≡ 0 → (x : Held M E R S g) × (get_elem? s.homes 0 ≡ some (some (Some x)))
        × Stands g start x.boxed.value log
