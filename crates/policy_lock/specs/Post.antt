-- What a post promises.
use Rattle.std.specs.Prelude.{◌≡◌, ℕ, ◌+◌, ◌≤◌, true, false, List, [], ◌∷◌, ◌++◌, length}
use mathlib.Core.List.{IsPrefix}
use Rattle.policy_lock.specs.declared.machine.Machine.{Ghosts}
use Rattle.policy_lock.specs.declared.view.Entry.{Entry}
use Rattle.policy_lock.specs.declared.view.Pass.{Pass}
use Rattle.policy_lock.specs.History.{after, entry, calls_by}
use Rattle.policy_lock.specs.Seat.{IsLater}

module _ {M E R S : Type 0} (g : Ghosts M E R S) (start : S) where
  -- The seat of the pass v posted the event, was answered place and reply, and has the pass w since. The count of steps
  -- went from a to b
  pub record IsPosted (v w : Pass E R S) (event : E) (place : ℕ) (reply : R) (a b : ℕ) : Type 0 where
    -- the history after which the event was done
    pub before : List (Entry E R)
    pub later : IsPrefix v.seen before
    -- the seat made no call in between
    pub calls : calls_by v.number before ≡ calls_by v.number v.seen
    pub placed : place ≡ length w.seen
    pub replied : reply ≡ g.reply (after g start before) event
    pub idle : g.idle (after g start before) event ≡ true → w.seen ≡ before
    pub entered : g.idle (after g start before) event ≡ false → w.seen ≡ before ++ entry v.number event reply ∷ []
    pub bounded : b ≤ a + g.most (after g start before) event

  -- The event was not committed for want of memory, after the history that the seat has seen since
  pub record IsUncommitted (v w : Pass E R S) (event : E) (a b : ℕ) : Type 0 where
    pub later : IsLater v w
    pub bounded : b ≤ a + g.most (after g start w.seen) event
