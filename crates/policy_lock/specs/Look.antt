-- How long a history was.
use Rattle.std.specs.Prelude.{◌≡◌, ℕ, List, length}
use mathlib.Core.List.{IsPrefix}
use Rattle.policy_lock.specs.declared.machine.Machine.{Ghosts}
use Rattle.policy_lock.specs.declared.view.Entry.{Entry}
use Rattle.policy_lock.specs.declared.view.Pass.{Pass}
use Rattle.policy_lock.specs.History.{IsLegal, calls_by}

module _ {M E R S : Type 0} (g : Ghosts M E R S) where
  -- the history had n entries: it went on from what the seat of the pass has seen, with no call of that seat in between
  pub record WasAsLong (start : S) (p : Pass E R S) (n : ℕ) : Type 0 where
    pub log : List (Entry E R)
    pub legal : IsLegal g start log
    pub later : IsPrefix p.seen log
    pub calls : calls_by p.number log ≡ calls_by p.number p.seen
    pub long : length log ≡ n
