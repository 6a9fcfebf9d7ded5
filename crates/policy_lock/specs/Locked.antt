-- What the locked value stands for, and what a post does to it.
use Rattle.std.specs.Prelude.{◌≡◌, ℕ, ◌+◌, ◌-◌, ◌<◌, ◌≤◌, take, drop, true, false, List, [], ◌∷◌, ◌++◌, length, Result}
use Rattle.std.specs.Prelude.{Ok, Err}
use Rattle.cv_io.specs.declared.memory.Memory.{Memory}
use Rattle.policy_lock.specs.declared.machine.Machine.{Ghosts}
use Rattle.policy_lock.specs.declared.locked.Locked.{Locked}
use Rattle.policy_lock.specs.declared.after.After.{After}
use Rattle.policy_lock.specs.declared.after.After.TheVariants.{Events, Waiting, Past}
use Rattle.policy_lock.specs.declared.locked.Applied.{Applied}
use Rattle.policy_lock.specs.declared.locked.Applied.TheVariants.{Idle, Done}
use Rattle.policy_lock.specs.declared.view.Entry.{Entry}
use Rattle.policy_lock.specs.History.{after, entry, events_of}

module _ {M E R S : Type 0} (g : Ghosts M E R S) where
  -- the locked value stands for this history: the checkpoint for its past, and the stored events for the rest
  pub record Stands (start : S) (x : Locked M E R S g) (log : List (Entry E R)) : Type 0 where
    pub past : List (Entry E R)
    pub recent : List (Entry E R)
    pub parts : log ≡ past ++ recent
    pub old : length past ≡ x.before
    pub begins : g.meaning x.checkpoint ≡ after g start past
    pub stored : x.events.items ≡ events_of recent

  -- whatever history the first stands for, the second does
  abbrev pub StandsAs : Locked M E R S g → Locked M E R S g → Type 0
  StandsAs x y = (s : S) (log : List (Entry E R)) → Stands s x log → Stands s y log

  -- the same checkpoint, after as many entries
  abbrev pub SameCheckpoint : Locked M E R S g → Locked M E R S g → Type 0
  SameCheckpoint x y = (y.checkpoint ≡ x.checkpoint) × (y.before ≡ x.before)

  -- the machine that was there became the checkpoint
  abbrev pub NewCheckpoint : Locked M E R S g → Locked M E R S g → Type 0
  NewCheckpoint x y = (g.meaning y.checkpoint ≡ g.meaning x.machine) × (y.before ≡ x.before + length x.events.items)

  -- the count of steps went from a to b, which the event may cost after the history
  abbrev pub Costs : Locked M E R S g → E → ℕ → ℕ → Type 0
  Costs x e a b = (s : S) (log : List (Entry E R)) → Stands s x log → b ≤ a + g.most (after g s log) e

  -- the event is idle after the history, and this is its reply
  abbrev pub IsIdle : Locked M E R S g → E → R → Type 0
  IsIdle x e r = (s : S) (log : List (Entry E R)) → Stands s x log
      → (g.idle (after g s log) e ≡ true) × (r ≡ g.reply (after g s log) e)

  -- the event was stored, and is the next entry, under whichever number
  abbrev pub Stores : Locked M E R S g → E → R → Locked M E R S g → Type 0
  Stores x e r y = ((old : List E) × (y.events.items ≡ old ++ e ∷ []))
      × ((s : S) (log : List (Entry E R)) → Stands s x log
      → (g.idle (after g s log) e ≡ false) × (r ≡ g.reply (after g s log) e)
      × ((n : List ℕ) → Stands s y (log ++ entry n e r ∷ [])))

  -- the event was answered, or stored, or nothing changed for want of memory
  abbrev pub IsApplied : Locked M E R S g → E → Locked M E R S g → Result (Applied R) Memory → Type 0
  IsApplied x e y (Ok (Idle r)) = StandsAs x y × IsIdle x e r
  IsApplied x e y (Ok (Done r)) = Stores x e r y
  IsApplied x e y (Err m) = StandsAs x y

  -- what is stored after a place: at most 256 events; none; or nothing, since the stored events begin later
  abbrev pub IsStoredAfter : Locked M E R S g → ℕ → After E → Type 0
  IsStoredAfter x place (Events list) = (x.before ≤ place) × (list ≡ take 256 (drop (place - x.before) x.events.items))
      × (0 < length list)
  IsStoredAfter x place (Waiting at) = (at ≡ place) × (x.before + length x.events.items ≤ place)
  IsStoredAfter x place (Past first) = (first ≡ x.before) × (place < first)
