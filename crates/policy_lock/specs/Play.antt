-- What each step on the lock's word tells its caller.
use Rattle.std.specs.Prelude.{◌≡◌, ◌≢◌, ℕ, ◌*◌, ◌/◌, ◌≤◌, true, false, List, [], ◌∷◌, ◌++◌, length, Option, Some, None}
use mathlib.Core.List.{IsPrefix}
use Rattle.atomic_table.specs.Table.{Step}
use Rattle.policy_lock.specs.declared.machine.Machine.{Ghosts}
use Rattle.policy_lock.specs.declared.held.Held.{Held}
use Rattle.policy_lock.specs.declared.view.Entry.{Entry}
use Rattle.policy_lock.specs.declared.view.View.{View}
use Rattle.policy_lock.specs.History.{after, IsLegal, entry, calls_by}
use Rattle.policy_lock.specs.Locked.{Stands}
use Rattle.policy_lock.specs.Look.{WasAsLong}
use Rattle.policy_lock.specs.View.{heard, took, let_go}
use Rattle.policy_lock.specs.Rule.{Sat}

module _ {M E R S : Type 0} (g : Ghosts M E R S) where
  -- the entry that the holder's event makes
  abbrev pub made : S → View E R S → E → Entry E R
  made s v e = entry v.pass.number e (g.reply (after g s v.pass.seen) e)

  -- the holder has committed the event, and holds no longer
  abbrev pub added : S → View E R S → E → View E R S
  added s v e = record v { pass = record v.pass { seen = v.pass.seen ++ made s v e ∷ [] }; holds = false }

  -- a take, which wins where it finds the word that it expects
  abbrev pub Takes : Step (Option (Held M E R S g)) → Sat g → ℕ → Sat g → Type 0
  Takes st m r m' = (r ≢ st.first → m' ≡ m)
      × (r ≡ st.first → (s : S) × (x : Held M E R S g) × (log : List (Entry E R)) × (m.0.pass.start ≡ Some s)
      × (m' ≡ (took log m.0, (0, Some x) ∷ m.1)) × Stands g s x.boxed.value log × (st.first ≡ 2 * length log)
      × IsLegal g s log × IsPrefix m.0.pass.seen log
      × (calls_by m.0.pass.number log ≡ calls_by m.0.pass.number m.0.pass.seen))

  -- a commit of the event that the value in hand stored last
  abbrev pub Commits : Step (Option (Held M E R S g)) → Sat g → ℕ → Sat g → Type 0
  Commits st m r m' = (s : S) (x : Held M E R S g) (old : List E) (e : E) → m.0.pass.start ≡ Some s
      → m.1 ≡ (0, Some x) ∷ [] → x.boxed.value.events.items ≡ old ++ e ∷ [] → m' ≡ (added s m.0 e, [])

  abbrev pub GivesBack : Step (Option (Held M E R S g)) → Sat g → ℕ → Sat g → Type 0
  GivesBack st m r m' = m' ≡ (let_go m.0, [])

  -- a look: what the seat has seen is legal and no longer than the history, and the numbers that it can still give have
  -- no entry in it
  abbrev pub Looks : Step (Option (Held M E R S g)) → Sat g → ℕ → Sat g → Type 0
  Looks st m r m' = (m' ≡ m) × (length m.0.pass.seen ≤ r / 2)
      × (m.0.seated ≡ true → (k : ℕ) → m.0.pass.children ≤ k → calls_by (k ∷ m.0.pass.number) m.0.pass.seen ≡ [])
      × ((s : S) → m.0.seated ≡ true → m.0.pass.start ≡ Some s
      → IsLegal g s m.0.pass.seen × WasAsLong g s m.0.pass (r / 2))

  -- a look at which the seat takes in what it was told
  abbrev pub Hears : Step (Option (Held M E R S g)) → Sat g → ℕ → Sat g → Type 0
  Hears st m r m' = (m' ≡ (heard m.0, m.1)) × IsPrefix m.0.pass.seen m'.0.pass.seen × IsPrefix m.0.told m'.0.pass.seen
      × (calls_by m.0.pass.number m'.0.pass.seen ≡ calls_by m.0.pass.number m.0.pass.seen)

  -- the seat of the view v has taken the lock, whose word was this, and x is out of the slot
  pub record HasTaken (v : View E R S) (word : ℕ) (x : Held M E R S g) (m : Sat g) : Type 0 where
    pub start : S
    pub log : List (Entry E R)
    pub starts : v.pass.start ≡ Some start
    pub me : m ≡ (took log v, (0, None) ∷ [])
    pub stands : Stands g start x.boxed.value log
    pub word_is : word ≡ 2 * length log
    pub legal : IsLegal g start log
    pub later : IsPrefix v.pass.seen log
    pub calls : calls_by v.pass.number log ≡ calls_by v.pass.number v.pass.seen
