-- What is to stand on each switch, and how it changes switch by switch.
use Rattle.std.specs.Prelude.{◌≡◌, ◌≢◌, ℕ, ◌<◌, ◌≤◌, Bool, Some, List, [], ◌∷◌, if◌then◌else◌, slice_get, take}
use Rattle.exact_gate.specs.declared.delta.GateDelta.{GateDelta}
use Rattle.install_plan.specs.Tables.{IsBatch, after}
use Rattle.install_plan.specs.declared.written.Batch.{Batch}
use Rattle.install_plan.specs.declared.written.Written.{Written}
use Rattle.switch_meaning.specs.declared.entry.PhysEntry.{PhysEntry}
use Rattle.switch_tables.specs.Tables.{CanGoBack, HasHad, HasNow, IsKept, IsTurned, IsUndone, SwitchTableOf}
use Rattle.switch_tables.specs.declared.tables.SwitchBatch.{SwitchBatch}

-- each switch has these entries
abbrev pub HaveNow : (ℕ → List PhysEntry) → List SwitchTableOf → Type 0
HaveNow entries tables = (n : ℕ) (x : SwitchTableOf) → slice_get tables n ≡ Some x → HasNow (entries n) x

-- each switch had them
abbrev pub HaveHad : (ℕ → List PhysEntry) → List SwitchTableOf → Type 0
HaveHad entries tables = (n : ℕ) (x : SwitchTableOf) → slice_get tables n ≡ Some x → HasHad (entries n) x

-- the next cookie after those of some entries
abbrev pub after_all : ℕ → List Written → ℕ
after_all next [] = next
after_all next (w ∷ ws) = after_all (after next) ws

-- the next cookie after some switches: what isn't written takes none
abbrev pub cookie_after : ℕ → List SwitchBatch → ℕ
cookie_after next [] = next
cookie_after next (b ∷ bs) = cookie_after (if b.up then after_all next b.batch.adds else next) bs

-- whether the batch is written
abbrev pub up_of : SwitchBatch → Bool
up_of b = b.up

-- on the switch of this number these entries went and came
abbrev pub IsTurnedAt : ℕ → GateDelta → ℕ → List SwitchTableOf → List SwitchTableOf → Batch → Type 0
IsTurnedAt n d next before now batch =
    (x y : SwitchTableOf) → slice_get before n ≡ Some x → slice_get now n ≡ Some y
    → IsTurned d.gone d.come next x y batch

-- it is as it was
abbrev pub IsKeptAt : ℕ → List SwitchTableOf → List SwitchTableOf → Type 0
IsKeptAt n before now = (x y : SwitchTableOf) → slice_get before n ≡ Some x → slice_get now n ≡ Some y → IsKept x y

-- the last change of it was taken back
abbrev pub IsUndoneAt : ℕ → List SwitchTableOf → List SwitchTableOf → Type 0
IsUndoneAt n before now = (x y : SwitchTableOf) → slice_get before n ≡ Some x → slice_get now n ≡ Some y → IsUndone x y

-- it can be made what it was
abbrev pub CanGoBackAt : ℕ → List SwitchTableOf → List SwitchTableOf → Type 0
CanGoBackAt n before now = (x y : SwitchTableOf) → slice_get before n ≡ Some x → slice_get now n ≡ Some y
    → CanGoBack x y

-- all others are the same
abbrev pub OthersStay : ℕ → List SwitchTableOf → List SwitchTableOf → Type 0
OthersStay n before now = (m : ℕ) → m ≢ n → slice_get now m ≡ slice_get before m

-- of the switches below a number each changed so, with cookies from where those of the ones before it end
abbrev pub AreTurned : ℕ → List GateDelta → ℕ → List SwitchTableOf → List SwitchTableOf → List SwitchBatch → Type 0
AreTurned count deltas next before now batches =
    (n : ℕ) (d : GateDelta) (b : SwitchBatch) → n < count → slice_get deltas n ≡ Some d → slice_get batches n ≡ Some b
    → IsTurnedAt n d (cookie_after next (take n batches)) before now b.batch

-- all are as they were
abbrev pub AreKept : List SwitchTableOf → List SwitchTableOf → Type 0
AreKept before now = (n : ℕ) → IsKeptAt n before now

-- a change stopped after so many switches: those can be taken back, the others are as they were
pub record AreStopped (count : ℕ) (before now : List SwitchTableOf) : Type 0 where
  pub back : (n : ℕ) → n < count → CanGoBackAt n before now
  pub rest : (n : ℕ) → count ≤ n → IsKeptAt n before now

-- the batch of each switch is the difference of what stood and what stands, with cookies from where those before it end
abbrev pub AreBatches : ℕ → List SwitchTableOf → List SwitchTableOf → List SwitchBatch → Type 0
AreBatches next before now batches =
    (n : ℕ) (x y : SwitchTableOf) (b : SwitchBatch) → slice_get before n ≡ Some x → slice_get now n ≡ Some y
    → slice_get batches n ≡ Some b
    → IsBatch x.installed.now y.installed.now (cookie_after next (take n batches)) b.batch

-- what stands on each switch is what stood there
abbrev pub StandAsBefore : List SwitchTableOf → List SwitchTableOf → Type 0
StandAsBefore before now =
    (n : ℕ) (x y : SwitchTableOf) → slice_get before n ≡ Some x → slice_get now n ≡ Some y
    → y.installed.now ≡ x.installed.now
