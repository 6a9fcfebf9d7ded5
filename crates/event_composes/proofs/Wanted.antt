-- The change to all that is kept for a switch is that to what the setting wants there.
use Rattle.std.proofs.Common.{◌≡◌, ℕ, zero, suc, ◌<◌, true, List, [], ◌∷◌, length, Some, refl, arith, eqb-true}
use Rattle.std.specs.Prelude.{◌==◌, IfOk, IsPermutation, Err, Ok, Result, slice_get}
use Rattle.agreement.specs.Entries.{entries_of}
use Rattle.agreement.specs.declared.state.Setting.{Setting}
use Rattle.composed_tables.specs.Composing.{ComposedOf, IsGood, IsOf}
use Rattle.composed_tables.proofs.After.{good-no-twins}
use Rattle.install_plan.specs.declared.written.Written.{Written}
use Rattle.switch_meaning.specs.Keys.{installed}
use Rattle.switch_meaning.specs.declared.entry.PhysEntry.{PhysEntry}
use Rattle.told_batches.specs.declared.change.Change.{Change}
use Rattle.machine_meaning.specs.Batches.{batch_between, coming, next_after, standing_after}
use Rattle.event_composes.specs.Sources.{IsChangeTo}
use Rattle.event_composes.proofs.SameWanted.{change_permuted}
use Rattle.event_composes.proofs.ToldChanges.{wanted_in_range, wanted_once}

-- an item is there
pub record IsThere {A : Type 0} (xs : List A) (n : ℕ) : Type 0 where
  pub item : A
  pub at : slice_get xs n ≡ Some item

pub is_there : {A : Type 0} (xs : List A) (n : ℕ) → n < length xs → IsThere xs n
is_there [] n h = absurd (omega arith)
is_there (x ∷ xs) zero h = record { item = x; at = refl }
is_there (x ∷ xs) (suc n) h =
    let less : n < length xs = omega arith in
    let r = is_there xs n less in
    record { item = r.item; at = r.at }

-- nothing is in a list of no length
pub nothing_in : {A : Type 0} (xs : List A) → (length xs == 0) ≡ true → xs ≡ []
nothing_in [] h = refl
nothing_in (x ∷ xs) h = let e = eqb-true (length (x ∷ xs)) 0 h in absurd (omega arith)

module _ (t : Setting) (c : ComposedOf) (n : ℕ) (good : IsGood t) (of : IsOf t c) (lt : n < length c.tables)
    (others : List PhysEntry) (same : IsPermutation (installed (entries_of t n)) others) where
  pub whole_change : {E : Type 0} (next : ℕ) (stood : List Written) (r : Result Change E)
      → IfOk r (λ k. k.batch ≡ batch_between next stood others)
      → IfOk r (λ k. k.standing ≡ standing_after next stood others)
      → IfOk r (λ k. k.next ≡ next_after next (coming next stood others))
      → IfOk r (λ k. IsChangeTo k next stood (installed (entries_of t n)))
  whole_change next stood (Ok k) batch standing after =
      let x = is_there c.tables n lt in
      let none = good-no-twins t good n in
      let has = of.tables n x.item x.at in
      change_permuted (installed (entries_of t n)) others (wanted_once (entries_of t n) none x.item has)
      (wanted_in_range (entries_of t n) none x.item has) same k next stood
      (record { batch = batch; standing = standing; next_is = after })
  whole_change next stood (Err e) batch standing after = tt
