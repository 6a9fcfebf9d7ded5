-- What stands on switches is what is installed of a setting's entries.
use Rattle.std.proofs.Common.{◌≡◌, ℕ, ◌<◌, ◌==◌, Bool, true, false, List, [], Some, length, map, set, refl, sym, ap}
use Rattle.std.proofs.Common.{subst, ◌∙◌, eqb-true}
use Rattle.std.specs.Prelude.{IsPermutation, slice_get}
use Rattle.std.proofs.lemmas.Option.{slice_get_within}
use Rattle.agreement.specs.Entries.{entries_of}
use Rattle.agreement.specs.declared.state.Setting.{Setting}
use Rattle.install_plan.specs.Tables.{IsTable, entry_of}
use Rattle.install_plan.specs.declared.written.Batch.{Batch}
use Rattle.install_plan.specs.declared.written.Written.{Written}
use Rattle.switch_meaning.specs.Keys.{installed}
use Rattle.switch_meaning.specs.declared.entry.PhysEntry.{PhysEntry}
use Rattle.switch_meaning.proofs.Items.{some_injective}
use Rattle.switch_tables.specs.Tables.{HasHad, HasNow, SwitchTableOf}
use Rattle.switch_tables.proofs.Switching.{stands-as-installed}
use Rattle.composed_tables.specs.Composing.{ComposedOf, IsGood, IsOf, IsStandingOf, IsWholeAt, WasOf}
use Rattle.composed_tables.proofs.After.{good-no-twins}
use Rattle.composed_tables.proofs.Pushing.{set-here, set-long, set-there}
use Rattle.composed_tables.proofs.Tests.{differ}

-- what holds of each switch holds of each where one was put in the place of another
each-set : (P : ℕ → SwitchTableOf → Type 0) (tables : List SwitchTableOf) (n : ℕ) (y : SwitchTableOf)
    → n < length tables → P n y
    → ((m : ℕ) (z : SwitchTableOf) → slice_get tables m ≡ Some z → P m z) → (m : ℕ) (z : SwitchTableOf)
    → slice_get (set tables n y) m ≡ Some z → P m z
each-set P tables n y lt here all m z at = by (m == n) refl
  where
    by : (b : Bool) → (m == n) ≡ b → P m z
    by true e =
        let same = eqb-true m n e in
        let is : y ≡ z = some_injective (sym (set-here tables n y lt)
        ∙ (ap (slice_get (set tables n y)) (sym same) ∙ at)) in
        subst (λ (k : ℕ). P k z) (sym same) (subst (λ (w : SwitchTableOf). P n w) is here)
    by false e = all m z (sym (set-there tables n y m (differ m n e)) ∙ at)

-- a switch that came up
pub whole-set : (tables : List SwitchTableOf) (n : ℕ) (x y : SwitchTableOf) (batch : Batch)
    → slice_get tables n ≡ Some x
    → ((entries : List PhysEntry) → HasNow entries x → HasNow entries y)
    → ((entries : List PhysEntry) → HasHad entries x → HasHad entries y)
    → batch.deletes ≡ [] → y.installed.now.standing ≡ batch.adds → IsTable y.installed.now
    → IsWholeAt n batch tables (set tables n y)
whole-set tables n x y batch at now had deletes standing table =
    let lt = slice_get_within tables n x at in
    let one : (z : SwitchTableOf) → slice_get (set tables n y) n ≡ Some z
    → y ≡ z = λ z to. some_injective (sym (set-here tables n y lt) ∙ to) in
    record {
      long = set-long tables n y;
      has = λ entries h. each-set (λ (k : ℕ) (z : SwitchTableOf). HasNow (entries k) z) tables n y lt
          (now (entries n) (h n x at)) h;
      had = λ entries h. each-set (λ (k : ℕ) (z : SwitchTableOf). HasHad (entries k) z) tables n y lt
          (had (entries n) (h n x at)) h;
      deletes = deletes;
      standing = λ z to. subst (λ (w : SwitchTableOf). w.installed.now.standing ≡ batch.adds) (one z to) standing;
      table = λ z to. subst (λ (w : SwitchTableOf). IsTable w.installed.now) (one z to) table;
    }

-- what stands on a switch of a setting
pub standing-of : (s : Setting) (c : ComposedOf) (n : ℕ) (x : SwitchTableOf) (standing : List Written) → IsGood s
    → IsOf s c → slice_get c.tables n ≡ Some x
    → IsTable x.installed.now → x.installed.now.standing ≡ standing → IsStandingOf s n standing
standing-of s c n x standing good of at table is =
    subst (λ (z : List Written). IsPermutation (installed (entries_of s n)) (map entry_of z)) is
    (stands-as-installed (entries_of s n) x (good-no-twins s good n) (of.tables n x at) table)

-- it is still that of the setting
module _ (s : Setting) (c d : ComposedOf) (n : ℕ) (batch : Batch) (h : IsWholeAt n batch c.tables d.tables)
    (w : d.wiring ≡ c.wiring) (x : d.switches ≡ c.switches) where
  pub whole-of : d.rules ≡ c.rules → IsOf s c → IsOf s d
  whole-of same of = record {
    wiring = w ∙ of.wiring;
    switches = x ∙ of.switches;
    rules = λ r e. of.rules r (sym same ∙ e);
    tables = h.has (entries_of s) of.tables;
    count = h.long ∙ of.count;
  }

  pub whole-was : WasOf s c → WasOf s d
  whole-was was = record {
    wiring = w ∙ was.wiring;
    switches = x ∙ was.switches;
    tables = h.had (entries_of s) was.tables;
    count = h.long ∙ was.count;
  }
