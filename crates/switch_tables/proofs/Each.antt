-- Switches changed one after the other, and taken back.
use Rattle.std.proofs.Common.{◌≡◌, ℕ, zero, suc, ◌+◌, ◌<◌, ◌≤◌, ◌⊎◌, inl, inr, Bool, List, [], ◌∷◌, ◌++◌, Option, Some}
use Rattle.std.proofs.Common.{None, length, take, get_or, map, refl, sym, ap, subst, ◌∙◌, arith}
use Rattle.std.specs.Prelude.{slice_get}
use Rattle.std.proofs.lemmas.Bool.{cases_lt}
use Rattle.std.proofs.lemmas.List.{length-append, map-append, take_more}
use Rattle.std.proofs.lemmas.Option.{slice_get_within}
use Rattle.exact_gate.specs.declared.delta.GateDelta.{GateDelta}
use Rattle.install_plan.specs.declared.written.Batch.{Batch}
use Rattle.switch_meaning.specs.declared.entry.PhysEntry.{PhysEntry}
use Rattle.switch_meaning.proofs.Items.{some_injective}
use Rattle.switch_tables.specs.Tables.{CanGoBack, IsKept, IsTurned, IsUndone, SwitchTableOf}
use Rattle.switch_tables.specs.Turning.{AreKept, AreStopped, AreTurned, IsKeptAt, IsTurnedAt, IsUndoneAt, OthersStay}
use Rattle.switch_tables.specs.Turning.{cookie_after, up_of}
use Rattle.switch_tables.specs.declared.tables.SwitchBatch.{SwitchBatch}
use Rattle.switch_tables.proofs.Cookies.{cookie-more}

below-or-at : (m n : ℕ) → m < n + 1 → (m < n) ⊎ (m ≡ n)
below-or-at m n lt = by (cases_lt m n)
  where
    by : (m < n) ⊎ (n ≤ m) → (m < n) ⊎ (m ≡ n)
    by (inl f) = inl f
    by (inr f) = inr (omega arith)

module _ (base cur new : List SwitchTableOf) (n : ℕ) (others : OthersStay n cur new) (rest : (m : ℕ) → n ≤ m
    → slice_get cur m ≡ slice_get base m) where
  pub rest-more : (m : ℕ) → n + 1 ≤ m → slice_get new m ≡ slice_get base m
  rest-more m le = others m (λ e. absurd (omega arith)) ∙ rest m (omega arith)

  -- what holds of each switch below a number, and of this one
  module _ (P : ℕ → SwitchTableOf → SwitchTableOf → Type 0) where
    abbrev PAt : ℕ → List SwitchTableOf → List SwitchTableOf → Type 0
    PAt m before now = (x y : SwitchTableOf) → slice_get before m ≡ Some x → slice_get now m ≡ Some y → P m x y

    pub each-more : ((m : ℕ) → m < n → PAt m base cur) → PAt n cur new → (m : ℕ) → m < n + 1 → PAt m base new
    each-more done here m lt = by (below-or-at m n lt)
      where
        by : (m < n) ⊎ (m ≡ n) → PAt m base new
        by (inl f) = λ x y a b. done m f x y a (sym (others m (λ e. absurd (omega arith))) ∙ b)
        by (inr e) = subst (λ (k : ℕ). PAt k base new) (sym e) (λ x y a b. here x y (rest n (omega arith) ∙ a) b)

-- one row more
module _ (rows : List SwitchBatch) (row : SwitchBatch) where
  get-old : (xs : List SwitchBatch) (m : ℕ) → m < length xs → slice_get (xs ++ row ∷ []) m ≡ slice_get xs m
  get-old [] m lt = absurd (omega arith)
  get-old (x ∷ xs) zero lt = refl
  get-old (x ∷ xs) (suc m) lt = get-old xs m (omega arith)

  take-old : (xs : List SwitchBatch) (m : ℕ) → m ≤ length xs → take m (xs ++ row ∷ []) ≡ take m xs
  take-old [] zero le = refl
  take-old [] (suc m) le = absurd (omega arith)
  take-old (x ∷ xs) zero le = refl
  take-old (x ∷ xs) (suc m) le = ap (λ (zs : List SwitchBatch). x ∷ zs) (take-old xs m (omega arith))

  take-whole : (xs : List SwitchBatch) → take (length xs) xs ≡ xs
  take-whole [] = refl
  take-whole (x ∷ xs) = ap (λ (zs : List SwitchBatch). x ∷ zs) (take-whole xs)

  get-new : (xs : List SwitchBatch) → slice_get (xs ++ row ∷ []) (length xs) ≡ Some row
  get-new [] = refl
  get-new (x ∷ xs) = get-new xs

  module _ (deltas : List GateDelta) (next : ℕ) (base cur new : List SwitchTableOf) (n : ℕ) (count : length rows ≡ n)
      (others : OthersStay n cur new) (rest : (m : ℕ) → n ≤ m
      → slice_get cur m ≡ slice_get base m) (d : GateDelta) (at : slice_get deltas n ≡ Some d)
      (here : IsTurnedAt n d (cookie_after next rows) cur new row.batch) (done : AreTurned n deltas next base cur rows)
    where
      pub turned-more : AreTurned (n + 1) deltas next base new (rows ++ row ∷ [])
      turned-more m e b lt f g = by (below-or-at m n lt)
        where
          below : m < n → IsTurnedAt m e (cookie_after next (take m (rows ++ row ∷ []))) base new b.batch
          below l x y p q =
              let old : slice_get rows m ≡ Some b = sym (get-old rows m (omega arith)) ∙ g in
              subst (λ (zs : List SwitchBatch). IsTurned e.gone e.come (cookie_after next zs) x y b.batch)
              (sym (take-old rows m (omega arith)))
              (done m e b l f old x y p (sym (others m (λ h. absurd (omega arith))) ∙ q))

          here-at : m ≡ n → IsTurnedAt m e (cookie_after next (take m (rows ++ row ∷ []))) base new b.batch
          here-at same x y p q =
              let long : m ≡ length rows = same ∙ sym count in
              let one : b ≡ row = some_injective (sym g ∙ (ap (slice_get (rows ++ row ∷ [])) long ∙ get-new rows)) in
              let two : e ≡ d = some_injective (sym f ∙ (ap (slice_get deltas) same ∙ at)) in
              let cookies : take m (rows ++ row ∷ []) ≡ rows = take-old rows m (omega arith)
              ∙ (ap (λ (k : ℕ). take k rows) long ∙ take-whole rows) in
              let p' : slice_get cur n ≡ Some x = rest n (omega arith) ∙ (ap (slice_get base) (sym same) ∙ p) in
              let q' : slice_get new n ≡ Some y = ap (slice_get new) (sym same) ∙ q in
              subst (λ (zs : List SwitchBatch). IsTurned e.gone e.come (cookie_after next zs) x y b.batch) (sym cookies)
              (subst (λ (z : GateDelta). IsTurned z.gone z.come (cookie_after next rows) x y b.batch) (sym two)
              (subst (λ (z : SwitchBatch). IsTurned d.gone d.come (cookie_after next rows) x y z.batch) (sym one)
              (here x y p' q')))

          by : (m < n) ⊎ (m ≡ n) → IsTurnedAt m e (cookie_after next (take m (rows ++ row ∷ []))) base new b.batch
          by (inl l) = below l
          by (inr same) = here-at same

-- a switch that was turned can go back
pub turned-back : (gone come : List PhysEntry) (next : ℕ) (x y : SwitchTableOf) (b : Batch)
    → IsTurned gone come next x y b → CanGoBack x y
turned-back gone come next x y b t = record { had = t.had; stood = t.stood }

pub back-kept : (x y z : SwitchTableOf) → CanGoBack x y → IsUndone y z → IsKept x z
back-kept x y z b u = record { has = λ old h. u.has old (b.had old h); stands = u.stands ∙ b.stood }

-- nothing was changed
pub same-kept : (x : SwitchTableOf) → IsKept x x
same-kept x = record { has = λ old h. h; stands = refl }

-- what stopped is taken back
pub stopped_kept : (count : ℕ) (base cur new : List SwitchTableOf) → length cur ≡ length base
    → AreStopped count base cur
    → ((n : ℕ) → n < count → IsUndoneAt n cur new) → ((n : ℕ) → count ≤ n → slice_get new n ≡ slice_get cur n)
    → AreKept base new
stopped_kept count base cur new long s undone same n x z at to = by (cases_lt n count)
  where
    middle : (y : SwitchTableOf) → slice_get cur n ≡ Some y → n < count → IsKept x z
    middle y f lt = back-kept x y z (s.back n lt x y at f) (undone n lt y z f to)

    there : (o : Option SwitchTableOf) → slice_get cur n ≡ o → n < length cur → n < count → IsKept x z
    there None e within lt = absurd (never cur n within e)
      where
        never : (xs : List SwitchTableOf) (k : ℕ) → k < length xs → slice_get xs k ≡ None → ⊥
        never [] k l e = omega arith
        never (x ∷ xs) zero l e = cc
        never (x ∷ xs) (suc k) l e = never xs k (omega arith) e
    there (Some y) e within lt = middle y e lt

    by : (n < count) ⊎ (count ≤ n) → IsKept x z
    by (inl lt) = there (slice_get cur n) refl (let l = slice_get_within base n x at in omega arith) lt
    by (inr le) = s.rest n le x z at (sym (same n le) ∙ to)

-- what is the same is kept
pub same-kept-at : (n : ℕ) (base new : List SwitchTableOf) → slice_get new n ≡ slice_get base n → IsKeptAt n base new
same-kept-at n base new e x y p q = subst (λ (z : SwitchTableOf). IsKept x z) (some_injective (sym p ∙ (sym e ∙ q)))
    (same-kept x)

pub row-more : (next cookie other : ℕ) (old new : List SwitchBatch) (row : SwitchBatch) → new ≡ old ++ row ∷ []
    → other ≡ cookie_after cookie (row ∷ [])
    → cookie ≡ cookie_after next old → other ≡ cookie_after next new
row-more next cookie other old new row pushed e f =
    e ∙ (ap (λ (k : ℕ). cookie_after k (row ∷ [])) f
    ∙ (sym (cookie-more next old row) ∙ ap (cookie_after next) (sym pushed)))

pub ups-more : (ups : List Bool) (old new : List SwitchBatch) (n : ℕ) (d : Bool) (b : Batch)
    → new ≡ old ++ (record { up = get_or ups n d; batch = b }) ∷ []
    → map up_of old ≡ take n ups → n < length ups → map up_of new ≡ take (n + 1) ups
ups-more ups old new n d b pushed e lt =
    ap (map up_of) pushed ∙ (map-append up_of old ((record { up = get_or ups n d; batch = b }) ∷ [])
    ∙ (ap (λ (z : List Bool). z ++ get_or ups n d ∷ []) e ∙ sym (take_more ups n d lt)))

pub count-more : (old new : List SwitchBatch) (row : SwitchBatch) (n : ℕ) → new ≡ old ++ row ∷ [] → length old ≡ n
    → length new ≡ n + 1
count-more old new row n pushed e = let a = ap length pushed in let b = length-append old (row ∷ []) in
    omega (arith, a, b, e)
