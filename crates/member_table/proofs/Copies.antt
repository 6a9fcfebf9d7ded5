-- Entries are copied one after the other.
use Rattle.std.proofs.Common.{◌≡◌, ℕ, zero, suc, ◌<◌, ◌≤◌, ◌+◌, Bool, true, false, ◌==◌, List, [], ◌∷◌, length, take}
use Rattle.std.proofs.Common.{map, slice_get, refl, sym, ap₂, subst, ◌∙◌, arith, true≢false, Some, None}
use Rattle.std.specs.List.{list_any, AllByRecursion, IsDistinct}
use Rattle.std.proofs.lemmas.Option.{slice_get_within, get_or_from_slice_get}
use Rattle.member_table.specs.Entries.{identity_of, has_serial, is_at, put}
use Rattle.member_table.specs.InsideOrders.{OrderOf}
use Rattle.member_table.specs.Sound.{AreApart, EachPair}
use Rattle.member_table.specs.declared.entry.Entry.{Entry}
use Rattle.std.proofs.lemmas.Bool.Decides.{Decides-eqb}
use Rattle.member_table.proofs.Keyed.{flipped}
use Rattle.member_table.proofs.Lists.{take_pushed}
use Rattle.member_table.proofs.Means.{near_itself}
use Rattle.member_table.proofs.Steps.{identity_decides, put-none}

-- what is true of each is true of the one at a place
at_place : {X : Type 0} (P : X → Type 0) (xs : List X) (i : ℕ) (x : X) → AllByRecursion P xs → slice_get xs i ≡ Some x
    → P x
at_place P [] i x a g = absurd (cc)
at_place P (y ∷ xs) zero x a g = let e : y ≡ x = cc in subst P e a.0
at_place P (y ∷ xs) (suc i) x a g = at_place P xs i x a.1 g

numbers_at : (k : ℕ) (es : List Entry) → AllByRecursion (λ y. (k == y) ≡ false) (map (λ (x : Entry). x.serial) es)
    → AllByRecursion (λ (e : Entry). (k == e.serial) ≡ false) es
numbers_at k [] a = tt
numbers_at k (e ∷ es) a = (a.0, numbers_at k es a.1)

-- the number of an entry stands nowhere before it
pub fresh_before : (es : List Entry) (i : ℕ) (e : Entry) → IsDistinct ◌==◌ (map (λ (x : Entry). x.serial) es)
    → slice_get es i ≡ Some e → list_any (has_serial e.serial) (take i es) ≡ false
unfolding IsDistinct
fresh_before [] zero e d g = refl
fresh_before [] (suc i) e d g = refl
fresh_before (x ∷ es) zero e d g = refl
fresh_before (x ∷ es) (suc i) e d g =
    let h = at_place (λ (y : Entry). (x.serial == y.serial) ≡ false) es i e (numbers_at x.serial es d.0) g in
    rw (flipped ◌==◌ Decides-eqb (λ (y : Entry). y.serial) e.serial x.serial ∙ h) (fresh_before es i e d.1 g)

not_at : (x e : Entry) → AreApart x e → (b : Bool) → is_at (identity_of e) x ≡ b → is_at (identity_of e) x ≡ false
not_at x e p true t =
    absurd (true≢false (sym (near_itself e x ((identity_decides (identity_of e) (identity_of x)).0 t)) ∙ p))
not_at x e p false t = t

apart_before : (es : List Entry) (i : ℕ) (e : Entry) → EachPair AreApart es → slice_get es i ≡ Some e
    → list_any (is_at (identity_of e)) (take i es) ≡ false
apart_before [] zero e d g = refl
apart_before [] (suc i) e d g = refl
apart_before (x ∷ es) zero e d g = refl
apart_before (x ∷ es) (suc i) e d g =
    rw (not_at x e (at_place (AreApart x) es i e d.0 g) (is_at (identity_of e) x) refl) (apart_before es i e d.1 g)

-- so many are copied, and there is room for the rest
abbrev pub IsCopiedTo : List Entry → ℕ → OrderOf → Type 0
IsCopiedTo es i copied = (copied.entries ≡ take i es) × (length es ≤ copied.room + i)

-- the copy of the next one goes last
pub copied_next : (es : List Entry) (i : ℕ) (before after : OrderOf) (e copy : Entry) → EachPair AreApart es
    → IsCopiedTo es i before → Some e ≡ slice_get es i → copy ≡ e
    → after.entries ≡ put copy before.entries → before.room ≤ after.room + 1 → IsCopiedTo es (i + 1) after
copied_next es i before after e copy a b g c p room =
    let held = b.1 in
    let last = put-none e (take i es) (apart_before es i e a (sym g))
    ∙ sym (take_pushed es i e (slice_get_within es i e (sym g)) (sym (get_or_from_slice_get es i e e (sym g)))) in
    (p ∙ (ap₂ put c b.0 ∙ last), omega arith)

-- at each place there is one
pub held_at : {X : Type 0} (xs : List X) (i : ℕ) → i < length xs → None ≡ slice_get xs i → ⊥
held_at [] i h e = absurd (omega arith)
held_at (x ∷ xs) zero h e = absurd (cc)
held_at (x ∷ xs) (suc i) h e = held_at xs i (omega arith) e
