-- The entry at a place of a table, and what is made of entries one after the other.
use Rattle.std.proofs.Common.{◌≡◌, ◌∙◌, ℕ, zero, suc, ◌+◌, ◌≤◌, List, [], ◌∷◌, ◌++◌, length, drop, map, slice_get}
use Rattle.std.proofs.Common.{Option, Some, None, option_map, refl, sym, ap, subst, suc-add, append_assoc, arith}
use Rattle.std.specs.Prelude.{option_to_list}
use Rattle.std.specs.List.{AllByRecursion}
use Rattle.of10_actions.specs.Actions.{AreInRange}
use Rattle.member_table.specs.Sound.{IsAsWritten, IsSound}
use Rattle.member_table.specs.Tables.{TableOf}
use Rattle.member_table.specs.declared.entry.Entry.{Entry}

-- what holds of each item holds of the one at a place
each_at : {X : Type 0} (P : X → Type 0) (xs : List X) (i : ℕ) (x : X) → AllByRecursion P xs → slice_get xs i ≡ Some x
    → P x
each_at P [] i x a e = absurd (cc)
each_at P (y ∷ ys) zero x a e = let same : y ≡ x = cc in subst P same a.0
each_at P (y ∷ ys) (suc i) x a e = each_at P ys i x a.1 e

pub at_in_range : (t : TableOf) (place : ℕ) (e : Entry) → IsSound t → slice_get t.entries place ≡ Some e
    → AreInRange e.actions
at_in_range t place e sound h = let w : IsAsWritten e = each_at IsAsWritten t.entries place e sound.written
    h in w.actions

-- the item at a place, and then those behind
drop_split : {X : Type 0} (xs : List X) (n : ℕ) → drop n xs ≡ option_to_list (slice_get xs n) ++ drop (n + 1) xs
drop_split [] zero = refl
drop_split [] (suc n) = rw suc-add refl
drop_split (x ∷ xs) zero = refl
drop_split (x ∷ xs) (suc n) = rw suc-add (drop_split xs n)

mapped_split : {X Y : Type 0} (f : X → Y) (o : Option X) (rest : List X) → map f (option_to_list o ++ rest)
    ≡ option_to_list (option_map f o) ++ map f rest
mapped_split f None rest = refl
mapped_split f (Some x) rest = refl

-- one more is made
pub made_next : {X Y : Type 0} (f : X → Y) (xs : List X) (n : ℕ) (done : List Y)
    → (done ++ option_to_list (option_map f (slice_get xs n))) ++ map f (drop (n + 1) xs) ≡ done ++ map f (drop n xs)
made_next f xs n done =
    append_assoc done (option_to_list (option_map f (slice_get xs n))) (map f (drop (n + 1) xs))
    ∙ ap (λ ys. done ++ ys)
    (sym (mapped_split f (slice_get xs n) (drop (n + 1) xs)) ∙ ap (map f) (sym (drop_split xs n)))
