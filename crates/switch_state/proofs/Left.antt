-- A loop over a list: the items so far, and those that are left.
use Rattle.std.proofs.Common.{◌≡◌, List, [], ◌∷◌, ◌++◌, ap, sym, subst, ◌∙◌, append_assoc}
use Rattle.std.specs.List.{AllByRecursion}

module _ {A : Type 0} where
  -- one more is done
  pub more_done : (done : List A) (x : A) (rest left all : List A) → left ≡ x ∷ rest → done ++ left ≡ all
      → (done ++ x ∷ []) ++ rest ≡ all
  more_done done x rest left all next so_far =
      append_assoc done (x ∷ []) rest ∙ (ap (λ (xs : List A). done ++ xs) (sym next) ∙ so_far)

  in_middle : (P : A → Type 0) (done : List A) (x : A) (rest : List A) → AllByRecursion P (done ++ x ∷ rest) → P x
  in_middle P [] x rest each = each.0
  in_middle P (d ∷ ds) x rest each = in_middle P ds x rest each.1

  -- what holds of each holds of the next
  pub next_holds : (P : A → Type 0) (done : List A) (x : A) (rest left all : List A) → left ≡ x ∷ rest
      → done ++ left ≡ all → AllByRecursion P all → P x
  next_holds P done x rest left all next so_far each =
      in_middle P done x rest
      (subst (AllByRecursion P) (sym (ap (λ (xs : List A). done ++ xs) (sym next) ∙ so_far)) each)
