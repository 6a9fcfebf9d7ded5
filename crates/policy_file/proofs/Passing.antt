-- Loops that look at the first of what is left, until there is a fault or a test fails.
use Rattle.std.proofs.Common.{◌≡◌, ◌&&◌, Bool, true, false, Option, Some, None, List, [], ◌∷◌, map, inl, inr, sym, ap}
use Rattle.std.proofs.Common.{◌∙◌}
use Rattle.std.specs.List.{list_all}
use Rattle.std.specs.Option.{option_or}
use Rattle.virtual_topology.specs.Faults.{first_answer}
use Rattle.virtual_topology.proofs.Checks.{Wanted}

-- an item with nothing wrong is passed over, one with a fault ends the check, and after the last there is none
pub passed_first : {A B E : Type 0} (show : A → B) (f : B → Option E) (xs rest : List A) (x : A) (all : Option E)
    → xs ≡ x ∷ rest → f (show x) ≡ None
    → first_answer f (map show xs) ≡ all → first_answer f (map show rest) ≡ all
passed_first show f xs rest x all there none before =
    sym (ap (λ ys. first_answer f (map show ys)) there ∙ ap (λ o. option_or o (first_answer f (map show rest))) none)
    ∙ before

pub stopped_first : {A B E : Type 0} (memory : E) (show : A → B) (f : B
    → Option E) (xs rest : List A) (x : A) (all : Option E) (fault : E) → xs ≡ x ∷ rest
    → Wanted memory fault (f (show x))
    → first_answer f (map show xs) ≡ all → Wanted memory fault all
stopped_first memory show f xs rest x all fault there (inl none) before = inl none
stopped_first memory show f xs rest x all fault there (inr some) before =
    inr (sym before ∙ (ap (λ ys. first_answer f (map show ys)) there
    ∙ ap (λ o. option_or o (first_answer f (map show rest))) some))

pub ended_first : {A B E : Type 0} (show : A → B) (f : B → Option E) (xs : List A) (all : Option E) → xs ≡ []
    → first_answer f (map show xs) ≡ all → all ≡ None
ended_first show f xs all there before = sym before ∙ ap (λ ys. first_answer f (map show ys)) there

-- the same of a test
pub all_passed : {A B : Type 0} (show : A → B) (p : B → Bool) (xs rest : List A) (x : A) (all : Bool) → xs ≡ x ∷ rest
    → p (show x) ≡ true → list_all p (map show xs) ≡ all → list_all p (map show rest) ≡ all
all_passed show p xs rest x all there pass before =
    sym (ap (λ ys. list_all p (map show ys)) there ∙ ap (λ b. b && list_all p (map show rest)) pass) ∙ before

pub all_stopped : {A B : Type 0} (show : A → B) (p : B → Bool) (xs rest : List A) (x : A) (all : Bool) → xs ≡ x ∷ rest
    → p (show x) ≡ false → list_all p (map show xs) ≡ all → all ≡ false
all_stopped show p xs rest x all there fail before = sym before
    ∙ (ap (λ ys. list_all p (map show ys)) there ∙ ap (λ b. b && list_all p (map show rest)) fail)

pub all_ended : {A B : Type 0} (show : A → B) (p : B → Bool) (xs : List A) (all : Bool) → xs ≡ []
    → list_all p (map show xs) ≡ all → all ≡ true
all_ended show p xs all there before = sym before ∙ ap (λ ys. list_all p (map show ys)) there
