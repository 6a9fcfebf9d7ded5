-- A value of a map that is changed in its place.
use Rattle.std.proofs.Common.{◌≡◌, ◌∙◌, Bool, true, false, cond, List, [], ◌∷◌, Some, None, refl, sym, ap}
use Rattle.std.specs.Map.{lookup, set_value}
use Rattle.soft_net.specs.Counting.{changed}

some_is : {X : Type 0} (x y : X) → Some x ≡ Some y → x ≡ y
some_is x y q = cc

pub set_changed : {K V : Type 0} (test : K → Bool) (f : V → V) (ps : List (K × V)) (v : V) → lookup test ps ≡ Some v
    → set_value test ps (f v) ≡ changed test f ps
set_changed test f [] v e = refl
set_changed {K = K} {V = V} test f (p ∷ ps) v e = by (test p.0) refl (λ m. set_changed test f ps v m)
  where
    by : (b : Bool) → test p.0 ≡ b → (lookup test ps ≡ Some v → set_value test ps (f v) ≡ changed test f ps)
        → cond b ((p.0, f v) ∷ ps) (p ∷ set_value test ps (f v))
        ≡ cond b ((p.0, f p.1) ∷ ps) (p ∷ changed test f ps)
    by true t m =
        let same : p.1 ≡ v = some_is p.1 v (sym (ap (λ b. cond b (Some p.1) (lookup test ps)) t) ∙ e) in
        let Pair : V → K × V = λ w. (p.0, f w) in
        ap (λ w. Pair w ∷ ps) (sym same)
    by false t m = ap (λ qs. p ∷ qs) (m (sym (ap (λ b. cond b (Some p.1) (lookup test ps)) t) ∙ e))

pub none_changed : {K V : Type 0} (test : K → Bool) (f : V → V) (ps : List (K × V)) → lookup test ps ≡ None
    → changed test f ps ≡ ps
none_changed test f [] e = refl
none_changed test f (p ∷ ps) e = by (test p.0) refl (λ m. none_changed test f ps m)
  where
    by : (b : Bool) → test p.0 ≡ b → (lookup test ps ≡ None → changed test f ps ≡ ps)
        → cond b ((p.0, f p.1) ∷ ps) (p ∷ changed test f ps) ≡ p ∷ ps
    by true t m = let q : Some p.1 ≡ None = sym (ap (λ b. cond b (Some p.1) (lookup test ps)) t) ∙ e in absurd (cc)
    by false t m = ap (λ qs. p ∷ qs) (m (sym (ap (λ b. cond b (Some p.1) (lookup test ps)) t) ∙ e))
