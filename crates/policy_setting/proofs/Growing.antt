-- Lists over numbers from 0 on, one number further, and each second way.
use Rattle.std.proofs.Common.{◌≡◌, ◌∙◌, sym, ap, ℕ, zero, suc, ◌+◌, List, [], ◌∷◌, ◌++◌, Option, Some, None, add-one}
use Rattle.std.proofs.Common.{arith, refl}
use Rattle.std.specs.Prelude.{filter_map, flat_map, option_to_list}
use Rattle.std.specs.List.{cons_option, range_with_len}
use Rattle.std.proofs.lemmas.Grind.{flat_map-append}
use Rattle.std.proofs.lemmas.List.{append-nil}
use Rattle.std.proofs.lemmas.List.Elements.{filter_map-append}
use Rattle.virtual_topology.specs.Wires.{Joint, both_ways}
use Rattle.policy_setting.specs.Wirings.{every_second}

range_suc : (m n : ℕ) → range_with_len m (suc n) ≡ range_with_len m n ++ (m + n) ∷ []
range_suc m zero = let p : m ≡ m + 0 = omega arith in ap (λ (k : ℕ). k ∷ []) p
range_suc m (suc n) = let p : (m + 1) + n ≡ m + suc n = omega arith in
    ap (λ (ks : List ℕ). m ∷ ks) (range_suc (m + 1) n ∙ ap (λ (k : ℕ). range_with_len (m + 1) n ++ k ∷ []) p)

range_next : (n : ℕ) → range_with_len 0 (n + 1) ≡ range_with_len 0 n ++ n ∷ []
range_next n =
    let p : n + 1 ≡ suc n = add-one n in
    let q : 0 + n ≡ n = omega arith in
    ap (range_with_len 0) p ∙ (range_suc 0 n ∙ ap (λ (k : ℕ). range_with_len 0 n ++ k ∷ []) q)

one_option : {A : Type 0} (o : Option A) → cons_option o [] ≡ option_to_list o
one_option None = refl
one_option (Some x) = refl

pub filter_next : {A : Type 0} (f : ℕ → Option A) (n : ℕ)
    → filter_map f (range_with_len 0 (n + 1)) ≡ filter_map f (range_with_len 0 n) ++ option_to_list (f n)
filter_next f n = ap (filter_map f) (range_next n)
    ∙ (filter_map-append f (range_with_len 0 n) (n ∷ [])
    ∙ ap (λ xs. filter_map f (range_with_len 0 n) ++ xs) (one_option (f n)))

pub flat_next : {A : Type 0} (f : ℕ → List A) (n : ℕ)
    → flat_map f (range_with_len 0 (n + 1)) ≡ flat_map f (range_with_len 0 n) ++ f n
flat_next f n = ap (flat_map f) (range_next n)
    ∙ (flat_map-append f (range_with_len 0 n) (n ∷ [])
    ∙ ap (λ xs. flat_map f (range_with_len 0 n) ++ xs) (append-nil (f n)))

pub each_second : (js : List Joint) → every_second (both_ways js) ≡ js
each_second [] = refl
each_second (j ∷ js) = ap (λ (ks : List Joint). j ∷ ks) (each_second js)
