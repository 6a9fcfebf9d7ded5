-- Lists that are filtered, mapped and put in another order.
use Rattle.std.proofs.Common.{◌≡◌, ◌∙◌, ℕ, zero, suc, ◌+◌, ◌<◌, Bool, true, false, not, List, [], ◌∷◌, ◌++◌, map}
use Rattle.std.proofs.Common.{filter}
use Rattle.std.proofs.Common.{Option, Some, None, option_map, length, drop, get_or, add-one, drop-cons, arith, refl}
use Rattle.std.proofs.Common.{sym, ap, ap₂, subst}
use Rattle.std.specs.Prelude.{IsPermutation, filter_map, if◌then◌else◌, option_to_list}
use Rattle.std.specs.List.{AllByRecursion, cons_option}
use Rattle.std.proofs.lemmas.List.Sorted.{IsPermutation-cons}
use Rattle.std.proofs.lemmas.List.Sorted.{IsPermutation-middle, IsPermutation-refl, IsPermutation-sym}
use Rattle.std.proofs.lemmas.List.Sorted.{IsPermutation-trans}

pub joined : {A : Type 0} (xs ys zs : List A) → (xs ++ ys) ++ zs ≡ xs ++ (ys ++ zs)
joined [] ys zs = refl
joined (x ∷ xs) ys zs = ap (λ ws. x ∷ ws) (joined xs ys zs)

pub filter_joined : {A : Type 0} (q : A → Bool) (xs ys : List A) → filter q (xs ++ ys) ≡ filter q xs ++ filter q ys
filter_joined q [] ys = refl
filter_joined q (x ∷ xs) ys = by (q x) (filter_joined q xs ys)
  where
    by : (b : Bool) → filter q (xs ++ ys) ≡ filter q xs ++ filter q ys
        → (if b then x ∷ filter q (xs ++ ys) else filter q (xs ++ ys))
        ≡ (if b then x ∷ filter q xs else filter q xs) ++ filter q ys
    by true e = ap (λ zs. x ∷ zs) e
    by false e = e

pub all_pass : {A : Type 0} (q : A → Bool) (xs : List A) → AllByRecursion (λ x. q x ≡ true) xs → filter q xs ≡ xs
all_pass q [] h = refl
all_pass q (x ∷ xs) h =
    ap (λ b. if b then x ∷ filter q xs else filter q xs) h.0 ∙ ap (λ ys. x ∷ ys) (all_pass q xs h.1)

pub none_pass : {A : Type 0} (q : A → Bool) (xs : List A) → AllByRecursion (λ x. q x ≡ false) xs → filter q xs ≡ []
none_pass q [] h = refl
none_pass q (x ∷ xs) h = ap (λ b. if b then x ∷ filter q xs else filter q xs) h.0 ∙ none_pass q xs h.1

pub weaker : {A : Type 0} (P Q : A → Type 0) → ((x : A) → P x → Q x) → (xs : List A) → AllByRecursion P xs
    → AllByRecursion Q xs
weaker P Q f [] h = tt
weaker P Q f (x ∷ xs) h = (f x h.0, weaker P Q f xs h.1)

-- a front is moved behind another
pub behind : {A : Type 0} (xs ys zs : List A) → IsPermutation (xs ++ (ys ++ zs)) (ys ++ (xs ++ zs))
behind [] ys zs = IsPermutation-refl (ys ++ zs)
behind (x ∷ xs) ys zs =
    IsPermutation-trans (x ∷ xs ++ (ys ++ zs)) (x ∷ ys ++ (xs ++ zs)) (ys ++ (x ∷ xs ++ zs))
    (IsPermutation-cons x (xs ++ (ys ++ zs)) (ys ++ (xs ++ zs)) (behind xs ys zs))
    (IsPermutation-sym (ys ++ (x ∷ xs ++ zs)) (x ∷ ys ++ (xs ++ zs)) (IsPermutation-middle ys x (xs ++ zs)))

pub by-equation : {A : Type 0} (xs ys : List A) → xs ≡ ys → IsPermutation xs ys
by-equation xs ys e = subst (λ zs. IsPermutation xs zs) e (IsPermutation-refl xs)

-- one item that passes, or that doesn't
pub filter_yes : {A : Type 0} (q : A → Bool) (x : A) (xs : List A) → q x ≡ true → filter q (x ∷ xs) ≡ x ∷ filter q xs
filter_yes q x xs h = ap (λ b. if b then x ∷ filter q xs else filter q xs) h

pub filter_no : {A : Type 0} (q : A → Bool) (x : A) (xs : List A) → q x ≡ false → filter q (x ∷ xs) ≡ filter q xs
filter_no q x xs h = ap (λ b. if b then x ∷ filter q xs else filter q xs) h

-- where none is left out, all pass
pub all_among : {A : Type 0} (q : A → Bool) (xs : List A) → filter (λ x. not (q x)) xs ≡ [] → filter q xs ≡ xs
all_among q [] h = refl
all_among q (x ∷ xs) h = by (q x) (all_among q xs) h
  where
    by : (b : Bool) → (filter (λ y. not (q y)) xs ≡ [] → filter q xs ≡ xs)
        → (if not b then x ∷ filter (λ y. not (q y)) xs else filter (λ y. not (q y)) xs) ≡ []
        → (if b then x ∷ filter q xs else filter q xs) ≡ x ∷ xs
    by true more e = ap (λ ys. x ∷ ys) (more e)
    by false more e = cc

-- what holds of those that pass
pub all_passing : {A : Type 0} (P : A → Type 0) (q : A → Bool) (xs : List A)
    → AllByRecursion (λ x. q x ≡ true → P x) xs → AllByRecursion P (filter q xs)
all_passing P q [] h = tt
all_passing P q (x ∷ xs) h = by (q x) refl (all_passing P q xs h.1)
  where
    by : (b : Bool) → q x ≡ b → AllByRecursion P (filter q xs)
        → AllByRecursion P (if b then x ∷ filter q xs else filter q xs)
    by true t more = (h.0 t, more)
    by false t more = more

pub map_within : {A B : Type 0} (f g : A → B) (xs : List A) → AllByRecursion (λ x. f x ≡ g x) xs → map f xs ≡ map g xs
map_within f g [] h = refl
map_within f g (x ∷ xs) h = ap₂ (λ y ys. y ∷ ys) h.0 (map_within f g xs h.1)

pub map_unchanged : {A : Type 0} (f : A → A) (xs : List A) → AllByRecursion (λ x. f x ≡ x) xs → map f xs ≡ xs
map_unchanged f [] h = refl
map_unchanged f (x ∷ xs) h = ap₂ (λ y ys. y ∷ ys) h.0 (map_unchanged f xs h.1)

pub map_after : {A B C : Type 0} (f : A → B) (g : B → C) (xs : List A) → map g (map f xs) ≡ map (λ x. g (f x)) xs
map_after f g [] = refl
map_after f g (x ∷ xs) = ap (λ ys. g (f x) ∷ ys) (map_after f g xs)

pub filter_mapped : {A B : Type 0} (f : A → B) (q : B → Bool) (xs : List A)
    → filter q (map f xs) ≡ map f (filter (λ x. q (f x)) xs)
filter_mapped f q [] = refl
filter_mapped f q (x ∷ xs) = by (q (f x)) (filter_mapped f q xs)
  where
    by : (b : Bool) → filter q (map f xs) ≡ map f (filter (λ y. q (f y)) xs)
        → (if b then f x ∷ filter q (map f xs) else filter q (map f xs))
        ≡ map f (if b then x ∷ filter (λ y. q (f y)) xs else filter (λ y. q (f y)) xs)
    by true e = ap (λ ys. f x ∷ ys) e
    by false e = e

-- some items in the midst of others: taken to the front, or left out
pub to_front : {A : Type 0} (q : A → Bool) (front some back : List A)
    → IsPermutation (filter q (front ++ (some ++ back))) (filter q some ++ filter q (front ++ back))
to_front q front some back =
    subst (λ ys. IsPermutation ys (filter q some ++ filter q (front ++ back)))
    (sym (filter_joined q front (some ++ back) ∙ ap (λ ys. filter q front ++ ys) (filter_joined q some back)))
    (subst (λ ys. IsPermutation (filter q front ++ (filter q some ++ filter q back)) (filter q some ++ ys))
    (sym (filter_joined q front back)) (behind (filter q front) (filter q some) (filter q back)))

pub left_out : {A : Type 0} (q : A → Bool) (front some back : List A) → filter q some ≡ []
    → filter q (front ++ (some ++ back)) ≡ filter q (front ++ back)
left_out q front some back none =
    filter_joined q front (some ++ back)
    ∙ (ap (λ ys. filter q front ++ ys) (filter_joined q some back ∙ ap (λ ys. ys ++ filter q back) none)
    ∙ sym (filter_joined q front back))

pub map_joined : {A B : Type 0} (f : A → B) (xs ys : List A) → map f (xs ++ ys) ≡ map f xs ++ map f ys
map_joined f [] ys = refl
map_joined f (x ∷ xs) ys = ap (λ zs. f x ∷ zs) (map_joined f xs ys)

-- the item at a place ------------------------------------------------------------------------------------------------

pub each_got : {A : Type 0} (P : A → Type 0) (xs : List A) (i : ℕ) (x : A) → AllByRecursion P xs → i < length xs
    → x ≡ get_or xs i x → P x
each_got P [] i x a less e = absurd (omega arith)
each_got P (y ∷ ys) zero x a less e = subst P (sym e) a.0
each_got P (y ∷ ys) (suc i) x a less e = each_got P ys i x a.1 (omega arith) e

filtered_split : {B C : Type 0} (f : B → C) (o : Option B) (ys : List B)
    → map f (cons_option o ys) ≡ option_to_list (option_map f o) ++ map f ys
filtered_split f None ys = refl
filtered_split f (Some y) ys = refl

-- what is made of it, where something is
pub made_next : {A B C : Type 0} (f : B → C) (g : A → Option B) (xs : List A) (i : ℕ) (x : A) (done : List C)
    → i < length xs → x ≡ get_or xs i x
    → (done ++ option_to_list (option_map f (g x))) ++ map f (filter_map g (drop (i + 1) xs))
    ≡ done ++ map f (filter_map g (drop i xs))
made_next f g xs i x done less e =
    joined done (option_to_list (option_map f (g x))) (map f (filter_map g (drop (i + 1) xs)))
    ∙ ap (λ ys. done ++ ys)
    (sym (ap (λ ys. map f (filter_map g ys))
    (rw add-one (drop-cons xs i x less) ∙ ap (λ y. y ∷ drop (i + 1) xs) (sym e))
    ∙ filtered_split f (g x) (filter_map g (drop (i + 1) xs))))

pub map_added : {A B : Type 0} (f : A → B) (xs : List A) (o : Option A)
    → map f (xs ++ option_to_list o) ≡ map f xs ++ option_to_list (option_map f o)
map_added f xs None = map_joined f xs []
map_added f xs (Some x) = map_joined f xs (x ∷ [])
