-- Parts are moved in one by one, the last first.
use Rattle.std.proofs.Common.{◌≡◌, ℕ, zero, suc, ◌+◌, ◌<◌, List, [], ◌∷◌, ◌++◌, length, length-append, get_or, set, map}
use Rattle.std.proofs.Common.{refl, sym, ap, ap₂, ◌∙◌, arith, subst}
use Rattle.std.proofs.lemmas.List.{length-map, map-append}
use Rattle.machine_drafts.specs.Moving.{EachPart, after_parts}

-- a list of no length
pub empty_list : {A : Type 0} (xs : List A) → length xs ≡ 0 → xs ≡ []
empty_list [] h = refl
empty_list (x ∷ xs) h = absurd (omega arith)

-- without parts nothing changes
pub after_none : {A B : Type 0} (f : A → B → A) (xs : List A) → after_parts f xs [] ≡ xs
after_none f [] = refl
after_none f (x ∷ xs) = refl

-- the item of the last part is changed, and then those of the others
pub moved_last : {M A B : Type 0} (view : M → A) (f : A → B → A) (xs : List M) (ps : List B) (p : B) (n : ℕ) (y d : M)
    → n ≡ length ps → n < length xs → view y ≡ f (view (get_or xs n d)) p
    → after_parts f (map view (set xs n y)) ps ≡ after_parts f (map view xs) (ps ++ p ∷ [])
moved_last view f [] ps p n y d e h v = absurd (omega arith)
moved_last view f (x ∷ xs) [] p zero y d e h v = ap₂ (λ z zs. z ∷ zs) v (sym (after_none f (map view xs)))
moved_last view f (x ∷ xs) [] p (suc n) y d e h v = absurd (omega arith)
moved_last view f (x ∷ xs) (q ∷ ps) p zero y d e h v = absurd (omega arith)
moved_last view f (x ∷ xs) (q ∷ ps) p (suc n) y d e h v = ap (λ zs. f (view x) q ∷ zs)
    (moved_last view f xs ps p n y d (omega arith) (omega arith) v)

pub each_last : {A B : Type 0} (R : A → B → Type 0) (xs : List A) (ps : List B) (p : B) (n : ℕ) (d : A) → n ≡ length ps
    → n < length xs → EachPart R xs (ps ++ p ∷ []) → R (get_or xs n d) p
each_last R [] ps p n d e h r = absurd (omega arith)
each_last R (x ∷ xs) [] p zero d e h r = r.0
each_last R (x ∷ xs) [] p (suc n) d e h r = absurd (omega arith)
each_last R (x ∷ xs) (q ∷ ps) p zero d e h r = absurd (omega arith)
each_last R (x ∷ xs) (q ∷ ps) p (suc n) d e h r = each_last R xs ps p n d (omega arith) (omega arith) r.1

pub each_before : {A B : Type 0} (R : A → B → Type 0) (xs : List A) (ps : List B) (p : B) (n : ℕ) (y : A)
    → n ≡ length ps → EachPart R xs (ps ++ p ∷ []) → EachPart R (set xs n y) ps
each_before R [] ps p n y e r = tt
each_before R (x ∷ xs) [] p zero y e r = tt
each_before R (x ∷ xs) [] p (suc n) y e r = absurd (omega arith)
each_before R (x ∷ xs) (q ∷ ps) p zero y e r = absurd (omega arith)
each_before R (x ∷ xs) (q ∷ ps) p (suc n) y e r = (r.0, each_before R xs ps p n y (omega arith) r.1)

-- one more part
pub after_pushed : {A B : Type 0} (f : A → B → A) (xs : List A) (ps : List B) (x : A) (p : B) → length ps ≡ length xs
    → after_parts f (xs ++ x ∷ []) (ps ++ p ∷ []) ≡ after_parts f xs ps ++ f x p ∷ []
after_pushed f [] [] x p e = refl
after_pushed f [] (q ∷ ps) x p e = absurd (omega arith)
after_pushed f (y ∷ xs) [] x p e = absurd (omega arith)
after_pushed f (y ∷ xs) (q ∷ ps) x p e = ap (λ zs. f y q ∷ zs) (after_pushed f xs ps x p (omega arith))

pub each_pushed : {A B : Type 0} (R : A → B → Type 0) (xs : List A) (ps : List B) (x : A) (p : B)
    → length ps ≡ length xs
    → EachPart R xs ps → R x p → EachPart R (xs ++ x ∷ []) (ps ++ p ∷ [])
each_pushed R [] [] x p e each r = (r, tt)
each_pushed R [] (q ∷ ps) x p e each r = absurd (omega arith)
each_pushed R (y ∷ xs) [] x p e each r = absurd (omega arith)
each_pushed R (y ∷ xs) (q ∷ ps) x p e each r = (each.0, each_pushed R xs ps x p (omega arith) each.1 r)

-- as many items as there were
pub length-after_parts : {A B : Type 0} (f : A → B → A) (xs : List A) (ps : List B)
    → length (after_parts f xs ps) ≡ length xs
length-after_parts f [] ps = refl
length-after_parts f (x ∷ xs) [] = refl
length-after_parts f (x ∷ xs) (p ∷ ps) = ap (λ n. suc n) (length-after_parts f xs ps)

-- one more item of which the part gives what is wanted
pub part_more : {A B X Y : Type 0} (f : A → B → A) (v : Y → A) (g : X → Y) (put : X → A) (xs : List X) (ps qs : List B)
    (x : X) (p : B)
    → qs ≡ ps ++ p ∷ [] → length ps ≡ length xs → f (v (g x)) p ≡ put x
    → after_parts f (map v (map g xs)) ps ≡ map put xs
    → after_parts f (map v (map g (xs ++ x ∷ []))) qs ≡ map put (xs ++ x ∷ [])
part_more f v g put xs ps qs x p is_qs e one h =
    let bases = ap (map v) (map-append g xs (x ∷ [])) ∙ map-append v (map g xs) (g x ∷ []) in
    let long = e ∙ sym (length-map (map g xs) v ∙ length-map xs g) in
    ap₂ (λ a b. after_parts f a b) bases is_qs
    ∙ (after_pushed f (map v (map g xs)) ps (v (g x)) p long
    ∙ (ap₂ (λ a z. a ++ z ∷ []) h one ∙ sym (map-append put xs (x ∷ []))))

pub each_more : {B X Y : Type 0} (R : Y → B → Type 0) (g : X → Y) (xs : List X) (ps qs : List B) (x : X) (p : B)
    → qs ≡ ps ++ p ∷ [] → length ps ≡ length xs → R (g x) p → EachPart R (map g xs) ps
    → EachPart R (map g (xs ++ x ∷ [])) qs
each_more R g xs ps qs x p is_qs e one h =
    subst (λ ys. EachPart R ys qs) (sym (map-append g xs (x ∷ [])))
    (subst (EachPart R (map g xs ++ g x ∷ [])) (sym is_qs)
    (each_pushed R (map g xs) ps (g x) p (e ∙ sym (length-map xs g)) h one))

pub length_more : {B X : Type 0} (xs : List X) (ps qs : List B) (x : X) (p : B) → qs ≡ ps ++ p ∷ []
    → length ps ≡ length xs
    → length qs ≡ length (xs ++ x ∷ [])
length_more xs ps qs x p is_qs e =
    ap (λ ys. length ys) is_qs ∙ (length-append ps (p ∷ []) ∙ (ap (λ n. n + 1) e ∙ sym (length-append xs (x ∷ []))))
