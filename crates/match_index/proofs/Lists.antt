-- Lists one item after the other.
use Rattle.std.proofs.Common.{◌≡◌, ℕ, zero, suc, ◌+◌, ◌<◌, Bool, true, false, cond, List, [], ◌∷◌, ◌++◌, map, filter}
use Rattle.std.proofs.Common.{take, length, get_or, refl, sym, ap, ap₂, ◌∙◌, arith, suc-add, append_assoc, Result, Ok}
use Rattle.std.proofs.Common.{Err, OnOk, OnErr, Option, Some, None, is_some, true≢false, ◌==◌, eqb-true}
use Rattle.std.proofs.lemmas.List.Elements.{filter-append}
use Rattle.std.specs.Prelude.{flat_map}
use Rattle.of10_match.specs.Fields.{MatchOf}
use Rattle.match_index.specs.InsideGroups.{GroupOf, in_buckets, in_groups}
use Rattle.match_index.specs.Items.{ids_of}
use Rattle.match_index.specs.declared.item.Item.{Item}

-- one more from the front
pub take_pushed : {X : Type 0} (xs : List X) (i : ℕ) (x : X) → i < length xs → x ≡ get_or xs i x
    → take (i + 1) xs ≡ take i xs ++ x ∷ []
take_pushed [] i x h e = absurd (omega arith)
take_pushed (y ∷ xs) zero x h e = ap (λ z. z ∷ []) (sym e)
take_pushed (y ∷ xs) (suc i) x h e = rw suc-add (ap (λ zs. y ∷ zs) (take_pushed xs i x (omega arith) e))

pub map-both : {X Y : Type 0} (f : X → Y) (xs ys : List X) → map f (xs ++ ys) ≡ map f xs ++ map f ys
map-both f [] ys = refl
map-both f (x ∷ xs) ys = ap (λ zs. f x ∷ zs) (map-both f xs ys)

-- the ids of two lists one after the other
pub ids-append : (p : Item → Bool) (xs ys : List Item) → ids_of p (xs ++ ys) ≡ ids_of p xs ++ ids_of p ys
ids-append p xs ys = ap (map (λ (e : Item). e.id)) (filter-append p xs ys)
    ∙ map-both (λ (e : Item). e.id) (filter p xs) (filter p ys)

pub ids_one : (p : Item → Bool) (x : Item) → p x ≡ true → ids_of p (x ∷ []) ≡ x.id ∷ []
ids_one p x t = ap (λ b. map (λ (e : Item). e.id) (cond b (x ∷ []) [])) t

pub ids_none : (p : Item → Bool) (x : Item) → p x ≡ false → ids_of p (x ∷ []) ≡ []
ids_none p x t = ap (λ b. map (λ (e : Item). e.id) (cond b (x ∷ []) [])) t

-- what was listed so far, and what is listed next
pub listed_more : (p : Item → Bool) (start so_far more : List ℕ) (xs ys : List Item) → so_far ≡ start ++ ids_of p xs
    → more ≡ ids_of p ys → so_far ++ more ≡ start ++ ids_of p (xs ++ ys)
listed_more p start so_far more xs ys a b = ap₂ (λ s t. s ++ t) a b
    ∙ (append_assoc start (ids_of p xs) (ids_of p ys) ∙ ap (λ t. start ++ t) (sym (ids-append p xs ys)))

-- what stands at a place of a list doesn't depend on what would stand past its end
pub got_same : {X : Type 0} (xs : List X) (i : ℕ) (d e : X) → i < length xs → get_or xs i d ≡ get_or xs i e
got_same [] i d e h = absurd (omega arith)
got_same (x ∷ xs) zero d e h = refl
got_same (x ∷ xs) (suc i) d e h = got_same xs i d e (omega arith)

-- lists one after the other
abbrev pub joined : {X : Type 0} → List (List X) → List X
joined xss = flat_map (λ xs. xs) xss

joined-both : {X : Type 0} (xss yss : List (List X)) → joined (xss ++ yss) ≡ joined xss ++ joined yss
joined-both [] yss = refl
joined-both (xs ∷ xss) yss = ap (λ zs. xs ++ zs) (joined-both xss yss) ∙ sym (append_assoc xs (joined xss) (joined yss))

pub append_none : {X : Type 0} (xs : List X) → xs ++ [] ≡ xs
append_none [] = refl
append_none (x ∷ xs) = ap (λ ys. x ∷ ys) (append_none xs)

-- one list more
pub joined_pushed : {X Y : Type 0} (f : X → List Y) (xs : List X) (x : X)
    → joined (map f (xs ++ x ∷ [])) ≡ joined (map f xs) ++ f x
joined_pushed f xs x = ap joined (map-both f xs (x ∷ []))
    ∙ (joined-both (map f xs) (f x ∷ []) ∙ ap (λ zs. joined (map f xs) ++ zs) (append_none (f x)))

pub joined_buckets : (bs : List (MatchOf × List Item))
    → joined (map (λ (b : MatchOf × List Item). b.1) bs) ≡ in_buckets bs
joined_buckets [] = refl
joined_buckets (b ∷ bs) = ap (λ zs. b.1 ++ zs) (joined_buckets bs)

pub joined_groups : (gs : List GroupOf) → joined (map (λ (g : GroupOf). g.items) gs) ≡ in_groups gs
joined_groups [] = refl
joined_groups (g ∷ gs) = ap (λ zs. g.items ++ zs) (joined_groups gs)

pub groups_pushed : (gs : List GroupOf) (g : GroupOf) → in_groups (gs ++ g ∷ []) ≡ in_groups gs ++ g.items
groups_pushed [] g = append_none g.items
groups_pushed (h ∷ gs) g = ap (λ zs. h.items ++ zs) (groups_pushed gs g)
    ∙ sym (append_assoc h.items (in_groups gs) g.items)

-- what stands after a success, after a failure, and after either
pub ok_then : {X E : Type 0} (P Q : Type 0) (r : Result X E) → (P → Q) → OnOk r P → OnOk r Q
ok_then P Q (Ok x) w h = w h
ok_then P Q (Err e) w h = tt

pub err_then : {X E : Type 0} (P Q : Type 0) (r : Result X E) → (P → Q) → OnErr r P → OnErr r Q
err_then P Q (Ok x) w h = tt
err_then P Q (Err e) w h = w h

pub either_then : {X E : Type 0} (P Q R : Type 0) (r : Result X E) → (P → R) → (Q → R) → OnOk r P → OnErr r Q → R
either_then P Q R (Ok x) w v h k = w h
either_then P Q R (Err e) w v h k = v k

pub none_from : {X : Type 0} (o : Option X) → false ≡ is_some o → o ≡ None
none_from None e = refl
none_from (Some x) e = absurd (true≢false (sym e))

pub empty_from : {X : Type 0} (xs : List X) → (length xs == 0) ≡ true → xs ≡ []
empty_from [] e = refl
empty_from (x ∷ xs) e = let z = eqb-true (length (x ∷ xs)) 0 e in absurd (omega arith)
