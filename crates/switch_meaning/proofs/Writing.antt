-- Steps of writing a list of actions.
use Rattle.std.proofs.Common.{◌≡◌, ℕ, ◌+◌, ◌<◌, List, [], ◌∷◌, ◌++◌, Option, Some, None, length, get_or, drop, refl, ap}
use Rattle.std.proofs.Common.{sym, ◌∙◌, append_assoc}
use Rattle.std.specs.Prelude.{option_map, MatchOption, IsSomeAnd, filter, map, not, if◌then◌else◌, Bool, true, false}
use Rattle.std.proofs.lemmas.List.{append-nil, at_drop_more, get_or_default}
use Rattle.of10_actions.specs.declared.action.Action.{Action}
use Rattle.of10_actions.specs.Fields.{RewriteOf}
use Rattle.of10_actions.specs.declared.effects.Out.{Out}
use Rattle.switch_meaning.specs.Placing.{actions_from, going, set_unless, sets_after, way_of}
use Rattle.switch_meaning.specs.declared.wiring.Wiring.{Wiring}

-- what a map of an option made
pub mapped_by : (P : ℕ → Action → Type 0) (act : ℕ → Action) (o : Option ℕ) (r : Option Action)
    → ((x : ℕ) (y : Action) → P x y → y ≡ act x) → MatchOption o (r ≡ None) (λ x. IsSomeAnd r (P x))
    → r ≡ option_map act o
mapped_by P act None r says e = e
mapped_by P act (Some x) None says e = absurd e
mapped_by P act (Some x) (Some y) says e = ap Some (says x y e)

-- one field more is set
pub set_more : (done set : List (Option Action)) (i : ℕ) (old new all : List Action) → i < length done → i < length set
    →
    new ≡ old ++ set_unless (get_or done i None) (get_or set i None)
    → old ++ sets_after (drop i done) (drop i set) ≡ all
    → new ++ sets_after (drop (i + 1) done) (drop (i + 1) set) ≡ all
set_more done set i old new all lt lt' added e =
    let one = set_unless (get_or done i None) (get_or set i None) in
    let rest = sets_after (drop (i + 1) done) (drop (i + 1) set) in
    let split : sets_after (drop i done) (drop i set) ≡ one ++ rest =
    at_drop_more (λ xs. sets_after xs (drop i set)) done i None lt
    ∙ at_drop_more (λ ys. sets_after (get_or done i None ∷ drop (i + 1) done) ys) set i None lt' in
    ap (λ xs. xs ++ rest) added ∙ (append_assoc old one rest ∙ (ap (λ xs. old ++ xs) (sym split) ∙ e))

-- an out is written by a way
pub written : (old sets_done tagged new rest : List Action) (s r : List Action) (o : Action) → sets_done ≡ old ++ s
    → tagged ≡ sets_done ++ r → new ≡ tagged ++ o ∷ [] → new ++ rest ≡ old ++ (s ++ (r ++ (o ∷ rest)))
written old sets_done tagged new rest s r o e f g =
    rw (g, f, e) (append_assoc ((old ++ s) ++ r) (o ∷ []) rest
    ∙ (append_assoc (old ++ s) r (o ∷ rest) ∙ append_assoc old s (r ++ (o ∷ rest))))

-- one out more is written
pub out_more : (w : Wiring) (switch : ℕ) (ingress : Option ℕ) (outs : List Out) (i : ℕ) (out : Out)
    (old new all : List Action) (now now' : RewriteOf) (tag tag' : Option ℕ) →
    i < length outs → out ≡ get_or outs i out →
    ((later : RewriteOf → Option ℕ → List Action)
    → new ++ later now' tag' ≡ old ++ going (way_of w switch ingress out.dest) now tag out.rewrite later) →
    old ++ actions_from w switch ingress now tag (drop i outs) ≡ all
    → new ++ actions_from w switch ingress now' tag' (drop (i + 1) outs) ≡ all
out_more w switch ingress outs i out old new all now now' tag tag' lt is added e =
    added (λ now tag. actions_from w switch ingress now tag (drop (i + 1) outs))
    ∙ (ap (λ xs. old ++ xs) (sym (at_drop_more (actions_from w switch ingress now tag) outs i out lt
    ∙ (λ j. actions_from w switch ingress now tag ((sym is) j ∷ drop (i + 1) outs)))) ∙ e)

-- what is gathered item by item, with one item more
pub gathered_more : {A B : Type 0} (f : List A → List B) → ((x : A) (xs : List A) → f (x ∷ xs) ≡ f (x ∷ []) ++ f xs)
    → (xs : List A) (i : ℕ) (x : A) (old new all : List B) →
    i < length xs → x ≡ get_or xs i x → new ≡ old ++ f (x ∷ []) → old ++ f (drop i xs) ≡ all
    → new ++ f (drop (i + 1) xs) ≡ all
gathered_more f splits xs i x old new all lt is added e =
    let rest = drop (i + 1) xs in
    ap (λ ys. ys ++ f rest) added ∙ (append_assoc old (f (x ∷ [])) (f rest)
    ∙ (ap (λ ys. old ++ ys) (sym (at_drop_more f xs i x lt ∙ ((λ j. f ((sym is) j ∷ rest)) ∙ splits x rest))) ∙ e))

one_kept : {A B : Type 0} (f : A → B) (b : Bool) (x : A) (xs : List A)
    → map f (if b then x ∷ xs else xs) ≡ map f (if b then x ∷ [] else []) ++ map f xs
one_kept f true x xs = refl
one_kept f false x xs = refl

same_kept : {A : Type 0} (b : Bool) (x : A) (xs : List A)
    → (if b then x ∷ xs else xs) ≡ (if b then x ∷ [] else []) ++ xs
same_kept true x xs = refl
same_kept false x xs = refl

-- one item more is kept, if it passes
pub kept_more : {A : Type 0} (p : A → Bool) (xs : List A) (i : ℕ) (x : A) (old new all : List A) → i < length xs
    → x ≡ get_or xs i x →
    new ≡ old ++ (if p x then x ∷ [] else []) → old ++ filter p (drop i xs) ≡ all
    → new ++ filter p (drop (i + 1) xs) ≡ all
kept_more p = gathered_more (filter p) (λ x xs. same_kept (p x) x (filter p xs))

-- one item more is kept, since it is not found
pub more_kept : {A : Type 0} (found : A → Bool) (xs : List A) (i : ℕ) (x : A) (old new all : List A) (b : Bool)
    → i < length xs → x ≡ get_or xs i x → b ≡ found x → b ≡ false →
    new ≡ old ++ x ∷ [] → old ++ filter (λ y. not (found y)) (drop i xs) ≡ all
    → new ++ filter (λ y. not (found y)) (drop (i + 1) xs) ≡ all
more_kept found xs i x old new all b lt is says absent added =
    kept_more (λ y. not (found y)) xs i x old new all lt is (added
    ∙ sym (ap (λ c. old ++ (if c then x ∷ [] else [])) (ap not (sym says ∙ absent))))

-- it is found, and left out
pub none_kept : {A : Type 0} (found : A → Bool) (xs : List A) (i : ℕ) (x : A) (old new all : List A) (b : Bool)
    → i < length xs → x ≡ get_or xs i x → b ≡ found x → b ≡ true →
    new ≡ old → old ++ filter (λ y. not (found y)) (drop i xs) ≡ all
    → new ++ filter (λ y. not (found y)) (drop (i + 1) xs) ≡ all
none_kept found xs i x old new all b lt is says present same =
    kept_more (λ y. not (found y)) xs i x old new all lt is
    (same
    ∙ (sym (append-nil old) ∙ sym (ap (λ c. old ++ (if c then x ∷ [] else [])) (ap not (sym says ∙ present)))))

-- what is made of one item more, if it passes
made_more : {A B : Type 0} (f : A → B) (p : A → Bool) (xs : List A) (i : ℕ) (x : A) (old new all : List B)
    → i < length xs → x ≡ get_or xs i x →
    new ≡ old ++ map f (filter p (x ∷ [])) → old ++ map f (filter p (drop i xs)) ≡ all
    → new ++ map f (filter p (drop (i + 1) xs)) ≡ all
made_more f p = gathered_more (λ xs. map f (filter p xs)) (λ x xs. one_kept f (p x) x (filter p xs))

-- the same, of the item at a place
pub made_at : {A B : Type 0} (f : A → B) (p : A → Bool) (xs : List A) (i : ℕ) (d : A) (old new all : List B)
    → i < length xs →
    new ≡ old ++ map f (filter p (get_or xs i d ∷ [])) → old ++ map f (filter p (drop i xs)) ≡ all
    → new ++ map f (filter p (drop (i + 1) xs)) ≡ all
made_at f p xs i d old new all lt = made_more f p xs i (get_or xs i d) old new all lt
    (get_or_default xs i d (get_or xs i d) lt)
