-- Ends of cables, and outside ports, each of which stands once.
use Rattle.std.proofs.Common.{◌≡◌, ℕ, Bool, true, false, ◌&&◌, ◌||◌, ◌==◌, List, [], ◌∷◌, ◌++◌, Option, Some, None}
use Rattle.std.proofs.Common.{refl, ap, ◌∙◌, sym, subst, eq-eqb, eqb-true}
use Rattle.std.specs.Prelude.{filter, find, if◌then◌else◌}
use Rattle.std.specs.List.{AllByRecursion, list_any}
use Rattle.policy_meaning.specs.LeafFact.{EachPair}
use Rattle.policy_meaning.proofs.Booleans.{or_right, some_injective, split_and}
use Rattle.policy_meaning.proofs.Lists.{all-map}
use Rattle.switch_meaning.specs.Fixed.{ends_at}
use Rattle.switch_meaning.specs.Wirings.{other_end, same_spot}
use Rattle.switch_meaning.specs.declared.wiring.Cable.{Cable}
use Rattle.switch_meaning.specs.declared.wiring.Outside.{Outside}
use Rattle.switch_meaning.specs.declared.wiring.SwitchPort.{SwitchPort}
use Rattle.agreement.specs.Premises.{cable_ends}
use Rattle.agreement.proofs.Alone.{Alone, here, there}

pub spot-is : (a b : SwitchPort) → same_spot a b ≡ true → a ≡ b
spot-is a b e = let t = split_and (a.switch == b.switch) (a.port == b.port) e in
    λ i. record { switch = (eqb-true a.switch b.switch t.0) i; port = (eqb-true a.port b.port t.1) i }

pub spot-self : (a : SwitchPort) → same_spot a a ≡ true
spot-self a = rw (eq-eqb a.switch a.switch refl, eq-eqb a.port a.port refl) refl

-- items that are told apart by a test
module _ {A : Type 0} (eq : A → A → Bool) (is : (a b : A) → eq a b ≡ true → a ≡ b) where
  alone-next : (p x : A) (xs : List A) (b : Bool) → eq x p ≡ b → AllByRecursion (λ q. eq q x ≡ false) xs
      → (b ≡ false → Alone (λ q. eq q p ≡ false) xs p) → Alone (λ q. eq q p ≡ false) (x ∷ xs) p
  alone-next p x xs true e a rest =
      let same : x ≡ p = is x p e in
      subst (λ (z : A). Alone (λ q. eq q z ≡ false) (x ∷ xs) z) same (here a)
  alone-next p x xs false e a rest = there e (rest refl)

  -- what stands once
  pub alone-by : (xs : List A) (p : A) → EachPair (λ a b. eq b a ≡ false) xs → list_any (λ q. eq q p) xs ≡ true
      → Alone (λ q. eq q p ≡ false) xs p
  alone-by [] p d e = cc
  alone-by (x ∷ xs) p d e = alone-next p x xs (eq x p) refl d.0 (λ f. alone-by xs p d.1 (rw f at e))

-- the items that pass a test stay alone among those that do
kept : {A : Type 0} (P : A → Type 0) (t : A → Bool) (b : Bool) (y : A) (xs : List A) (x : A) → P y → Alone P xs x
    → Alone P (if b then y ∷ xs else xs) x
kept P t true y xs x p a = there p a
kept P t false y xs x p a = a

all-kept : {A : Type 0} (P : A → Type 0) (b : Bool) (y : A) (xs : List A) → P y → AllByRecursion P xs
    → AllByRecursion P (if b then y ∷ xs else xs)
all-kept P true y xs p a = (p, a)
all-kept P false y xs p a = a

pub all-filter : {A : Type 0} (P : A → Type 0) (t : A → Bool) (xs : List A) → AllByRecursion P xs
    → AllByRecursion P (filter t xs)
all-filter P t [] a = tt
all-filter P t (x ∷ xs) a = all-kept P (t x) x (filter t xs) a.0 (all-filter P t xs a.1)

here-kept : {A : Type 0} (P : A → Type 0) (b : Bool) (x : A) (xs : List A) → b ≡ true → AllByRecursion P xs
    → Alone P (if b then x ∷ xs else xs) x
here-kept P true x xs e a = here a
here-kept P false x xs e a = cc

pub alone-filter : {A : Type 0} (P : A → Type 0) (t : A → Bool) {xs : List A} {x : A} → t x ≡ true → Alone P xs x
    → Alone P (filter t xs) x
alone-filter P t e (here {x = x} {xs = xs} a) = here-kept P (t x) x (filter t xs) e (all-filter P t xs a)
alone-filter P t e (there {x = x} {y = y} {xs = xs} p a) = kept P t (t y) y (filter t xs) x p (alone-filter P t e a)

two-kept : {A : Type 0} (b c : Bool) (x y : A) (xs : List A)
    → (if b then x ∷ (if c then y ∷ [] else []) else (if c then y ∷ [] else [])) ++ xs
    ≡ (if b then x ∷ (if c then y ∷ xs else xs) else (if c then y ∷ xs else xs))
two-kept true true x y xs = refl
two-kept true false x y xs = refl
two-kept false true x y xs = refl
two-kept false false x y xs = refl

-- the ends of cables at a switch are those of all ends that lie there
pub ends-as : (switch : ℕ) (cs : List Cable)
    → ends_at switch cs ≡ filter (λ (s : SwitchPort). s.switch == switch) (cable_ends cs)
ends-as switch [] = refl
ends-as switch (c ∷ cs) =
    two-kept (c.one.switch == switch) (c.other.switch == switch) c.one c.other (ends_at switch cs)
    ∙ ap (λ (xs : List SwitchPort). if c.one.switch == switch
    then c.one ∷ (if c.other.switch == switch then c.other ∷ xs else xs)
    else (if c.other.switch == switch then c.other ∷ xs else xs)) (ends-as switch cs)

-- an end of a cable
abbrev pub is_end : List Cable → SwitchPort → Bool
is_end cs s = list_any (λ (q : SwitchPort). same_spot q s) (cable_ends cs)

-- each of them is one
pub all-self : (xs : List SwitchPort) → AllByRecursion (λ s. list_any (λ (q : SwitchPort). same_spot q s) xs ≡ true) xs
all-self [] = tt
all-self (x ∷ xs) = (
  rw (spot-self x) refl,
  all-map (λ s. list_any (λ (q : SwitchPort). same_spot q s) xs ≡ true)
      (λ s. list_any (λ (q : SwitchPort). same_spot q s) (x ∷ xs) ≡ true) xs (λ s e. or_right (same_spot x s) _ e)
      (all-self xs),
)

by_ends : (b c : Bool) (one other : SwitchPort) (o : Option SwitchPort) (any : Bool) → (o ≡ None → any ≡ false)
    → (if b then Some other else (if c then Some one else o)) ≡ None → (b || (c || any)) ≡ false
by_ends true c one other o any f e = cc
by_ends false true one other o any f e = cc
by_ends false false one other o any f e = f e

-- a port without a far end is no end
pub no-end : (cs : List Cable) (s : SwitchPort) → other_end cs s ≡ None → is_end cs s ≡ false
no-end [] s e = refl
no-end (c ∷ cs) s e = by_ends (same_spot c.one s) (same_spot c.other s) c.one c.other (other_end cs s) (is_end cs s)
    (no-end cs s) e

or_left : (a b : Bool) → a ≡ true → (a || b) ≡ true
or_left a b e = rw e refl

peer-by : (b c : Bool) (one other p : SwitchPort) (o : Option SwitchPort) (any : Bool) → (o ≡ Some p → any ≡ true)
    → (if b then Some other else (if c then Some one else o)) ≡ Some p
    → (same_spot one p || (same_spot other p || any)) ≡ true
peer-by true c one other p o any f e =
    or_right (same_spot one p) _
    (or_left (same_spot other p) any
    (subst (λ (z : SwitchPort). same_spot other z ≡ true) (some_injective e) (spot-self other)))
peer-by false true one other p o any f e =
    or_left (same_spot one p) _ (subst (λ (z : SwitchPort). same_spot one z ≡ true) (some_injective e) (spot-self one))
peer-by false false one other p o any f e = or_right (same_spot one p) _ (or_right (same_spot other p) any (f e))

-- the far end of a cable is an end
pub peer-end : (cs : List Cable) (s p : SwitchPort) → other_end cs s ≡ Some p → is_end cs p ≡ true
peer-end [] s p e = cc
peer-end (c ∷ cs) s p e = peer-by (same_spot c.one s) (same_spot c.other s) c.one c.other p (other_end cs s)
    (is_end cs p) (peer-end cs s p) e

-- an outside port by its virtual switch and number
abbrev pub is_port : Outside → Outside → Bool
is_port b a = (b.v == a.v) && (b.port == a.port)

found-self : (v p : ℕ) (xs : List Outside) (o : Outside) (x : Outside) (b : Bool) → ((x.v == v) && (x.port == p)) ≡ b
    → (if b then Some x else find (λ (o : Outside). (o.v == v) && (o.port == p)) xs) ≡ Some o
    → (find (λ (o : Outside). (o.v == v) && (o.port == p)) xs ≡ Some o
    → ((o.v ≡ v) × (o.port ≡ p)) × (list_any (λ q. is_port q o) xs ≡ true))
    → ((o.v ≡ v) × (o.port ≡ p)) × ((is_port x o || list_any (λ q. is_port q o) xs) ≡ true)
found-self v p xs o x true t e f =
    let same : x ≡ o = some_injective e in
    let s = split_and (x.v == v) (x.port == p) t in
    subst (λ (z : Outside). ((z.v ≡ v) × (z.port ≡ p)) × ((is_port x z || list_any (λ q. is_port q z) xs) ≡ true)) same
    ((eqb-true x.v v s.0, eqb-true x.port p s.1), rw (eq-eqb x.v x.v refl, eq-eqb x.port x.port refl) refl)
found-self v p xs o x false t e f = let g = f e in (g.0, or_right (is_port x o) _ g.1)

-- what is found stands in the list, under its numbers
pub found-there : (v p : ℕ) (xs : List Outside) (o : Outside)
    → find (λ (o : Outside). (o.v == v) && (o.port == p)) xs ≡ Some o
    → ((o.v ≡ v) × (o.port ≡ p)) × (list_any (λ q. is_port q o) xs ≡ true)
found-there v p [] o e = cc
found-there v p (x ∷ xs) o e = found-self v p xs o x ((x.v == v) && (x.port == p)) refl e (found-there v p xs o)

-- each outside port is found under its numbers
abbrev pub IsFound : List Outside → Outside → Type 0
IsFound xs o = find (λ (q : Outside). (q.v == o.v) && (q.port == o.port)) xs ≡ Some o

symmetric : (x o : Outside) → is_port o x ≡ false → is_port x o ≡ false
symmetric x o e = by_case (is_port x o) refl
  where
    by_case : (b : Bool) → is_port x o ≡ b → b ≡ false
    by_case true t = let s = split_and (x.v == o.v) (x.port == o.port) t in let u : is_port o x ≡ true =
        rw (eq-eqb o.v x.v (sym (eqb-true x.v o.v s.0)), eq-eqb o.port x.port (sym (eqb-true x.port o.port s.1)))
        refl in cc
    by_case false t = refl

pub all-found : (xs : List Outside) → EachPair (λ (a b : Outside). is_port b a ≡ false) xs
    → AllByRecursion (IsFound xs) xs
all-found [] d = tt
all-found (x ∷ xs) d = (
  rw (eq-eqb x.v x.v refl, eq-eqb x.port x.port refl) refl,
  further xs (all-found xs d.1) d.0,
)
  where
    further : (ys : List Outside) → AllByRecursion (IsFound xs) ys → AllByRecursion (λ b. is_port b x ≡ false) ys
        → AllByRecursion (IsFound (x ∷ xs)) ys
    further [] f n = tt
    further (y ∷ ys) f n = (rw (symmetric x y n.0) f.0, further ys f.1 n.1)

-- the outside port that is found is alone under its numbers
alone-found-next : (v p : ℕ) (x o : Outside) (xs : List Outside) (b : Bool) → ((x.v == v) && (x.port == p)) ≡ b
    → (o.v ≡ v) × (o.port ≡ p) → (if b then Some x else find (λ (q : Outside). (q.v == v) && (q.port == p)) xs) ≡ Some o
    → AllByRecursion (λ b. is_port b x ≡ false) xs
    → (find (λ (q : Outside). (q.v == v) && (q.port == p)) xs ≡ Some o → Alone (λ q. is_port q o ≡ false) xs o)
    → Alone (λ q. is_port q o ≡ false) (x ∷ xs) o
alone-found-next v p x o xs true t n e a f =
    subst (λ (z : Outside). Alone (λ q. is_port q z ≡ false) (x ∷ xs) z) (some_injective e) (here a)
alone-found-next v p x o xs false t n e a f = there (let g : is_port x o ≡ false = rw (n.0, n.1) t in g) (f e)

pub alone-found : (v p : ℕ) (xs : List Outside) (o : Outside) → EachPair (λ (a b : Outside). is_port b a ≡ false) xs
    → find (λ (q : Outside). (q.v == v) && (q.port == p)) xs ≡ Some o → Alone (λ q. is_port q o ≡ false) xs o
alone-found v p [] o d e = cc
alone-found v p (x ∷ xs) o d e = alone-found-next v p x o xs ((x.v == v) && (x.port == p)) refl
    (found-there v p (x ∷ xs) o e).0 e d.0 (λ f. alone-found v p xs o d.1 f)
