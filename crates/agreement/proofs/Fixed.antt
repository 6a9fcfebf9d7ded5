-- The entries of a switch in which tables have no part.
use Rattle.std.proofs.Common.{◌≡◌, ℕ, Bool, true, false, ◌&&◌, ◌||◌, ◌==◌, List, [], ◌∷◌, ◌++◌, Option, Some, None}
use Rattle.std.proofs.Common.{refl, sym, subst, eq-eqb, eqb-true}
use Rattle.std.specs.Prelude.{filter, find, flat_map, if◌then◌else◌, is_some, map, not, option_to_list}
use Rattle.std.specs.List.{AllByRecursion, list_any}
use Rattle.policy_meaning.proofs.Booleans.{or_right, some_injective, split_and}
use Rattle.policy_meaning.proofs.Lists.{all-append, all-flat_map, all-map, all-mapped, all-zip}
use Rattle.switch_meaning.specs.Fixed.{drop_entry, drops, ends_at, fixed_entries, guard, guards, is_guarded, passes}
use Rattle.switch_meaning.specs.Fixed.{transit, transits, transits_to}
use Rattle.switch_meaning.specs.Wirings.{outside_at, same_spot}
use Rattle.switch_meaning.specs.declared.entry.PhysEntry.{PhysEntry}
use Rattle.switch_meaning.specs.declared.wiring.Outside.{Outside}
use Rattle.switch_meaning.specs.declared.wiring.SwitchPort.{SwitchPort}
use Rattle.switch_meaning.specs.declared.wiring.Wiring.{Wiring}
use Rattle.agreement.specs.declared.state.Setting.{Setting}
use Rattle.agreement.specs.Entries.{dropping, is_whole, ports_at}
use Rattle.agreement.specs.Premises.{IsSoundSetting, cable_ends}
use Rattle.agreement.proofs.Cables.{IsFound, all-filter, all-found, all-self, ends-as, is_end}

-- what is kept passes the test
passing-next : {A : Type 0} (t : A → Bool) (b : Bool) (x : A) (xs : List A) → t x ≡ b
    → AllByRecursion (λ y. t y ≡ true) xs → AllByRecursion (λ y. t y ≡ true) (if b then x ∷ xs else xs)
passing-next t true x xs e a = (e, a)
passing-next t false x xs e a = a

pub all-passing : {A : Type 0} (t : A → Bool) (xs : List A) → AllByRecursion (λ y. t y ≡ true) (filter t xs)
all-passing t [] = tt
all-passing t (x ∷ xs) = passing-next t (t x) x (filter t xs) refl (all-passing t xs)

-- the spot of an outside port
abbrev pub is_spot : ℕ → ℕ → Outside → Bool
is_spot switch p o = same_spot o.at (record { switch = switch; port = p })

drop-next : (P : PhysEntry → Type 0) (p : ℕ) (ps : List ℕ) (b : Bool) → (b ≡ false → P (drop_entry p))
    → AllByRecursion P (map drop_entry ps) → AllByRecursion P (map drop_entry (if not b then p ∷ ps else ps))
drop-next P p ps true f a = a
drop-next P p ps false f a = (f refl, a)

-- an entry that drops does so at a port of no virtual switch
pub all-drop : (P : PhysEntry → Type 0) (w : Wiring) (switch : ℕ) (ports : List ℕ)
    → ((p : ℕ) → list_any (is_spot switch p) w.outside ≡ false → P (drop_entry p))
    → AllByRecursion P (drops w switch ports)
all-drop P w switch [] f = tt
all-drop P w switch (p ∷ ps) f = drop-next P p (filter (λ (q : ℕ). not (list_any (is_spot switch q) w.outside)) ps)
    (list_any (is_spot switch p) w.outside) (f p) (all-drop P w switch ps f)

found-any : {A : Type 0} (test other : A → Bool) (b : Bool) (x : A) (xs : List A) (o : A)
    → (if b then Some x else find test xs) ≡ Some o → other o ≡ true
    → (find test xs ≡ Some o → list_any other xs ≡ true) → (other x || list_any other xs) ≡ true
found-any test other true x xs o e t f = let same : x ≡ o = some_injective e in rw (same, t) refl
found-any test other false x xs o e t f = or_right (other x) (list_any other xs) (f e)

-- what is found stands in the list
pub find-any : {A : Type 0} (test other : A → Bool) (xs : List A) (o : A) → find test xs ≡ Some o → other o ≡ true
    → list_any other xs ≡ true
find-any test other [] o e t = cc
find-any test other (x ∷ xs) o e t = found-any test other (test x) x xs o e t (λ f. find-any test other xs o f t)

-- the spot of an outside port is none where entries drop
pub not-dropped : (w : Wiring) (v p : ℕ) (o : Outside) → outside_at w v p ≡ Some o
    → list_any (is_spot o.at.switch o.at.port) w.outside ≡ true
not-dropped w v p o e =
    find-any (λ (o : Outside). (o.v == v) && (o.port == p)) (is_spot o.at.switch o.at.port) w.outside o e
    (rw (eq-eqb o.at.switch o.at.switch refl, eq-eqb o.at.port o.at.port refl) refl)

-- an end of a cable at a switch
abbrev pub IsEndHere : Setting → ℕ → SwitchPort → Type 0
IsEndHere s switch p = (is_end s.wiring.cables p ≡ true) × (p.switch ≡ switch)

pub all-ends-here : (s : Setting) (switch : ℕ) → AllByRecursion (IsEndHere s switch) (ends_at switch s.wiring.cables)
all-ends-here s switch =
    subst (λ (xs : List SwitchPort). AllByRecursion (IsEndHere s switch) xs) (sym (ends-as switch s.wiring.cables))
    (all-map (λ (p : SwitchPort). (is_end s.wiring.cables p ≡ true) × ((p.switch == switch) ≡ true))
    (IsEndHere s switch) (filter (λ (p : SwitchPort). p.switch == switch) (cable_ends s.wiring.cables))
    (λ p g. (g.0, eqb-true p.switch switch g.1))
    (all-zip (λ (p : SwitchPort). is_end s.wiring.cables p ≡ true) (λ (p : SwitchPort). (p.switch == switch) ≡ true)
    (filter (λ (p : SwitchPort). p.switch == switch) (cable_ends s.wiring.cables))
    (all-filter (λ (p : SwitchPort). is_end s.wiring.cables p ≡ true) (λ (p : SwitchPort). p.switch == switch)
    (cable_ends s.wiring.cables) (all-self (cable_ends s.wiring.cables)))
    (all-passing (λ (p : SwitchPort). p.switch == switch) (cable_ends s.wiring.cables))))

module _ (s : Setting) (good : IsSoundSetting s) (P : PhysEntry → Type 0) (switch : ℕ) where
  -- a guard is one of an outside port
  pub all-guards : ((o : Outside) → outside_at s.wiring o.v o.port ≡ Some o → o.at.switch ≡ switch → P (guard o))
      → AllByRecursion P (guards s.wiring switch)
  all-guards f =
      all-mapped (λ (o : Outside). IsFound s.wiring.outside o × (is_guarded switch o ≡ true)) P guard
      (filter (is_guarded switch) s.wiring.outside)
      (λ o g. f o g.0 (eqb-true o.at.switch switch (split_and (o.at.switch == switch) (is_some o.tag) g.1).0))
      (all-zip (IsFound s.wiring.outside) (λ o. is_guarded switch o ≡ true)
      (filter (is_guarded switch) s.wiring.outside)
      (all-filter (IsFound s.wiring.outside) (is_guarded switch) s.wiring.outside
      (all-found s.wiring.outside good.placing.once)) (all-passing (is_guarded switch) s.wiring.outside))

  -- a transit entry is one of an outside port with a tag, at an end of a cable
  abbrev pub ToPort : Outside → Type 0
  ToPort o = (t : ℕ) (p : SwitchPort) → o.tag ≡ Some t → IsEndHere s switch p → P (transit s.wiring p o t)

  by_tag : (o : Outside) (f : ToPort o) (t : Option ℕ) → o.tag ≡ t
      → AllByRecursion P
      (flat_map (λ (tag : ℕ). map (λ (p : SwitchPort). transit s.wiring p o tag)
      (filter (λ (p : SwitchPort). passes s.wiring p o) (ends_at switch s.wiring.cables))) (option_to_list t))
  by_tag o f None e = tt
  by_tag o f (Some t) e =
      all-append P (map (λ (p : SwitchPort). transit s.wiring p o t)
      (filter (λ (p : SwitchPort). passes s.wiring p o) (ends_at switch s.wiring.cables))) []
      (all-mapped (IsEndHere s switch) P (λ (p : SwitchPort). transit s.wiring p o t)
      (filter (λ (p : SwitchPort). passes s.wiring p o) (ends_at switch s.wiring.cables)) (λ p h. f t p e h)
      (all-filter (IsEndHere s switch) (λ (p : SwitchPort). passes s.wiring p o) (ends_at switch s.wiring.cables)
      (all-ends-here s switch))) tt

  pub transits-to : (o : Outside) → ToPort o → AllByRecursion P (transits_to s.wiring switch o)
  transits-to o f = by_tag o f o.tag refl

  pub all-transits : ((o : Outside) → outside_at s.wiring o.v o.port ≡ Some o → ToPort o)
      → AllByRecursion P (transits s.wiring switch)
  all-transits f =
      all-flat_map (IsFound s.wiring.outside) P (transits_to s.wiring switch) s.wiring.outside
      (λ o g. transits-to o (f o g)) (all-found s.wiring.outside good.placing.once)

  by_whole : (b : Bool) → AllByRecursion P (drops s.wiring switch (ports_at s switch))
      → AllByRecursion P (if b then drops s.wiring switch (ports_at s switch) else [])
  by_whole true a = a
  by_whole false a = tt

  pub all-dropping : ((p : ℕ) → list_any (is_spot switch p) s.wiring.outside ≡ false → P (drop_entry p))
      → AllByRecursion P (dropping s switch)
  all-dropping f = by_whole (is_whole s switch) (all-drop P s.wiring switch (ports_at s switch) f)

-- what is put on a switch whatever the tables have
abbrev pub fixed_at : Setting → ℕ → List PhysEntry
fixed_at s switch = fixed_entries s.wiring switch ++ dropping s switch

pub all-fixed : (s : Setting) (P : PhysEntry → Type 0) (switch : ℕ) → AllByRecursion P (guards s.wiring switch)
    → AllByRecursion P (transits s.wiring switch)
    → AllByRecursion P (dropping s switch) → AllByRecursion P (fixed_at s switch)
all-fixed s P switch g t d =
    all-append P (guards s.wiring switch ++ transits s.wiring switch) (dropping s switch)
    (all-append P (guards s.wiring switch) (transits s.wiring switch) g t) d
