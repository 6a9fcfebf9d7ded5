-- The places of a switch are listed.
use Rattle.std.proofs.Common.{◌≡◌, ℕ, Bool, true, false, cond, List, [], ◌∷◌, ◌++◌, refl, sym, ap, subst, ◌∙◌}
use Rattle.std.specs.Prelude.{filter}
use Rattle.std.specs.List.{AllByRecursion}
use Rattle.std.specs.List.Sorted.{IsStrictlySortedBy}
use Rattle.std.specs.Map.{keys_of}
use Rattle.std.specs.declared.cmp.Ordering.TheVariants.{Less}
use Rattle.stats_map.specs.Counting.{Place, place_cmp}
use Rattle.stats_map.proofs.Rows.{place_total}
use Rattle.stats_map.proofs.Overlays.{Rise}
use Rattle.stats_map.proofs.Switches.{above, all-above, other-is, part_of, same-is, same-switch, starts}

appended : (xs ys : List Place) (p : Place) → (xs ++ p ∷ []) ++ ys ≡ xs ++ p ∷ ys
appended [] ys p = refl
appended (x ∷ xs) ys p = ap (λ zs. x ∷ zs) (appended xs ys p)

alone : (xs : List Place) → xs ++ [] ≡ xs
alone [] = refl
alone (x ∷ xs) = ap (λ zs. x ∷ zs) (alone xs)

module _ {V : Type 0} (switch : ℕ) where
  -- what is left to list: some places are listed, and these are left
  pub record IsLeft (all : List Place) (listed : List Place) (left : List (Place × V)) : Type 0 where
    pub told : listed ++ keys_of (part_of switch left) ≡ all
    pub rise : IsStrictlySortedBy place_cmp (keys_of left)
    pub from : AllByRecursion (λ (e : Place × V). starts switch e ≡ true) left

  above-from : (x : Place) (es : List (Place × V)) → AllByRecursion (λ z. place_cmp x z ≡ Less) (keys_of es)
      → AllByRecursion (λ z. place_cmp x z ≡ Less) (keys_of (filter (starts switch) es))
  above-from x [] a = tt
  above-from x (e ∷ es) a = by (starts switch e) (above-from x es a.1)
    where
      by : (b : Bool) → AllByRecursion (λ z. place_cmp x z ≡ Less) (keys_of (filter (starts switch) es))
          → AllByRecursion (λ z. place_cmp x z ≡ Less)
          (keys_of (cond b (e ∷ filter (starts switch) es) (filter (starts switch) es)))
      by true rest = (a.0, rest)
      by false rest = rest

  rise-from : (es : List (Place × V)) → Rise place_total es → Rise place_total (filter (starts switch) es)
  unfolding IsStrictlySortedBy
  rise-from [] r = tt
  rise-from (e ∷ es) r = by (starts switch e) (rise-from es r.1)
    where
      by : (b : Bool) → IsStrictlySortedBy place_cmp (keys_of (filter (starts switch) es))
          → IsStrictlySortedBy place_cmp (keys_of (cond b (e ∷ filter (starts switch) es) (filter (starts switch) es)))
      by true rest = (above-from e.0 es r.0, rest)
      by false rest = rest

  all-from : (es : List (Place × V))
      → AllByRecursion (λ (e : Place × V). starts switch e ≡ true) (filter (starts switch) es)
  all-from [] = tt
  all-from (e ∷ es) = by (starts switch e) refl (all-from es)
    where
      by : (b : Bool) → starts switch e ≡ b
          → AllByRecursion (λ (x : Place × V). starts switch x ≡ true) (filter (starts switch) es)
          → AllByRecursion (λ (x : Place × V). starts switch x ≡ true)
          (cond b (e ∷ filter (starts switch) es) (filter (starts switch) es))
      by true t rest = (t, rest)
      by false t rest = rest

  pub left-first : (es part : List (Place × V)) (listed : List Place) → listed ≡ [] → part ≡ filter (starts switch) es
      → Rise place_total es → IsLeft (keys_of (part_of switch es)) listed part
  left-first es part listed none is r = record {
    told = ap (λ xs. xs ++ keys_of (part_of switch part)) none
        ∙ (ap (λ xs. keys_of (part_of switch xs)) is ∙ sym (ap keys_of (same-switch switch es)));
    rise = subst (Rise place_total) (sym is) (rise-from es r);
    from = subst (AllByRecursion (λ (e : Place × V). starts switch e ≡ true)) (sym is) (all-from es);
  }

  module _ (all listed : List Place) (left rest : List (Place × V)) (p : Place) (v : V) (is : left ≡ (p, v) ∷ rest)
      (was : IsLeft all listed left) where
    both : IsLeft all listed ((p, v) ∷ rest)
    both = subst (IsLeft all listed) is was

    pub left-next : (listed' : List Place) → listed' ≡ listed ++ p ∷ [] → p.0 ≡ switch → IsLeft all listed' rest
    unfolding IsStrictlySortedBy
    left-next listed' e own = record {
      told =
          ap (λ xs. xs ++ keys_of (part_of switch rest)) e
          ∙ (appended listed (keys_of (part_of switch rest)) p
          ∙ (sym (ap (λ b. listed ++ keys_of (cond b ((p, v) ∷ part_of switch rest) (part_of switch rest)))
          (same-is p.0 switch own)) ∙ both.told));
      rise = both.rise.1;
      from = both.from.1;
    }

    pub left-past : (p.0 ≡ switch → ⊥) → listed ≡ all
    unfolding IsStrictlySortedBy
    left-past other =
        let apart = other-is p.0 switch other in
        let none = all-above switch p rest (above switch (p, v) both.from.0 apart) both.rise.0 in
        sym (alone listed)
        ∙ (sym (ap (λ xs. listed ++ keys_of xs) none)
        ∙ (sym (ap (λ b. listed ++ keys_of (cond b ((p, v) ∷ part_of switch rest) (part_of switch rest))) apart)
        ∙ both.told))

  pub left-none : (all listed : List Place) (left : List (Place × V)) → left ≡ [] → IsLeft all listed left
      → listed ≡ all
  left-none all listed left is was = sym (alone listed)
      ∙ (sym (ap (λ xs. listed ++ keys_of (part_of switch xs)) is) ∙ was.told)
