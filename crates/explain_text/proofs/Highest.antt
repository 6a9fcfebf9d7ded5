-- One pass over the entries of a switch finds the first of those that hold a header.
use Rattle.std.proofs.Common.{◌≡◌, ℕ, ◌<◌, ◌≤◌, ◌⊎◌, inl, inr, Bool, true, false, ◌&&◌, ◌||◌, List, [], ◌∷◌, Option}
use Rattle.std.proofs.Common.{Some, None, refl, ap, ◌∙◌, sym, eqb-true, eq-eqb, arith, Contains}
use Rattle.std.specs.Prelude.{◌==◌, IfSome, MatchOption, if◌then◌else◌, nat_lt}
use Rattle.std.specs.List.{AllByRecursion, list_any}
use Rattle.std.proofs.lemmas.Bool.{cases_lt, ltb-false, ltb-true}
use Rattle.std.proofs.lemmas.List.Elements.{Contains-append_right}
use Rattle.install_plan.specs.Best.{IsBest, is_above, is_holding, rank_of}
use Rattle.install_plan.specs.declared.written.Written.{Written}
use Rattle.of10_match.specs.Fields.{HeaderOf}
use Rattle.policy_meaning.proofs.Booleans.{some_injective}
use Rattle.switch_meaning.proofs.Items.{fails, split_and}
use Rattle.explain_text.specs.Using.{UsedIsBest, above, highest_from}

-- by ranks and cookies: the first is of a higher rank, or of the same one and of a lesser cookie
abbrev over : ℕ → ℕ → ℕ → ℕ → Bool
over r c s d = nat_lt s r || ((s == r) && nat_lt c d)

abbrev Over : ℕ → ℕ → ℕ → ℕ → Type 0
Over r c s d = (s < r) ⊎ ((s ≡ r) × (c < d))

abbrev NotOver : ℕ → ℕ → ℕ → ℕ → Type 0
NotOver r c s d = (r < s) ⊎ ((r ≡ s) × (d ≤ c))

is-over : (r c s d : ℕ) → over r c s d ≡ true → Over r c s d
is-over r c s d e = by (nat_lt s r) refl e
  where
    by : (b : Bool) → nat_lt s r ≡ b → (b || ((s == r) && nat_lt c d)) ≡ true → Over r c s d
    by true f e = inl (ltb-true s r f)
    by false f e =
        let both = split_and (s == r) (nat_lt c d) e in
        inr (eqb-true s r both.0, ltb-true c d both.1)

below : (r s : ℕ) → r ≤ s → (s ≡ r → ⊥) → r < s
below r s le apart = elim (cases_lt r s) [ inl lt ↦ lt | inr more ↦ absurd (apart (omega (arith, le, more))) ]

not-over : (r c s d : ℕ) → over r c s d ≡ false → NotOver r c s d
not-over r c s d e = by (nat_lt s r) (s == r) (nat_lt c d) refl refl refl e
  where
    by : (a b f : Bool) → nat_lt s r ≡ a → (s == r) ≡ b → nat_lt c d ≡ f → (a || (b && f)) ≡ false → NotOver r c s d
    by true b f x y z e = cc
    by false true true x y z e = cc
    by false true false x y z e = inr (sym (eqb-true s r y), ltb-false c d z)
    by false false f x y z e =
        let le : r ≤ s = ltb-false s r x in
        inl (below r s le (λ same. let t : (s == r) ≡ true = eq-eqb s r same in cc))

isn't-over : (r c s d : ℕ) → NotOver r c s d → over r c s d ≡ false
isn't-over r c s d n = fails (over r c s d) (λ e. clash n (is-over r c s d e))
  where
    clash : NotOver r c s d → Over r c s d → ⊥
    clash (inl lt) (inl more) = omega arith
    clash (inl lt) (inr same) = let e = same.0 in omega arith
    clash (inr same) (inl more) = let e = same.0 in omega arith
    clash (inr same) (inr less) = let e = same.1 in let f = less.1 in omega arith

-- what isn't over a lower one isn't over a higher one
lower-first : (r c s d t e : ℕ) → over r c s d ≡ true → over r c t e ≡ false → over s d t e ≡ false
lower-first r c s d t e high low = isn't-over s d t e (by (is-over r c s d high) (not-over r c t e low))
  where
    by : Over r c s d → NotOver r c t e → NotOver s d t e
    by (inl more) (inl lt) = inl (omega arith)
    by (inl more) (inr same) = let f = same.0 in inl (omega arith)
    by (inr same) (inl lt) = let f = same.0 in inl (omega arith)
    by (inr same) (inr less) = let f = same.0 in let g = less.0 in let x = same.1 in let y = less.1 in
        inr (omega arith, omega arith)

-- what isn't over one that isn't over another isn't over that
not-over-both : (r c s d t e : ℕ) → over r c s d ≡ false → over s d t e ≡ false → over r c t e ≡ false
not-over-both r c s d t e one two = isn't-over r c t e (by (not-over r c s d one) (not-over s d t e two))
  where
    by : NotOver r c s d → NotOver s d t e → NotOver r c t e
    by (inl lt) (inl more) = inl (omega arith)
    by (inl lt) (inr same) = let f = same.0 in inl (omega arith)
    by (inr same) (inl lt) = let f = same.0 in inl (omega arith)
    by (inr same) (inr less) = let f = same.0 in let g = less.0 in let x = same.1 in let y = less.1 in
        inr (omega arith, omega arith)

abbrev rank : Written → ℕ
rank w = rank_of w.entry

not-above-self : (w : Written) → is_above w w ≡ false
not-above-self w = isn't-over (rank w) w.cookie (rank w) w.cookie (inr (refl, omega arith))

-- of entries that hold the header none is above this one
abbrev NotAbove : HeaderOf → Written → Written → Type 0
NotAbove h b v = is_holding h v ≡ true → is_above v b ≡ false

-- an entry is the highest of another one, if there is one, and of those of a list that hold the header
record Highest (h : HeaderOf) (best : Option Written) (ws : List Written) (b : Written) : Type 0 where
  from : (best ≡ Some b) ⊎ (Contains ws b × (is_holding h b ≡ true))
  over_best : IfSome best (λ v. is_above v b ≡ false)
  over_all : AllByRecursion (NotAbove h b) ws

abbrev NoneHolds : HeaderOf → List Written → Type 0
NoneHolds h ws = AllByRecursion (λ v. is_holding h v ≡ false) ws

abbrev Found : HeaderOf → Option Written → List Written → Option Written → Type 0
Found h best ws found = MatchOption found ((best ≡ None) × NoneHolds h ws) (Highest h best ws)

at-end : (h : HeaderOf) (best : Option Written) → Found h best [] best
at-end h None = (refl, tt)
at-end h (Some b) = record { from = inl refl; over_best = not-above-self b; over_all = tt }

later-in : (ws : List Written) (w b : Written) → Contains ws b → Contains (w ∷ ws) b
later-in ws w b there = Contains-append_right (w ∷ []) ws b there

module _ (h : HeaderOf) (w : Written) (ws : List Written) where
  -- an entry that doesn't hold the header is passed over
  passed : (best found : Option Written) → is_holding h w ≡ false → Found h best ws found → Found h best (w ∷ ws) found
  passed best None f a = (a.0, (f, a.1))
  passed best (Some b) f a = record {
    from = further a.from;
    over_best = a.over_best;
    over_all = (λ p. cc, a.over_all);
  }
    where
      further : (best ≡ Some b) ⊎ (Contains ws b × (is_holding h b ≡ true))
          → (best ≡ Some b) ⊎ (Contains (w ∷ ws) b × (is_holding h b ≡ true))
      further (inl e) = inl e
      further (inr there) = inr (later-in ws w b there.0, there.1)

  module _ (holding : is_holding h w ≡ true) where
    -- where the list's first entry is the highest so far
    taken : (best : Option Written) (b : Written) → IfSome best (λ v. is_above w v ≡ true) → Highest h (Some w) ws b
        → Highest h best (w ∷ ws) b
    taken best b high a = record {
      from = inr (first a.from);
      over_best = lower best high;
      over_all = (λ _. a.over_best, a.over_all);
    }
      where
        first : (Some w ≡ Some b) ⊎ (Contains ws b × (is_holding h b ≡ true))
            → Contains (w ∷ ws) b × (is_holding h b ≡ true)
        first (inl e) =
            let same : w ≡ b = some_injective e in
            ((0, omega arith, same), ap (is_holding h) (sym same) ∙ holding)
        first (inr there) = (later-in ws w b there.0, there.1)

        lower : (best : Option Written) → IfSome best (λ v. is_above w v ≡ true)
            → IfSome best (λ v. is_above v b ≡ false)
        lower None f = tt
        lower (Some v) f = lower-first (rank w) w.cookie (rank v) v.cookie (rank b) b.cookie f a.over_best

    -- where it isn't
    kept : (v b : Written) → is_above w v ≡ false → Highest h (Some v) ws b → Highest h (Some v) (w ∷ ws) b
    kept v b low a = record {
      from = further a.from;
      over_best = a.over_best;
      over_all = (λ _. not-over-both (rank w) w.cookie (rank v) v.cookie (rank b) b.cookie low a.over_best, a.over_all);
    }
      where
        further : (Some v ≡ Some b) ⊎ (Contains ws b × (is_holding h b ≡ true))
            → (Some v ≡ Some b) ⊎ (Contains (w ∷ ws) b × (is_holding h b ≡ true))
        further (inl e) = inl e
        further (inr there) = inr (later-in ws w b there.0, there.1)

    by-above : (v : Written) (b : Bool) → is_above w v ≡ b → (found : Option Written)
        → Found h (Some (if b then w else v)) ws found → Found h (Some v) (w ∷ ws) found
    by-above v b e None a = let never = a.0 in cc
    by-above v true e (Some b) a = taken (Some v) b e a
    by-above v false e (Some b) a = kept v b e a

    weighed : (best found : Option Written) → Found h (Some (above best w)) ws found → Found h best (w ∷ ws) found
    weighed None None a = let never = a.0 in cc
    weighed None (Some b) a = taken None b tt a
    weighed (Some v) found a = by-above v (is_above w v) refl found a

found-from : (h : HeaderOf) (best : Option Written) (ws : List Written) → Found h best ws (highest_from h best ws)
found-from h best [] = at-end h best
found-from h best (w ∷ ws) = by (is_holding h w) refl (found-from h (Some (above best w)) ws) (found-from h best ws)
  where
    by : (b : Bool) → is_holding h w ≡ b → Found h (Some (above best w)) ws (highest_from h (Some (above best w)) ws)
        → Found h best ws (highest_from h best ws)
        → Found h best (w ∷ ws) (highest_from h (if b then Some (above best w) else best) ws)
    by true e one two = weighed h w ws e best (highest_from h (Some (above best w)) ws) one
    by false e one two = passed h w ws best (highest_from h best ws) e two

none-any : (h : HeaderOf) (ws : List Written) → NoneHolds h ws → list_any (is_holding h) ws ≡ false
none-any h [] a = refl
none-any h (w ∷ ws) a = let e = a.0 in let f = none-any h ws a.1 in cc

none-higher : (h : HeaderOf) (b : Written) (ws : List Written) → AllByRecursion (NotAbove h b) ws
    → list_any (λ v. is_holding h v && is_above v b) ws ≡ false
none-higher h b [] a = refl
none-higher h b (w ∷ ws) a = by (is_holding h w) refl (none-higher h b ws a.1)
  where
    by : (c : Bool) → is_holding h w ≡ c → list_any (λ v. is_holding h v && is_above v b) ws ≡ false
        → ((c && is_above w b) || list_any (λ v. is_holding h v && is_above v b) ws) ≡ false
    by true e f = let g = a.0 e in cc
    by false e f = f

pub used_is_best : UsedIsBest
used_is_best h standing = by (highest_from h None standing) (found-from h None standing)
  where
    stands : (b : Written) → (None ≡ Some b) ⊎ (Contains standing b × (is_holding h b ≡ true))
        → Contains standing b × (is_holding h b ≡ true)
    stands b (inl e) = cc
    stands b (inr there) = there

    by : (found : Option Written) → Found h None standing found → IsBest h standing found
    by None a = none-any h standing a.1
    by (Some b) a = let at = stands b a.from in record {
      stands = at.0;
      holds_it = at.1;
      none_above = none-higher h b standing a.over_all;
    }
