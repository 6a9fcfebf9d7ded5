-- Where rows of a key belong among runs.
use Rattle.std.proofs.Common.{◌≡◌, ◌∙◌, ◌+◌, ◌-◌, ◌<◌, ◌≤◌, ℕ, zero, suc, Bool, true, false, List, [], ◌∷◌, ◌++◌}
use Rattle.std.proofs.Common.{arith, ap, append-nil, append_assoc, drop, get_or, length, map, not, refl, subst}
use Rattle.std.proofs.Common.{sym, take, take-append-drop, Some}
use Rattle.std.specs.Prelude.{slice_get}
use Rattle.std.specs.List.{insert, remove}
use Rattle.std.specs.Arc.{arc_value}
use Rattle.std.specs.List.{AllByRecursion, AllWithin}
use Rattle.std.specs.declared.sync.Arc.{Arc}
use Rattle.std.proofs.lemmas.List.{drop_more, take_more}
use Rattle.install_plan.specs.declared.written.Written.{Written}
use Rattle.install_plan.proofs.Ancestries.{each-drop}
use Rattle.policy_meaning.specs.LeafFact.{EachPair}
use Rattle.policy_meaning.proofs.Lists.{all-append, all-map}
use Rattle.switch_meaning.specs.declared.entry.PhysEntry.{PhysEntry}
use Rattle.shared_rows.specs.Rows.{IsLower, NotAfter, Rise, has_key, is_past}
use Rattle.shared_rows.specs.InsideRuns.{HaveRows, begins_past, first_past, joined}
use Rattle.shared_rows.proofs.InOrder.{behind_past, front_apart, front_not_past}
use Rattle.shared_rows.proofs.Lists.{all_back, all_front, dropped, not_false, not_true, pairs_across}
use Rattle.shared_rows.proofs.Lists.{pairs_back, pairs_front}
use Rattle.shared_rows.proofs.Lists.{taken}

less_one : (n : ℕ) → suc n - 1 ≡ n
less_one n = omega arith

abbrev pub Run : Type 0 → Type 0
Run Z = Arc (List Written) Z

narrower : (us ws vs : List Written) → AllByRecursion (λ u. AllByRecursion (NotAfter u) (ws ++ vs)) us
    → AllByRecursion (λ u. AllByRecursion (NotAfter u) ws) us
narrower us ws vs h =
    all-map (λ u. AllByRecursion (NotAfter u) (ws ++ vs)) (λ u. AllByRecursion (NotAfter u) ws) us
    (λ u a. all_front (NotAfter u) ws vs a) h

further : (us ws vs : List Written) → AllByRecursion (λ u. AllByRecursion (NotAfter u) (ws ++ vs)) us
    → AllByRecursion (λ u. AllByRecursion (NotAfter u) vs) us
further us ws vs h =
    all-map (λ u. AllByRecursion (NotAfter u) (ws ++ vs)) (λ u. AllByRecursion (NotAfter u) vs) us
    (λ u a. all_back (NotAfter u) ws vs a) h

module _ (e : PhysEntry) where
  -- rows begin with one that isn't past, where others behind them do
  first_step : (us ws : List Written) → 0 < length us → AllByRecursion (λ u. AllByRecursion (NotAfter u) ws) us
      → 0 < length ws → first_past e ws ≡ false → first_past e us ≡ false
  first_step [] ws some across lt f = absurd (omega arith)
  first_step (u ∷ us) [] some across lt f = absurd (omega arith)
  first_step (u ∷ us) (w ∷ ws) some across lt f = front_not_past e u w across.0.0 f

  rows_past : (ws : List Written) → Rise ws → first_past e ws ≡ true → AllByRecursion (λ w. is_past e w ≡ true) ws
  rows_past [] rise t = tt
  rows_past (w ∷ ws) rise t =
      (t, all-map (NotAfter w) (λ v. is_past e v ≡ true) ws (λ v up. behind_past e w v up t) rise.0)

  front_all : (us ws : List Written) → AllByRecursion (λ u. AllByRecursion (NotAfter u) ws) us → 0 < length ws
      → first_past e ws ≡ false → AllByRecursion (λ w. is_past e w ≡ false) us
  front_all us [] across lt f = absurd (omega arith)
  front_all us (w ∷ ws) across lt f =
      all-map (λ u. AllByRecursion (NotAfter u) (w ∷ ws)) (λ u. is_past e u ≡ false) us
      (λ u a. front_not_past e u w a.0 f) across

  front_others : (us ws : List Written) → AllByRecursion (λ u. AllByRecursion (IsLower u) ws) us → 0 < length ws
      → first_past e ws ≡ false → AllByRecursion (λ w. has_key e w ≡ false) us
  front_others us [] across lt f = absurd (omega arith)
  front_others us (w ∷ ws) across lt f =
      all-map (λ u. AllByRecursion (IsLower u) (w ∷ ws)) (λ u. has_key e u ≡ false) us
      (λ u a. front_apart e u w a.0 f) across

  first_joined : (us ws : List Written) → 0 < length us → first_past e us ≡ false → first_past e (us ++ ws) ≡ false
  first_joined [] ws lt f = absurd (omega arith)
  first_joined (u ∷ us) ws lt f = f

module _ {Z : Type 0} where
  pub joined_append : (xs ys : List (Run Z)) → joined (xs ++ ys) ≡ joined xs ++ joined ys
  joined_append [] ys = refl
  joined_append (x ∷ xs) ys =
      ap (λ ws. arc_value x ++ ws) (joined_append xs ys) ∙ sym (append_assoc (arc_value x) (joined xs) (joined ys))

  pub joined_split : (n : ℕ) (xs : List (Run Z)) → joined xs ≡ joined (take n xs) ++ joined (drop n xs)
  joined_split n xs = ap joined (sym (take-append-drop n xs)) ∙ joined_append (take n xs) (drop n xs)

  pub have_append : (xs ys : List (Run Z)) → HaveRows xs → HaveRows ys → HaveRows (xs ++ ys)
  have_append [] ys p q = q
  have_append (x ∷ xs) ys p q = (p.0, have_append xs ys p.1 q)

  pub have_take : (n : ℕ) (xs : List (Run Z)) → HaveRows xs → HaveRows (take n xs)
  have_take zero xs h = tt
  have_take (suc n) [] h = tt
  have_take (suc n) (x ∷ xs) h = (h.0, have_take n xs h.1)

  pub have_drop : (n : ℕ) (xs : List (Run Z)) → HaveRows xs → HaveRows (drop n xs)
  have_drop zero xs h = h
  have_drop (suc n) [] h = tt
  have_drop (suc n) (x ∷ xs) h = have_drop n xs h.1

  -- a run is taken out of its place
  taken_out : (rs : List (Run Z)) (p : ℕ) (r : Run Z) → slice_get rs p ≡ Some r
      → joined rs ≡ joined (take p (remove rs p)) ++ (arc_value r ++ joined (drop p (remove rs p)))
  taken_out [] p r is = cc
  taken_out (x ∷ rs) zero r is = let same : x ≡ r = cc in ap (λ (y : Run Z). arc_value y ++ joined rs) same
  taken_out (x ∷ rs) (suc p) r is =
      ap (λ ws. arc_value x ++ ws) (taken_out rs p r is)
      ∙ sym (append_assoc (arc_value x) (joined (take p (remove rs p)))
      (arc_value r ++ joined (drop p (remove rs p))))

  module _ (rs now : List (Run Z)) (p : ℕ) (lt : p < length rs) (is : now ≡ remove rs p) where
    pub opened : (r : Run Z) (rows : List Written) → slice_get rs p ≡ Some r → rows ≡ arc_value r
        → joined rs ≡ joined (take p now) ++ (rows ++ joined (drop p now))
    opened r rows at has =
        taken_out rs p r at ∙ (λ i. joined (take p (sym is i)) ++ (sym has i ++ joined (drop p (sym is i))))

    pub front_stays : take p now ≡ take p rs
    front_stays = ap (take p) is ∙ taken p rs (drop (suc p) rs) (omega arith)

    pub back_stays : drop p now ≡ drop (p + 1) rs
    back_stays =
        let next : suc p ≡ p + 1 = omega arith in
        ap (drop p) is ∙ (dropped p rs (drop (suc p) rs) (omega arith) ∙ ap (λ n. drop n rs) next)

    pub within : p ≤ length now
    within =
        let next : suc p ≤ length rs = omega arith in
        subst (λ (xs : List (Run Z)). p ≤ length xs) (sym is) (long p rs lt)
      where
        long : (n : ℕ) (xs : List (Run Z)) → n < length xs → n ≤ length (remove xs n)
        long n [] lt = absurd (omega arith)
        long zero (x ∷ xs) lt = omega arith
        long (suc n) (x ∷ xs) lt = let rest = long n xs (omega arith) in omega arith

    pub have_others : HaveRows rs → HaveRows now
    have_others h =
        subst HaveRows (sym is) (have_append (take p rs) (drop (suc p) rs) (have_take p rs h) (have_drop (suc p) rs h))

  -- a run is put in
  module _ (rs now : List (Run Z)) (p : ℕ) (r : Run Z) (le : p ≤ length rs) (is : now ≡ insert rs p r) where
    pub front_was : take p now ≡ take p rs
    front_was = ap (take p) is ∙ taken p rs (r ∷ drop p rs) le

    pub back_is : (rows : List Written) → arc_value r ≡ rows → joined (drop p now) ≡ rows ++ joined (drop p rs)
    back_is rows has =
        ap (λ (xs : List (Run Z)). joined (drop p xs)) is
        ∙ (ap joined (dropped p rs (r ∷ drop p rs) le) ∙ ap (λ ws. ws ++ joined (drop p rs)) has)

    pub have_more : 0 < length (arc_value r) → HaveRows rs → HaveRows now
    have_more some h =
        subst HaveRows (sym is) (have_append (take p rs) (r ∷ drop p rs) (have_take p rs h) (some, have_drop p rs h))

    pub one_more : length now ≡ length rs + 1
    one_more = ap length is ∙ longer p rs le
      where
        longer : (n : ℕ) (xs : List (Run Z)) → n ≤ length xs → length (insert xs n r) ≡ length xs + 1
        longer zero xs le = omega arith
        longer (suc n) [] le = absurd (omega arith)
        longer (suc n) (x ∷ xs) le = let rest = longer n xs (omega arith) in omega (arith, rest)

  -- rows that were put in, in one run or in two
  pub closed : (rs now : List (Run Z)) (p : ℕ) (rows : List Written) → take p now ≡ take p rs
      → joined (drop p now) ≡ rows ++ joined (drop p rs)
      → joined now ≡ joined (take p rs) ++ (rows ++ joined (drop p rs))
  closed rs now p rows front back = joined_split p now ∙ (λ i. joined (front i) ++ back i)

  pub closed_twice : (rs then now : List (Run Z)) (p n : ℕ) (rows first second : List Written) → first ≡ take n rows
      → second ≡ drop n rows → take p then ≡ take p rs → joined (drop p then) ≡ second ++ joined (drop p rs)
      → take p now ≡ take p then → joined (drop p now) ≡ first ++ joined (drop p then)
      → joined now ≡ joined (take p rs) ++ (rows ++ joined (drop p rs))
  closed_twice rs then now p n rows first second one two front back front' back' =
      closed rs now p rows (front' ∙ front)
      (back' ∙ (ap (λ ws. first ++ ws) back
      ∙ (sym (append_assoc first second (joined (drop p rs)))
      ∙ ap (λ ws. ws ++ joined (drop p rs)) ((λ i. one i ++ two i) ∙ take-append-drop n rows))))

  module _ (e : PhysEntry) where
    abbrev pub begins : Run Z → Bool
    begins r = not (begins_past e r)

    against : (us : List Written) (rs : List (Run Z)) → 0 < length us → HaveRows rs
        → AllByRecursion (λ u. AllByRecursion (NotAfter u) (joined rs)) us
        → AllByRecursion (λ (s : Run Z). begins s ≡ true → not (first_past e us) ≡ true) rs
    against us [] some have across = tt
    against us (s ∷ ss) some have across = (
      λ t. ap not (first_step e us (arc_value s) some (narrower us (arc_value s) (joined ss) across) have.0
          (not_true (first_past e (arc_value s)) t)),
      against us ss some have.1 (further us (arc_value s) (joined ss) across),
    )

    -- no run that doesn't begin past a key stands behind one that does
    pub runs_parted : (rs : List (Run Z)) → Rise (joined rs) → HaveRows rs
        → EachPair (λ (r s : Run Z). begins s ≡ true → begins r ≡ true) rs
    runs_parted [] rise have = tt
    runs_parted (r ∷ rs) rise have = (
      against (arc_value r) rs have.0 have.1 (pairs_across NotAfter (arc_value r) (joined rs) rise),
      runs_parted rs (pairs_back NotAfter (arc_value r) (joined rs) rise) have.1,
    )

    -- behind the place
    pub runs_past : (rs : List (Run Z)) → Rise (joined rs) → AllByRecursion (λ r. begins r ≡ false) rs
        → AllByRecursion (λ w. is_past e w ≡ true) (joined rs)
    runs_past [] rise h = tt
    runs_past (r ∷ rs) rise h =
        all-append (λ w. is_past e w ≡ true) (arc_value r) (joined rs)
        (rows_past e (arc_value r) (pairs_front NotAfter (arc_value r) (joined rs) rise)
        (not_false (first_past e (arc_value r)) h.0))
        (runs_past rs (pairs_back NotAfter (arc_value r) (joined rs) rise) h.1)

    pub behind_place : (rs : List (Run Z)) (k place : ℕ) → k ≤ place + 1 → Rise (joined rs)
        → AllWithin (λ r. begins r ≡ false) rs k (length rs)
        → AllByRecursion (λ w. is_past e w ≡ true) (joined (drop (place + 1) rs))
    behind_place rs k place le rise h =
        let at = place + 1 in
        runs_past (drop at rs)
        (pairs_back NotAfter (joined (take at rs)) (joined (drop at rs)) (subst Rise (joined_split at rs) rise))
        (each-drop (λ r. begins r ≡ false) rs at (λ n d lo hi. h n d (omega arith) hi))

    -- in front of the place
    some_first : (r : Run Z) (rs : List (Run Z)) → HaveRows (r ∷ rs) → 0 < length (joined (r ∷ rs))
    some_first r rs h = longer (arc_value r) (joined rs) h.0
      where
        longer : (us ws : List Written) → 0 < length us → 0 < length (us ++ ws)
        longer [] ws lt = absurd (omega arith)
        longer (u ∷ us) ws lt = omega arith

    -- the runs from the place on begin with a row that isn't past
    module _ (rs : List (Run Z)) (n : ℕ) (some : n < length rs) (have : HaveRows rs)
        (front : AllWithin (λ r. begins r ≡ true) rs 0 (suc n)) where
      at_place : (d : Run Z) → drop n rs ≡ get_or rs n d ∷ drop (n + 1) rs
      at_place d = drop_more rs n d some

      from_place : (d : Run Z) → (0 < length (joined (drop n rs))) × (first_past e (joined (drop n rs)) ≡ false)
      from_place d =
          let r = get_or rs n d in
          let rest = drop (n + 1) rs in
          let are : HaveRows (r ∷ rest) = subst HaveRows (at_place d) (have_drop n rs have) in
          let first : first_past e (arc_value r) ≡ false =
          not_true (first_past e (arc_value r)) (front n d (omega arith) (omega arith)) in (
            subst (λ (xs : List (Run Z)). 0 < length (joined xs)) (sym (at_place d)) (some_first r rest are),
            ap (λ (xs : List (Run Z)). first_past e (joined xs)) (at_place d)
                ∙ first_joined e (arc_value r) (joined rest) are.0 first,
          )

      pub in_front : (d : Run Z) → Rise (joined rs) → AllByRecursion (λ w. is_past e w ≡ false) (joined (take n rs))
      in_front d rise =
          let from = from_place d in
          front_all e (joined (take n rs)) (joined (drop n rs))
          (pairs_across NotAfter (joined (take n rs)) (joined (drop n rs)) (subst Rise (joined_split n rs) rise))
          from.0 from.1

      pub front_lower : (d : Run Z) → EachPair IsLower (joined rs)
          → AllByRecursion (λ w. has_key e w ≡ false) (joined (take n rs))
      front_lower d rise =
          let from = from_place d in
          front_others e (joined (take n rs)) (joined (drop n rs))
          (pairs_across IsLower (joined (take n rs)) (joined (drop n rs))
          (subst (EachPair IsLower) (joined_split n rs) rise)) from.0 from.1

    first_run : (rs : List (Run Z)) → 0 < length rs → Run Z
    first_run [] lt = absurd (omega arith)
    first_run (r ∷ rs) lt = r

    pub before_place : (rs : List (Run Z)) (k place : ℕ) → place ≡ k - 1 → k ≤ length rs → 0 < length rs
        → AllWithin (λ r. begins r ≡ true) rs 0 k → Rise (joined rs) → HaveRows rs
        → AllByRecursion (λ w. is_past e w ≡ false) (joined (take place rs))
    before_place rs zero place is le lt front rise have =
        subst (λ n. AllByRecursion (λ w. is_past e w ≡ false) (joined (take n rs))) (sym is) tt
    before_place rs (suc n) place is le lt front rise have =
        subst (λ m. AllByRecursion (λ w. is_past e w ≡ false) (joined (take m rs))) (sym (is ∙ less_one n))
        (in_front rs n (omega arith) have front (first_run rs lt) rise)

    pub apart_place : (rs : List (Run Z)) (k place : ℕ) → place ≡ k - 1 → k ≤ length rs → 0 < length rs
        → AllWithin (λ r. begins r ≡ true) rs 0 k → EachPair IsLower (joined rs) → HaveRows rs
        → AllByRecursion (λ w. has_key e w ≡ false) (joined (take place rs))
    apart_place rs zero place is le lt front rise have =
        subst (λ n. AllByRecursion (λ w. has_key e w ≡ false) (joined (take n rs))) (sym is) tt
    apart_place rs (suc n) place is le lt front rise have =
        subst (λ m. AllByRecursion (λ w. has_key e w ≡ false) (joined (take m rs))) (sym (is ∙ less_one n))
        (front_lower rs n (omega arith) have front (first_run rs lt) rise)

-- runs with the rows of others
module _ {Y Z : Type 0} where
  pub joined_same : (xs : List (Run Y)) (ys : List (Run Z))
      → map (λ (r : Run Y). arc_value r) xs ≡ map (λ (r : Run Z). arc_value r) ys
      → joined xs ≡ joined ys
  joined_same [] [] same = refl
  joined_same [] (y ∷ ys) same = cc
  joined_same (x ∷ xs) [] same = cc
  joined_same (x ∷ xs) (y ∷ ys) same =
      let first : arc_value x ≡ arc_value y = cc in
      let rest : map (λ (r : Run Y). arc_value r) xs ≡ map (λ (r : Run Z). arc_value r) ys = cc in
      λ i. first i ++ joined_same xs ys rest i

  pub have_same : (xs : List (Run Y)) (ys : List (Run Z))
      → map (λ (r : Run Y). arc_value r) xs ≡ map (λ (r : Run Z). arc_value r) ys
      → HaveRows ys → HaveRows xs
  have_same [] ys same h = tt
  have_same (x ∷ xs) [] same h = cc
  have_same (x ∷ xs) (y ∷ ys) same h =
      let first : arc_value y ≡ arc_value x = cc in
      let rest : map (λ (r : Run Y). arc_value r) xs ≡ map (λ (r : Run Z). arc_value r) ys = cc in
      (subst (λ ws. 0 < length ws) first h.0, have_same xs ys rest h.1)

module _ {Z : Type 0} where
  -- with the next run
  pub joined_more : (xs : List (Run Z)) (i : ℕ) (x : Run Z) → i < length xs → x ≡ get_or xs i x
      → joined (take (i + 1) xs) ≡ joined (take i xs) ++ arc_value x
  joined_more xs i x lt is =
      ap joined (take_more xs i x lt ∙ ap (λ (y : Run Z). take i xs ++ y ∷ []) (sym is))
      ∙ (joined_append (take i xs) (x ∷ []) ∙ ap (λ ws. joined (take i xs) ++ ws) (append-nil (arc_value x)))
