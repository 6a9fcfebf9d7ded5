-- Rows that are listed by their keys, taken out one after the other.
use Rattle.std.proofs.Common.{◌≡◌, ◌∙◌, ◌+◌, ◌<◌, ◌≤◌, ◌||◌, ◌&&◌, ℕ, zero, suc, Bool, true, false, List, [], ◌∷◌, ◌++◌}
use Rattle.std.proofs.Common.{Option, Some, ap, arith, filter, get_or, length, map, not, refl, subst, sym, take}
use Rattle.std.specs.Prelude.{find, if◌then◌else◌, option_to_list}
use Rattle.std.specs.List.{list_any}
use Rattle.std.specs.Ordering.{is_lt}
use Rattle.std.proofs.lemmas.List.{get_or-map, length-map, take-map, take_all, take_more}
use Rattle.install_plan.specs.Tables.{entry_of}
use Rattle.install_plan.specs.declared.written.Written.{Written}
use Rattle.policy_meaning.specs.LeafFact.{EachPair}
use Rattle.shared_rows.specs.Rows.{IsLower, has_key}
use Rattle.shared_rows.proofs.InOrder.{lower_apart}
use Rattle.switch_meaning.specs.Batches.{key_cmp}
use Rattle.switch_meaning.specs.Keys.{same_key}
use Rattle.switch_meaning.specs.declared.entry.PhysEntry.{PhysEntry}
use Rattle.switch_meaning.proofs.Batched.{key-flips, key-self}
use Rattle.switch_meaning.proofs.Members.{IsIn, filter-in, here, in-all, in-filter, there}
use Rattle.told_batches.specs.Told.{AreListed, has_key_in}
use Rattle.told_batches.proofs.Rising.{pairs_kept}

-- tests of lists ----------------------------------------------------------------------------------------------------

or_false : (b : Bool) → (b || false) ≡ b
or_false true = refl
or_false false = refl

or_again : (a b c : Bool) → (a || (b || c)) ≡ ((a || b) || c)
or_again true b c = refl
or_again false b c = refl

not_either : (a b : Bool) → not (a || b) ≡ (not a && not b)
not_either true b = refl
not_either false b = refl

any_last : {A : Type 0} (p : A → Bool) (xs : List A) (y : A) → list_any p (xs ++ y ∷ []) ≡ (list_any p xs || p y)
any_last p [] y = or_false (p y)
any_last p (x ∷ xs) y = ap (λ b. p x || b) (any_last p xs y) ∙ or_again (p x) (list_any p xs) (p y)

filter_twice : {A : Type 0} (p q : A → Bool) (xs : List A) → filter p (filter q xs) ≡ filter (λ x. q x && p x) xs
filter_twice p q [] = refl
filter_twice p q (x ∷ xs) = by (q x) (filter_twice p q xs)
  where
    by : (b : Bool) → filter p (filter q xs) ≡ filter (λ y. q y && p y) xs
        → filter p (if b then x ∷ filter q xs else filter q xs)
        ≡ (if b && p x then x ∷ filter (λ y. q y && p y) xs else filter (λ y. q y && p y) xs)
    by true e = ap (λ ys. if p x then x ∷ ys else ys) e
    by false e = e

in_at : {A : Type 0} (xs : List A) (n : ℕ) (d : A) → n < length xs → IsIn (get_or xs n d) xs
in_at [] n d lt = absurd (omega arith)
in_at (x ∷ xs) zero d lt = here
in_at (x ∷ xs) (suc n) d lt = there (in_at xs n d (omega arith))

-- of rows that rise -------------------------------------------------------------------------------------------------

low : (v w : Written) → IsLower v w → is_lt (key_cmp v.entry w.entry) ≡ true
low v w e = ap is_lt e

-- the row of a key is found
find_row : {x : Written} {ws : List Written} → EachPair IsLower ws → IsIn x ws → find (has_key x.entry) ws ≡ Some x
find_row {x = x} rise (here {xs = ws}) =
    ap (λ b. if b then Some x else find (has_key x.entry) ws) (key-self x.entry)
find_row {x = x} rise (there {y = y} {xs = ws} i) =
    let apart : has_key x.entry y ≡ false = lower_apart x.entry y (low y x (in-all (IsLower y) i rise.0)) in
    ap (λ b. if b then Some y else find (has_key x.entry) ws) apart ∙ find_row rise.1 i

-- no row in front of one has its key
none_before : (ws : List Written) (n : ℕ) (d : Written) → n < length ws → EachPair IsLower ws
    → list_any (same_key (get_or ws n d).entry) (map entry_of (take n ws)) ≡ false
none_before [] n d lt rise = absurd (omega arith)
none_before (w ∷ ws) zero d lt rise = refl
none_before (w ∷ ws) (suc n) d lt rise =
    let x = get_or ws n d in
    let apart : same_key x.entry w.entry ≡ false =
    key-flips x.entry w.entry
    ∙ lower_apart x.entry w (low w x (in-all (IsLower w) (in_at ws n d (omega arith)) rise.0)) in
    ap (λ b. b || list_any (same_key x.entry) (map entry_of (take n ws))) apart
    ∙ none_before ws n d (omega arith) rise.1

-- taking out --------------------------------------------------------------------------------------------------------

module _ (stood gone : List Written) (rise : EachPair IsLower stood) (listed : AreListed (map entry_of gone) stood)
  where
    abbrev keys : List PhysEntry
    keys = map entry_of gone

    abbrev went : List Written
    went = filter (has_key_in keys) stood

    -- the first of the rows that go are taken out
    pub record IsTaken (n : ℕ) (going staying : List Written) : Type 0 where
      pub goes : going ≡ take n went
      pub stays : staying ≡ filter (λ w. not (has_key_in (map entry_of (take n gone)) w)) stood

    all_stay : (ws : List Written) → ws ≡ filter (λ w. not (has_key_in [] w)) ws
    all_stay [] = refl
    all_stay (w ∷ ws) = ap (λ xs. w ∷ xs) (all_stay ws)

    pub taken_first : (going staying : List Written) → going ≡ [] → staying ≡ stood → IsTaken 0 going staying
    taken_first going staying none all = record { goes = none; stays = all ∙ all_stay stood }

    module _ (n : ℕ) (one : Written) (lt : n < length gone) (is : one ≡ get_or gone n one) where
      long : length went ≡ length gone
      long = sym (length-map went entry_of) ∙ (sym (ap length listed) ∙ length-map gone entry_of)

      at_went : n < length went
      at_went = let same = long in omega (arith, same)

      abbrev row : Written
      row = get_or went n one

      -- the row that goes next has the key that is listed next
      same_entry : one.entry ≡ row.entry
      same_entry =
          ap entry_of is
          ∙ (sym (get_or-map entry_of gone n one one.entry lt)
          ∙ (ap (λ es. get_or es n one.entry) listed ∙ get_or-map entry_of went n one one.entry at_went))

      next_keys : map entry_of (take (n + 1) gone) ≡ map entry_of (take n gone) ++ one.entry ∷ []
      next_keys =
          ap (map entry_of) (take_more gone n one lt ∙ ap (λ (w : Written). take n gone ++ w ∷ []) (sym is))
          ∙ push (take n gone)
        where
          push : (ws : List Written) → map entry_of (ws ++ one ∷ []) ≡ map entry_of ws ++ one.entry ∷ []
          push [] = refl
          push (w ∷ ws) = ap (λ es. w.entry ∷ es) (push ws)

      abbrev stays_so_far : Written → Bool
      stays_so_far w = not (has_key_in (map entry_of (take n gone)) w)

      stays_then : (w : Written)
          → (stays_so_far w && not (has_key one.entry w)) ≡ not (has_key_in (map entry_of (take (n + 1) gone)) w)
      stays_then w =
          sym (not_either (has_key_in (map entry_of (take n gone)) w) (has_key one.entry w))
          ∙ ap not (sym (any_last (same_key w.entry) (map entry_of (take n gone)) one.entry)
          ∙ ap (λ es. has_key_in es w) (sym next_keys))

      first_keys : map entry_of (take n went) ≡ map entry_of (take n gone)
      first_keys =
          sym (take-map entry_of n went) ∙ (ap (take n) (sym listed) ∙ take-map entry_of n gone)

      stays_row : stays_so_far row ≡ true
      stays_row =
          ap not (ap (list_any (same_key row.entry)) (sym first_keys)
          ∙ none_before went n one at_went (pairs_kept IsLower (has_key_in keys) stood rise))

      row_found : find (has_key one.entry) (filter stays_so_far stood) ≡ Some row
      row_found =
          let there = filter-in (has_key_in keys) row stood (in_at went n one at_went) in
          ap (λ (e : PhysEntry). find (has_key e) (filter stays_so_far stood)) same_entry
          ∙ find_row (pairs_kept IsLower stays_so_far stood rise)
          (in-filter stays_so_far there.0 stays_row)

      pub taken_more : (going staying fewer more : List Written) (found : Option Written) → EachPair IsLower staying
          → fewer ≡ filter (λ w. not (has_key one.entry w)) staying → found ≡ find (has_key one.entry) staying
          → more ≡ going ++ option_to_list found → IsTaken n going staying → IsTaken (n + 1) more fewer
      taken_more going staying fewer more found rises left at grows h = record {
        goes =
            grows
            ∙ ((λ i. h.goes i ++ option_to_list (at i))
            ∙ (ap (λ ws. take n went ++ option_to_list (find (has_key one.entry) ws)) h.stays
            ∙ (ap (λ (x : Option Written). take n went ++ option_to_list x) row_found
            ∙ sym (take_more went n one at_went))));
        stays =
            left
            ∙ (ap (filter (λ w. not (has_key one.entry w))) h.stays
            ∙ (filter_twice (λ w. not (has_key one.entry w)) stays_so_far stood
            ∙ (λ i. filter (λ w. stays_then w i) stood)));
      }

      pub left_rise : (going staying : List Written) → IsTaken n going staying → EachPair IsLower staying
      left_rise going staying h =
          subst (EachPair IsLower) (sym h.stays) (pairs_kept IsLower stays_so_far stood rise)

    pub taken_last : (n : ℕ) (going staying : List Written) → length gone ≤ n → IsTaken n going staying
        → (going ≡ went) × (staying ≡ filter (λ w. not (has_key_in keys w)) stood)
    taken_last n going staying end h =
        let same : length went ≡ length gone =
        sym (length-map went entry_of) ∙ (sym (ap length listed) ∙ length-map gone entry_of) in (
          h.goes ∙ take_all n went (omega (arith, same)),
          h.stays
              ∙ ap (λ (ws : List Written). filter (λ w. not (has_key_in (map entry_of ws) w)) stood)
              (take_all n gone end),
        )
