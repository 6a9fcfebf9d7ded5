-- What is found in an index that shows rules.
use Rattle.std.proofs.Common.{◌≡◌, ℕ, zero, suc, ◌<◌, Bool, true, false, not, cond, List, [], ◌∷◌, ◌++◌, Option, Some}
use Rattle.std.proofs.Common.{None, map}
use Rattle.std.proofs.Common.{Result, Ok, Err, get_or, length, refl, sym, ap, subst, ◌∙◌, arith}
use Rattle.std.specs.Prelude.{Contains, IfOk, IsPermutation, MatchResult, filter, filter_map, option_map}
use Rattle.std.specs.List.{AllZip, cons_option}
use Rattle.std.proofs.lemmas.List.Sorted.{IsPermutation-append_left, IsPermutation-filter_both, IsPermutation-map}
use Rattle.std.proofs.lemmas.List.Sorted.{IsPermutation-sym, IsPermutation-trans}
use Rattle.of10_match.specs.Fields.{MatchOf}
use Rattle.of10_match.specs.Matching.{overlaps}
use Rattle.match_index.specs.Items.{ids_of}
use Rattle.match_index.specs.Questions.{is_meeting}
use Rattle.match_index.specs.declared.item.Item.{Item}
use Rattle.list_change.proofs.Kept.{permuted-filter}
use Rattle.list_change.proofs.Permute.{by-cases, by-equation}
use Rattle.policy_meaning.specs.declared.rule.Rule.{Rule}
use Rattle.rule_ancestry.specs.Holding.{Held, id_of}
use Rattle.made_rules.specs.Rules.{rule_held, rules_in}
use Rattle.made_rules.specs.declared.made.Made.{Made}
use Rattle.made_rules.proofs.Changes.{lift}
use Rattle.incr_compile.specs.Candidates.{both_overlap, is_found, item_for, overlapping, shown}

kept-one : (b : Bool) (h : Held Made) (hs : List (Held Made))
    → rules_in (cond b (h ∷ hs) hs) ≡ cond b (rule_held h ∷ rules_in hs) (rules_in hs)
kept-one true h hs = refl
kept-one false h hs = refl

ids-rules : (hs : List (Held Made)) → map id_of (rules_in hs) ≡ map id_of hs
ids-rules [] = refl
ids-rules (h ∷ hs) = ap (λ z. h.id ∷ z) (ids-rules hs)

module _ (test : Held Rule → Bool) where
  kept-rules : (hs : List (Held Made)) → rules_in (filter (λ h. test (rule_held h)) hs) ≡ filter test (rules_in hs)
  kept-rules [] = refl
  kept-rules (h ∷ hs) =
      kept-one (test (rule_held h)) h (filter (λ (h : Held Made). test (rule_held h)) hs)
      ∙ ap (λ z. cond (test (rule_held h)) (rule_held h ∷ z) z) (kept-rules hs)

  -- what is read by the ids of what passes a test is what passes it
  pub read-rules : (store : List (Held Made)) (ids : List ℕ) (olds : List (Held Rule))
      → IsPermutation (map id_of (filter test (rules_in store))) ids →
      ((hs rest : List (Held Made)) → map id_of hs ≡ ids → IsPermutation store (hs ++ rest) → olds ≡ rules_in hs)
      → IsPermutation olds (filter test (rules_in store))
  read-rules store ids olds q read =
      let passes = λ (h : Held Made). test (rule_held h) in
      let hs = filter passes store in
      let rest = filter (λ (h : Held Made). not (passes h)) store in
      let same : map id_of hs ≡ map id_of (filter test (rules_in store)) = sym (ids-rules hs)
      ∙ ap (map id_of) (kept-rules store) in
      let turned : IsPermutation (map id_of hs) ids = IsPermutation-trans _ _ _ (by-equation _ _ same) q in
      let l = lift id_of hs (by-cases _ _ turned) refl in
      let all : IsPermutation store (l.items ++ rest) =
      IsPermutation-trans _ _ _ (IsPermutation-filter_both passes (λ (h : Held Made). not (passes h)) (λ h. refl) store)
      (IsPermutation-append_left rest hs l.items l.all) in
      IsPermutation-trans _ _ _ (by-equation _ _ (read l.items rest l.is all))
      (IsPermutation-trans _ _ _ (IsPermutation-sym _ _ (IsPermutation-map rule_held hs l.items l.all))
      (by-equation _ _ (kept-rules store)))

module _ (by : Rule → Option MatchOf) where
  found-one : (m : MatchOf) (id : ℕ) (o : Option MatchOf) (items : List Item) (ids : List ℕ)
      → ids_of (is_meeting m) items ≡ ids →
      ids_of (is_meeting m) (cons_option (option_map (item_for id) o) items)
      ≡ cond (both_overlap (Some m) o) (id ∷ ids) ids
  found-one m id None items ids e = e
  found-one m id (Some n) items ids e = at (overlaps m n)
    where
      at : (b : Bool)
          → map (λ (i : Item). i.id)
          (cond b (item_for id n ∷ filter (is_meeting m) items) (filter (is_meeting m) items)) ≡ cond b (id ∷ ids) ids
      at true = ap (λ z. id ∷ z) e
      at false = e

  ids-kept : (b : Bool) (h : Held Rule) (hs : List (Held Rule))
      → map id_of (cond b (h ∷ hs) hs) ≡ cond b (h.id ∷ map id_of hs) (map id_of hs)
  ids-kept true h hs = refl
  ids-kept false h hs = refl

  found-some : (m : MatchOf) (hs : List (Held Rule))
      → ids_of (is_meeting m) (filter_map (shown by) hs) ≡ map id_of (filter (is_found (Some m) by) hs)
  found-some m [] = refl
  found-some m (h ∷ hs) =
      found-one m h.id (by h.item) (filter_map (shown by) hs) (map id_of (filter (is_found (Some m) by) hs))
      (found-some m hs)
      ∙ sym (ids-kept (is_found (Some m) by h) h (filter (is_found (Some m) by) hs))

  found-none : (hs : List (Held Rule)) → filter (is_found None by) hs ≡ []
  found-none [] = refl
  found-none (h ∷ hs) = found-none hs

  -- the ids that overlap are those of the rules that are found
  pub found-ids : (m : Option MatchOf) (items : List Item) (hs : List (Held Rule))
      → IsPermutation items (filter_map (shown by) hs)
      → IsPermutation (overlapping m items) (map id_of (filter (is_found m by) hs))
  found-ids None items hs p = by-equation _ _ (sym (ap (map id_of) (found-none hs)))
  found-ids (Some m) items hs p =
      IsPermutation-trans _ _ _
      (IsPermutation-map (λ (i : Item). i.id) _ _
      (permuted-filter (is_meeting m) items (filter_map (shown by) hs) p)) (by-equation _ _ (found-some m hs))

  -- what is read by these ids is what is found
  pub found-rules : (m : Option MatchOf) (items : List Item) (store : List (Held Made)) (ids : List ℕ)
      (olds : List (Held Rule)) → IsPermutation items (filter_map (shown by) (rules_in store))
      → IsPermutation (overlapping m items) ids →
      ((hs rest : List (Held Made)) → map id_of hs ≡ ids → IsPermutation store (hs ++ rest) → olds ≡ rules_in hs)
      → IsPermutation olds (filter (is_found m by) (rules_in store))
  found-rules m items store ids olds p q read =
      read-rules (is_found m by) store ids olds
      (IsPermutation-trans _ _ _ (IsPermutation-sym _ _ (found-ids m items (rules_in store) p)) q) read

-- ---- what is found for each of several rules
-- at one place of both lists
pub all-at : {A B : Type 0} (R : A → B → Type 0) (xs : List A) (ys : List B) (i : ℕ) (x : A) (y : B) → AllZip R xs ys
    → i < length xs → x ≡ get_or xs i x → y ≡ get_or ys i y → R x y
all-at R [] ys i x y a below e f = absurd (omega arith)
all-at R (z ∷ xs) [] i x y a below e f = absurd a
all-at R (z ∷ xs) (w ∷ ys) zero x y a below e f = subst (λ u. R u y) (sym e) (subst (λ v. R z v) (sym f) a.0)
all-at R (z ∷ xs) (w ∷ ys) (suc i) x y a below e f = all-at R xs ys i x y a.1 (omega arith) e f

-- where each was found
pub all-ok : {A B : Type 0} (E : Type 0) (P Q : A → B → Type 0) → ((a : A) (b : B) → P a b → Q a b)
    → (xs : List A) (ys : List B) → AllZip (λ a (r : Result B E). IfOk r (P a)) xs (map Ok ys) → AllZip Q xs ys
all-ok E P Q h [] [] z = tt
all-ok E P Q h [] (y ∷ ys) z = absurd z
all-ok E P Q h (x ∷ xs) [] z = absurd z
all-ok E P Q h (x ∷ xs) (y ∷ ys) z = (h x y z.0, all-ok E P Q h xs ys z.1)

-- where all were found, each was
pub found-each : {A B E V : Type 0} (items : V → List B) (P Q : A → B → Type 0) → ((a : A) (b : B) → P a b → Q a b)
    → (xs : List A) (rs : List (Result B E)) (v : Result V E) → AllZip (λ a (r : Result B E). IfOk r (P a)) xs rs →
    MatchResult v (λ c. (ys : List B) × (rs ≡ map Ok ys) × (items c ≡ ys)) (λ e. Contains rs (Err e))
    → IfOk v (λ c. AllZip Q xs (items c))
found-each items P Q h xs rs (Ok c) z m =
    subst (λ ys. AllZip Q xs ys) (sym m.2)
    (all-ok _ P Q h xs m.0 (subst (λ r. AllZip (λ a (r : Result _ _). IfOk r (P a)) xs r) m.1 z))
found-each items P Q h xs rs (Err e) z m = tt
