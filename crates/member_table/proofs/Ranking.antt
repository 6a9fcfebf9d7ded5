-- The ranks of the matches that come and go.
use Rattle.std.proofs.Common.{◌≡◌, ℕ, ◌+◌, Bool, true, false, not, cond, ◌||◌, ◌&&◌, ◌==◌, ◌++◌, List, [], ◌∷◌, map}
use Rattle.std.proofs.Common.{filter, find, refl, sym, ap, subst, ◌∙◌, arith, Option, Some, None, count_by, option_map}
use Rattle.std.proofs.Common.{option_to_list, eq-eqb, eqb-true, true≢false, ne_eqb, ◌-◌, unwrap_or}
use Rattle.std.proofs.Common.{if◌then◌else◌, zero, suc, length, take, get_or, ◌<◌}
use Rattle.std.specs.Prelude.{IsPermutation}
use Rattle.std.specs.List.{list_any, AllByRecursion, AllZip, IsDistinct}
use Rattle.std.specs.Option.{option_eq}
use Rattle.match_index.specs.InsideGroups.{SameItems}
use Rattle.match_index.specs.Items.{has_id}
use Rattle.match_index.specs.declared.item.Item.{Item}
use Rattle.match_index.proofs.Counts.{one, count-append, count-cons, count-permuted}
use Rattle.member_table.specs.Changes.{is_among, is_number}
use Rattle.member_table.specs.InsideRanking.{AreCounted, count_at, remains}
use Rattle.member_table.proofs.Changing.{not_number}
use Rattle.member_table.proofs.Counts.{count-filter, some_is}
use Rattle.member_table.proofs.Least.{push_any}
use Rattle.member_table.proofs.Lists.{IsOnce, take_pushed}

-- counts that are cloned
pub cloned : (xs ys : List (ℕ × ℕ)) → AllZip (λ p q. (q.0 ≡ p.0) × (q.1 ≡ p.1)) xs ys → ys ≡ xs
cloned [] [] z = refl
cloned [] (y ∷ ys) z = absurd z
cloned (x ∷ xs) [] z = absurd z
cloned (x ∷ xs) (y ∷ ys) z = λ i. (z.0.0 i, z.0.1 i) ∷ cloned xs ys z.1 i

-- two numbers differ from either side
other : (a b : ℕ) → (a == b) ≡ false → (b == a) ≡ false
other a b e = ne_eqb b a (λ s. true≢false (sym (eq-eqb a b (sym s)) ∙ e))

-- what is counted where one rank has another count
pub counted_set : (counts : ℕ → Option ℕ) (rank n m q : ℕ) → n ≡ m
    → unwrap_or (cond (rank == q) (Some n) (counts q)) 0 ≡ (if rank == q then m else count_at counts q)
counted_set counts rank n m q e = by (rank == q)
  where
    by : (b : Bool) → unwrap_or (cond b (Some n) (counts q)) 0 ≡ (if b then m else count_at counts q)
    by true = e
    by false = refl

-- what is counted without one rank
pub counted_out : (counts : ℕ → Option ℕ) (rank m q : ℕ) → 0 ≡ m
    → unwrap_or (cond (rank == q) None (counts q)) 0 ≡ (if rank == q then m else count_at counts q)
counted_out counts rank m q e = by (rank == q)
  where
    by : (b : Bool) → unwrap_or (cond b None (counts q)) 0 ≡ (if b then m else count_at counts q)
    by true = e
    by false = refl

-- one item more
pub counted_more : (counts counts' : ℕ → Option ℕ) (items : List Item) (x : Item) → AreCounted counts items
    → ((q : ℕ) → count_at counts' q ≡ (if x.rank == q then count_at counts x.rank + 1 else count_at counts q))
    → AreCounted counts' (items ++ x ∷ [])
counted_more counts counts' items x a more q = by (x.rank == q) refl
  where
    split : count_by (λ (r : Item). q == r.rank) (items ++ x ∷ [])
        ≡ count_by (λ (r : Item). q == r.rank) items + one (q == x.rank)
    split =
        let both = count-append (λ (r : Item). q == r.rank) items (x ∷ []) in
        let alone = count-cons (λ (r : Item). q == r.rank) x [] in omega (arith, both, alone)

    by : (b : Bool) → (x.rank == q) ≡ b → count_at counts' q ≡ count_by (λ (r : Item). q == r.rank) (items ++ x ∷ [])
    by true t =
        let same = eqb-true x.rank q t in
        let grown = more q ∙ ap (λ b. if b then count_at counts x.rank + 1 else count_at counts q) t in
        let before = a q in
        let moved = ap (count_at counts) same in
        let met = ap one (eq-eqb q x.rank (sym same)) in
        let parts = split in
        omega (arith, grown, before, moved, met, parts)
    by false t =
        let kept = more q ∙ ap (λ b. if b then count_at counts x.rank + 1 else count_at counts q) t in
        let before = a q in
        let missed = ap one (other x.rank q t) in
        let parts = split in
        omega (arith, kept, before, missed, parts)

-- one item less
pub counted_less : (p : Item → Bool) (rank : ℕ) (counts counts' : ℕ → Option ℕ) (items items' : List Item)
    → AreCounted counts items
    → ((q : ℕ) → count_at counts' q ≡ (if rank == q then count_at counts rank - 1 else count_at counts q))
    → Some rank ≡ option_map (λ (e : Item). e.rank) (find p items)
    → IsPermutation items (option_to_list (find p items) ++ items') → AreCounted counts' items'
counted_less p rank counts counts' items items' a less found h q = each (find p items) found h
  where
    each : (o : Option Item) → Some rank ≡ option_map (λ (e : Item). e.rank) o
        → IsPermutation items (option_to_list o ++ items')
        → count_at counts' q ≡ count_by (λ (r : Item). q == r.rank) items'
    each None e g = absurd (cc)
    each (Some x) e g = by (rank == q) refl
      where
        is : rank ≡ x.rank
        is = some_is rank x.rank e

        split : count_by (λ (r : Item). q == r.rank) items
            ≡ one (q == x.rank) + count_by (λ (r : Item). q == r.rank) items'
        split = sym (count-permuted (λ (r : Item). q == r.rank) items (x ∷ items') g)
            ∙ count-cons (λ (r : Item). q == r.rank) x items'

        by : (b : Bool) → (rank == q) ≡ b → count_at counts' q ≡ count_by (λ (r : Item). q == r.rank) items'
        by true t =
            let same = eqb-true rank q t in
            let fewer = less q ∙ ap (λ b. if b then count_at counts rank - 1 else count_at counts q) t in
            let before = a q in
            let moved = ap (count_at counts) same in
            let met = ap one (eq-eqb q x.rank (sym same ∙ is)) in
            let parts = split in
            omega (arith, fewer, before, moved, met, parts)
        by false t =
            let kept = less q ∙ ap (λ b. if b then count_at counts rank - 1 else count_at counts q) t in
            let before = a q in
            let missed = ap (λ n. one (q == n)) (sym is) ∙ ap one (other rank q t) in
            let parts = split in
            omega (arith, kept, before, missed, parts)

-- where each id stands once, one item has it
pub once_id : (s : ℕ) (items : List Item) → IsDistinct ◌==◌ (map (λ (e : Item). e.id) items) → IsOnce (has_id s) items
unfolding IsDistinct
once_id s [] d = tt
once_id s (e ∷ es) d = (λ t. none es d.0 (eqb-true s e.id t), once_id s es d.1)
  where
    none : (xs : List Item) → AllByRecursion (λ y. (e.id == y) ≡ false) (map (λ (x : Item). x.id) xs) → s ≡ e.id
        → list_any (has_id s) xs ≡ false
    none [] a t = refl
    none (x ∷ xs) a t = rw (ap (λ k. k == x.id) t ∙ a.0) (none xs a.1 t)

-- all remain where none is named
pub all_remain : (place : Option ℕ) (xs : List Item) → filter (remains [] place) xs ≡ xs
all_remain place [] = refl
all_remain place (x ∷ xs) = ap (λ ys. x ∷ ys) (all_remain place xs)

named_more : (rest : List ℕ) (s : ℕ) (place : Option ℕ) (x : Item)
    → remains (rest ++ s ∷ []) place x ≡ (not (is_among rest x.id || (s == x.id)) || is_number place x.id)
named_more rest s place x = ap (λ b. not b || is_number place x.id) (push_any (λ k. k == x.id) rest s)

one_gone : (rest : List ℕ) (s : ℕ) (place : Option ℕ) → option_eq ◌==◌ place (Some s) ≡ false → (x : Item)
    → (remains rest place x && not (has_id s x)) ≡ remains (rest ++ s ∷ []) place x
one_gone rest s place n x = by (is_among rest x.id) (s == x.id) (is_number place x.id) (not_number place s x.id n)
    ∙ sym (named_more rest s place x)
  where
    by : (a b c : Bool) → (b ≡ true → c ≡ false) → ((not a || c) && not b) ≡ (not (a || b) || c)
    by true true true h = sym (h refl)
    by true true false h = refl
    by true false true h = refl
    by true false false h = refl
    by false true true h = sym (h refl)
    by false true false h = refl
    by false false c h = refl

-- one that goes, after others
pub gone_next : (rest : List ℕ) (s : ℕ) (place : Option ℕ) (all before after : List Item)
    → option_eq ◌==◌ place (Some s) ≡ false → SameItems (filter (remains rest place) all) before
    → SameItems (filter (λ r. not (has_id s r)) before) after
    → SameItems (filter (remains (rest ++ s ∷ []) place) all) after
gone_next rest s place all before after n b a p =
    count-filter p (remains (rest ++ s ∷ []) place) all
    ∙ (ap (λ (t : Item → Bool). count_by t all) pointwise
    ∙ (sym (count-filter (λ r. not (has_id s r) && p r) (remains rest place) all)
    ∙ (b (λ r. not (has_id s r) && p r) ∙ (sym (count-filter p (λ r. not (has_id s r)) before) ∙ a p))))
  where
    and_and : (a b c : Bool) → ((a && b) && c) ≡ (a && (b && c))
    and_and true b c = refl
    and_and false b c = refl

    at : (r : Item) → (remains (rest ++ s ∷ []) place r && p r) ≡ (remains rest place r && (not (has_id s r) && p r))
    at r = ap (λ b. b && p r) (sym (one_gone rest s place n r))
        ∙ and_and (remains rest place r) (not (has_id s r)) (p r)

    pointwise : ◌≡◌ {A = Item → Bool} (λ r. remains (rest ++ s ∷ []) place r && p r)
        (λ r. remains rest place r && (not (has_id s r) && p r))
    pointwise i = λ r. at r i

-- the one whose place is taken remains
pub kept_next : (rest : List ℕ) (s : ℕ) (place : Option ℕ) (all : List Item) → option_eq ◌==◌ place (Some s) ≡ true
    → filter (remains rest place) all ≡ filter (remains (rest ++ s ∷ []) place) all
kept_next rest s None all e = absurd (true≢false (sym e))
kept_next rest s (Some k) all e = ap (λ (t : Item → Bool). filter t all) pointwise
  where
    both : (a b : Bool) → (not a || b) ≡ (not (a || b) || b)
    both true true = refl
    both true false = refl
    both false true = refl
    both false false = refl

    at : (r : Item) → remains rest (Some k) r ≡ remains (rest ++ s ∷ []) (Some k) r
    at r = both (is_among rest r.id) (k == r.id)
        ∙ (ap (λ n. not (is_among rest r.id || (n == r.id)) || (k == r.id)) (eqb-true k s e)
        ∙ sym (named_more rest s (Some k) r))

    pointwise : ◌≡◌ {A = Item → Bool} (remains rest (Some k)) (remains (rest ++ s ∷ []) (Some k))
    pointwise i = λ r. at r i

take_next : (xs : List ℕ) (i d : ℕ) → i < length xs → take (i + 1) xs ≡ take i xs ++ get_or xs i d ∷ []
take_next xs i d h = take_pushed xs i (get_or xs i d) h (got xs i d h)
  where
    got : (ys : List ℕ) (j e : ℕ) → j < length ys → get_or ys j e ≡ get_or ys j (get_or ys j e)
    got [] j e h = absurd (omega arith)
    got (y ∷ ys) zero e h = refl
    got (y ∷ ys) (suc j) e h = same ys j e (get_or ys j e) (omega arith)
      where
        same : (zs : List ℕ) (k a b : ℕ) → k < length zs → get_or zs k a ≡ get_or zs k b
        same [] k a b h = absurd (omega arith)
        same (z ∷ zs) zero a b h = refl
        same (z ∷ zs) (suc k) a b h = same zs k a b (omega arith)

not_true : (b : Bool) → not b ≡ true → b ≡ false
not_true true e = sym e
not_true false e = refl

not_false : (b : Bool) → not b ≡ false → b ≡ true
not_false true e = refl
not_false false e = sym e

-- the next of the numbers goes
pub goes_next : (serials : List ℕ) (i d : ℕ) (place : Option ℕ) (all before after : List Item) → i < length serials
    → not (option_eq ◌==◌ place (Some (get_or serials i d))) ≡ true
    → SameItems (filter (remains (take i serials) place) all) before
    → SameItems (filter (λ r. not (has_id (get_or serials i d) r)) before) after
    → SameItems (filter (remains (take (i + 1) serials) place) all) after
goes_next serials i d place all before after h n b a =
    let S : List ℕ → Type 0 = λ ss. SameItems (filter (remains ss place) all) after in
    subst S (sym (take_next serials i d h))
    (gone_next (take i serials) (get_or serials i d) place all before after (not_true _ n) b a)

-- or it is that of the place that is taken
pub stays_next : (serials : List ℕ) (i d : ℕ) (place : Option ℕ) (all before : List Item) → i < length serials
    → not (option_eq ◌==◌ place (Some (get_or serials i d))) ≡ false
    → SameItems (filter (remains (take i serials) place) all) before
    → SameItems (filter (remains (take (i + 1) serials) place) all) before
stays_next serials i d place all before h n b p =
    ap (λ ss. count_by p (filter (remains ss place) all)) (take_next serials i d h)
    ∙ (ap (count_by p) (sym (kept_next (take i serials) (get_or serials i d) place all (not_false _ n))) ∙ b p)
