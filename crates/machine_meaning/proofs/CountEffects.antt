-- What reports and rounds that end do to counts: which cookies are there, what they name, and what is forgotten.
use Rattle.std.proofs.Common.{◌≡◌, ◌∙◌, ℕ, ◌==◌, Bool, true, false, true≢false, not, ◌&&◌, ◌||◌, [], ◌∷◌, Option}
use Rattle.std.proofs.Common.{Some, None, if◌then◌else◌, cond, is_some, refl, sym, ap, ap₂, eq-eqb, eqb-true}
use Rattle.std.specs.List.{list_any}
use Rattle.std.specs.Map.{keys_of, lookup, remove_entry, set_value, values_of}
use Rattle.std.specs.Ordering.{is_eq}
use Rattle.std.proofs.lemmas.Cmp.{tied_itself}
use Rattle.std.proofs.lemmas.Map.{keys-set_value}
use Rattle.std.proofs.lemmas.Map.Entries.{lookup-filter-keys}
use Rattle.cv_io.specs.declared.leaf.Leaf.{Leaf}
use Rattle.switch_meaning.specs.Counts.{Cookie, Numbers, added, folded_in, names}
use Rattle.stats_map.specs.Counting.{Cookies, CountsOf, Place, all_ended, cookie_at, downed, ended, is_named}
use Rattle.stats_map.specs.Counting.{of_switch, place_cmp, reported, reported_on, with_numbers}
use Rattle.stats_map.proofs.Adding.{equal-is}
use Rattle.stats_map.proofs.Laying.{place_exact}
use Rattle.stats_map.proofs.Overlays.{Rise, at-slot, rise-slot}
use Rattle.stats_map.proofs.Rows.{at, place_total}
use Rattle.stats_map.proofs.SlotSums.{some-keys}
use Rattle.stats_map.proofs.Switches.{at-front}

-- a cookie is there
abbrev pub has : Place → CountsOf → Bool
has place c = is_some (cookie_at place c)

abbrev pub no_numbers : Numbers
no_numbers = record { packets = 0; bytes = 0 }

-- cookies stand by rising places
abbrev pub Rises : CountsOf → Type 0
Rises c = Rise place_total c.live

pub place_is : (a b : Place) → at a b ≡ true → a ≡ b
place_is a b t = place_exact a b (equal-is (place_cmp a b) t)

pub at_itself : (a : Place) → at a a ≡ true
at_itself a = ap is_eq (tied_itself place_total a)

-- a place is another one where both numbers are the same
pub at_both : (a b : Place) → at a b ≡ ((a.0 == b.0) && (a.1 == b.1))
at_both a b = by (at a b) refl (a.0 == b.0) refl (a.1 == b.1) refl
  where
    by : (t : Bool) → at a b ≡ t → (m : Bool) → (a.0 == b.0) ≡ m → (n : Bool) → (a.1 == b.1) ≡ n → t ≡ (m && n)
    by true e true f true g = refl
    by true e false f n g = absurd (true≢false (sym (eq-eqb a.0 b.0 (ap (λ (p : Place). p.0) (place_is a b e))) ∙ f))
    by true e true f false g =
        absurd (true≢false (sym (eq-eqb a.1 b.1 (ap (λ (p : Place). p.1) (place_is a b e))) ∙ g))
    by false e true f true g =
        let m = eqb-true a.0 b.0 f in
        let n = eqb-true a.1 b.1 g in
        let same : b ≡ a = λ i. (sym m i, sym n i) in
        absurd (true≢false (sym (ap (at a) same ∙ at_itself a) ∙ e))
    by false e false f n g = refl
    by false e true f false g = refl

-- what cookies name -------------------------------------------------------------------------------------------------

or_there : (a b : Bool) → b ≡ true → (a || b) ≡ true
or_there true b e = refl
or_there false b e = e

module _ (p : Cookie → Bool) (t : Place → Bool) where
  any_found : (k : Cookie) (es : Cookies) → lookup t es ≡ Some k → p k ≡ true → list_any p (values_of es) ≡ true
  any_found k [] e h = absurd (cc e)
  any_found k (x ∷ xs) e h = by (t x.0) e (λ f. any_found k xs f h)
    where
      by : (b : Bool) → cond b (Some x.1) (lookup t xs) ≡ Some k
          → (lookup t xs ≡ Some k → list_any p (values_of xs) ≡ true) → (p x.1 || list_any p (values_of xs)) ≡ true
      by true f r =
          let same : x.1 ≡ k = cc f in ap (λ b. b || list_any p (values_of xs)) (ap p same ∙ h)
      by false f r = or_there (p x.1) (list_any p (values_of xs)) (r f)

  any_left : (es : Cookies) → list_any p (values_of (remove_entry t es)) ≡ true → list_any p (values_of es) ≡ true
  any_left [] e = e
  any_left (x ∷ xs) e = by (t x.0) e (any_left xs)
    where
      by : (b : Bool) → list_any p (values_of (cond b xs (x ∷ remove_entry t xs))) ≡ true
          → (list_any p (values_of (remove_entry t xs)) ≡ true → list_any p (values_of xs) ≡ true)
          → (p x.1 || list_any p (values_of xs)) ≡ true
      by true f r = one (p x.1) f
        where
          one : (a : Bool) → list_any p (values_of xs) ≡ true → (a || list_any p (values_of xs)) ≡ true
          one true g = refl
          one false g = g
      by false f r = one (p x.1) f
        where
          one : (a : Bool) → (a || list_any p (values_of (remove_entry t xs))) ≡ true
              → (a || list_any p (values_of xs)) ≡ true
          one true g = refl
          one false g = r g

  any_written : (k w : Cookie) → p w ≡ p k → (es : Cookies) → lookup t es ≡ Some k
      → list_any p (values_of (set_value t es w)) ≡ list_any p (values_of es)
  any_written k w s [] e = refl
  any_written k w s (x ∷ xs) e = by (t x.0) e (any_written k w s xs)
    where
      by : (b : Bool) → cond b (Some x.1) (lookup t xs) ≡ Some k
          → (lookup t xs ≡ Some k → list_any p (values_of (set_value t xs w)) ≡ list_any p (values_of xs))
          → list_any p (values_of (cond b ((x.0, w) ∷ xs) (x ∷ set_value t xs w)))
          ≡ (p x.1 || list_any p (values_of xs))
      by true f r = let same : k ≡ x.1 = cc f in ap (λ b. b || list_any p (values_of xs)) (s ∙ ap p same)
      by false f r = ap (λ b. p x.1 || b) (r f)

-- numbers that are told ---------------------------------------------------------------------------------------------

-- the same cookies are there, they name the same leaves, and the totals of others are the same
pub record AreAlike (c d : CountsOf) : Type 0 where
  pub keys : keys_of d.live ≡ keys_of c.live
  pub named : (leaf : Leaf) → is_named d leaf ≡ is_named c leaf
  pub totals : (leaf : Leaf) → d.totals leaf ≡ c.totals leaf
  pub forgotten : (leaf : Leaf) → d.forgotten leaf ≡ c.forgotten leaf

pub alike : (c : CountsOf) → AreAlike c c
alike c = record { keys = refl; named = λ leaf. refl; totals = λ leaf. refl; forgotten = λ leaf. refl }

pub alike_both : (c d e : CountsOf) → AreAlike c d → AreAlike d e → AreAlike c e
alike_both c d e a b = record {
  keys = b.keys ∙ a.keys;
  named = λ leaf. b.named leaf ∙ a.named leaf;
  totals = λ leaf. b.totals leaf ∙ a.totals leaf;
  forgotten = λ leaf. b.forgotten leaf ∙ a.forgotten leaf;
}

pub told_alike : (place : Place) (numbers : Numbers) (c : CountsOf) → AreAlike c (reported place numbers false c)
told_alike place numbers c = by (cookie_at place c) refl
  where
    by : (o : Option Cookie) → cookie_at place c ≡ o → AreAlike c (reported_on o place numbers false c)
    by None e = alike c
    by (Some k) e = record {
      keys = keys-set_value (at place) c.live (with_numbers numbers k);
      named = λ leaf. any_written (names leaf) (at place) k (with_numbers numbers k) refl c.live e;
      totals = λ leaf. refl;
      forgotten = λ leaf. refl;
    }

pub alike_has : (c d : CountsOf) → AreAlike c d → (place : Place) → has place d ≡ has place c
alike_has c d a place =
    some-keys (at place) d.live ∙ (ap (list_any (at place)) a.keys ∙ sym (some-keys (at place) c.live))

-- cookies that end --------------------------------------------------------------------------------------------------

-- What is kept of a leaf where cookies end, from counts on in which it mattered or not: no more cookies name it, it is
-- to be forgotten if it didn't matter and one does, and if none does there is no total.
pub record IsKeptLeaf (leaf : Leaf) (was : Bool) (start c : CountsOf) : Type 0 where
  pub named : is_named c leaf ≡ true → is_named start leaf ≡ true
  pub forgotten : c.forgotten leaf ≡ (not was && is_named c leaf)
  pub totals : was ≡ false → is_named c leaf ≡ false → c.totals leaf ≡ no_numbers

shrinks : (a n m : Bool) → (m ≡ true → n ≡ true) → ((a && n) && m) ≡ (a && m)
shrinks false n m h = refl
shrinks true n true h = ap (λ b. b && true) (h refl)
shrinks true true false h = refl
shrinks true false false h = refl

pub ended_leaf : (leaf : Leaf) (was : Bool) (start : CountsOf) (place : Place) (k found : Cookie) (c : CountsOf)
    → cookie_at place c ≡ Some found → names leaf k ≡ names leaf found → IsKeptLeaf leaf was start c
    → IsKeptLeaf leaf was start (ended place k c)
ended_leaf leaf was start place k found c e same h = record {
  named = λ t. h.named (any_left (names leaf) (at place) c.live t);
  forgotten =
      ap (λ f. f && left) h.forgotten
      ∙ shrinks (not was) (is_named c leaf) left (λ t. any_left (names leaf) (at place) c.live t);
  totals = λ w z. by w z (is_named c leaf) refl;
}
  where
    left : Bool
    left = list_any (names leaf) (values_of (remove_entry (at place) c.live))

    unnamed : is_named c leaf ≡ false → (b : Bool) → names leaf k ≡ b → b ≡ false
    unnamed n true t =
        absurd (true≢false (sym (any_found (names leaf) (at place) found c.live e (sym same ∙ t)) ∙ n))
    unnamed n false t = refl

    by : was ≡ false → left ≡ false → (n : Bool) → is_named c leaf ≡ n
        → (if c.forgotten leaf && not left then no_numbers else folded_in c.totals k leaf) ≡ no_numbers
    by w z true n =
        let f : c.forgotten leaf ≡ true = h.forgotten ∙ ap₂ (λ (a b : Bool). not a && b) w n in
        ap₂ (λ (a b : Bool). if a && not b then no_numbers else folded_in c.totals k leaf) f z
    by w z false n =
        let f : c.forgotten leaf ≡ false = h.forgotten ∙ ap₂ (λ (a b : Bool). not a && b) w n in
        ap (λ (a : Bool). if a && not left then no_numbers else folded_in c.totals k leaf) f
        ∙ (ap (λ (b : Bool). if b then added (c.totals leaf) k.numbers else c.totals leaf)
        (unnamed n (names leaf k) refl)
        ∙ h.totals w n)

-- the places of a cookie that ends
pub ended_rises : (place : Place) (k : Cookie) (c : CountsOf) → Rises c → Rises (ended place k c)
ended_rises place k c r = rise-slot place_total place None c.live r

pub ended_has : (place : Place) (k : Cookie) (c : CountsOf) → Rises c → (q : Place)
    → has q (ended place k c) ≡ (not (at place q) && has q c)
ended_has place k c r q = ap is_some (at-slot place_total q place None c.live r) ∙ by (at place q)
  where
    by : (b : Bool) → is_some (cond b None (cookie_at q c)) ≡ (not b && has q c)
    by true = refl
    by false = refl

-- the last report of a cookie
pub last_leaf : (leaf : Leaf) (was : Bool) (start : CountsOf) (place : Place) (numbers : Numbers) (c : CountsOf)
    → IsKeptLeaf leaf was start c → IsKeptLeaf leaf was start (reported place numbers true c)
last_leaf leaf was start place numbers c h = by (cookie_at place c) refl
  where
    by : (o : Option Cookie) → cookie_at place c ≡ o → IsKeptLeaf leaf was start (reported_on o place numbers true c)
    by None e = h
    by (Some k) e = ended_leaf leaf was start place (with_numbers numbers k) k c e refl h

pub last_rises : (place : Place) (numbers : Numbers) (c : CountsOf) → Rises c → Rises (reported place numbers true c)
last_rises place numbers c r = by (cookie_at place c)
  where
    by : (o : Option Cookie) → Rises (reported_on o place numbers true c)
    by None = r
    by (Some k) = ended_rises place (with_numbers numbers k) c r

pub last_has : (place : Place) (numbers : Numbers) (c : CountsOf) → Rises c → (q : Place)
    → has q (reported place numbers true c) ≡ (not (at place q) && has q c)
last_has place numbers c r q = by (cookie_at place c) refl
  where
    none : (b : Bool) → at place q ≡ b → cookie_at place c ≡ None → has q c ≡ (not b && has q c)
    none true t e = ap (λ (x : Place). has x c) (sym (place_is place q t)) ∙ ap is_some e
    none false t e = refl

    by : (o : Option Cookie) → cookie_at place c ≡ o
        → has q (reported_on o place numbers true c) ≡ (not (at place q) && has q c)
    by None e = none (at place q) refl e
    by (Some k) e = ended_has place (with_numbers numbers k) c r q

-- a switch that goes ------------------------------------------------------------------------------------------------

module _ (n : ℕ) (P : CountsOf → Type 0)
    (step : (place : Place) (k : Cookie) (c : CountsOf) → (place.0 == n) ≡ true → cookie_at place c ≡ Some k → P c
    → P (ended place k c)) where
  all_down : (cs : Cookies) (c : CountsOf) → of_switch n c.live ≡ cs → P c
      → P (all_ended cs c) × (of_switch n (all_ended cs c).live ≡ [])
  all_down [] c e h = (h, e)
  all_down (x ∷ xs) c e h =
      let f = at-front n c.live x.0 x.1 xs e in
      all_down xs (ended x.0 x.1 c) f.left (step x.0 x.1 c f.own f.found h)

  pub down_holds : (c : CountsOf) → P c → P (downed n c) × (of_switch n (downed n c).live ≡ [])
  down_holds c h = all_down (of_switch n c.live) c refl h

pub down_leaf : (leaf : Leaf) (was : Bool) (start : CountsOf) (n : ℕ) (c : CountsOf) → IsKeptLeaf leaf was start c
    → IsKeptLeaf leaf was start (downed n c)
down_leaf leaf was start n c h =
    (down_holds n (IsKeptLeaf leaf was start)
    (λ place k d own e g. ended_leaf leaf was start place k k d e refl g) c h).0

-- the cookies of other switches stay
record AreOthers (n : ℕ) (c d : CountsOf) : Type 0 where
  rises : Rises d
  others : (q : Place) → (q.0 == n) ≡ false → has q d ≡ has q c

others_stay : (n : ℕ) (c : CountsOf) → Rises c → AreOthers n c (downed n c) × (of_switch n (downed n c).live ≡ [])
others_stay n c r =
    down_holds n (AreOthers n c)
    (λ place k d own e g. record {
      rises = ended_rises place k d g.rises;
      others = λ q f.
          ended_has place k d g.rises q
          ∙ (ap (λ (b : Bool). not b && has q d) (apart place q own f (at place q) refl) ∙ g.others q f);
    }) c (record { rises = r; others = λ q f. refl })
  where
    apart : (place q : Place) → (place.0 == n) ≡ true → (q.0 == n) ≡ false → (b : Bool) → at place q ≡ b → b ≡ false
    apart place q own f true t =
        absurd (true≢false (sym own ∙ (ap (λ (p : Place). p.0 == n) (place_is place q t) ∙ f)))
    apart place q own f false t = refl

pub down_rises : (n : ℕ) (c : CountsOf) → Rises c → Rises (downed n c)
down_rises n c r = (others_stay n c r).0.rises

pub down_has : (n : ℕ) (c : CountsOf) → Rises c → (q : Place) → has q (downed n c) ≡ (not (q.0 == n) && has q c)
down_has n c r q = by (q.0 == n) refl
  where
    own : (q.0 == n) ≡ true → (k : Place) → at q k ≡ true → (k.0 == n) ≡ true
    own t k e = ap (λ (p : Place). p.0 == n) (sym (place_is q k e)) ∙ t

    by : (b : Bool) → (q.0 == n) ≡ b → has q (downed n c) ≡ (not b && has q c)
    by true t =
        ap is_some (sym (lookup-filter-keys (at q) (λ (k : Place). k.0 == n) true (own t) (downed n c).live)
        ∙ ap (lookup (at q)) (others_stay n c r).1)
    by false f = (others_stay n c r).0.others q f
