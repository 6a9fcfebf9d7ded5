-- What entries that are written do to counts: their cookies are there, and name what they are made of.
use Rattle.std.proofs.Common.{◌≡◌, ◌∙◌, ℕ, ◌+◌, ◌-◌, ◌<◌, ◌≤◌, ◌^◌, ◌⊎◌, inl, inr, ⊎_elim, ◌==◌, Bool, true, false}
use Rattle.std.proofs.Common.{true≢false, ◌&&◌, ◌||◌, List, [], ◌∷◌, Option, Some, None, cond, is_some, nat_lt, arith}
use Rattle.std.proofs.Common.{refl, sym, ap, ap₂, subst, eq-eqb, eqb-true, lt-ltb, ltb-true}
use Rattle.std.specs.Prelude.{fold}
use Rattle.std.specs.BTreeMap.{insert_entry}
use Rattle.std.specs.List.{list_any}
use Rattle.std.specs.Map.{values_of}
use Rattle.std.proofs.lemmas.Bool.{ne_eqb}
use Rattle.cv_io.specs.Leaves.{same_leaf}
use Rattle.cv_io.specs.declared.leaf.Leaf.{Leaf}
use Rattle.install_plan.specs.Tables.{after, numbered}
use Rattle.install_plan.specs.declared.written.Written.{Written}
use Rattle.switch_meaning.specs.Counts.{Cookie}
use Rattle.switch_meaning.specs.declared.entry.PhysEntry.{PhysEntry}
use Rattle.stats_map.specs.Counting.{CountsOf, Place, cookie_at, installed, is_named, place_cmp}
use Rattle.stats_map.proofs.Overlays.{at-slot, rise-slot}
use Rattle.stats_map.proofs.Rows.{at, gains-installed, installed-new, place_total}
use Rattle.stats_map.proofs.Summing.{named-before, named-gained}
use Rattle.machine_meaning.specs.Batches.{counts_after, counts_with, next_after}
use Rattle.machine_meaning.proofs.CountEffects.{Rises, at_both, has}
use Rattle.machine_meaning.proofs.Tallies.{one, tally}

-- cookies by their numbers ------------------------------------------------------------------------------------------

-- how many entries have the cookie
abbrev pub cookied : ℕ → List Written → ℕ
cookied c ws = tally (λ (w : Written). w.cookie == c) ws

pub after_next : (n : ℕ) → n + 1 < 2 ^ 64 → after n ≡ n + 1
after_next n h = omega (arith, h)

-- the next cookie never falls
pub next_rises : (next : ℕ) (ws : List Written) → next < 2 ^ 64 → next ≤ next_after next ws
next_rises next [] h = omega arith
next_rises next (w ∷ ws) h =
    let below : after next < 2 ^ 64 = omega arith in
    let up : next ≤ after next = omega (arith, h) in
    let r = next_rises (after next) ws below in
    omega (arith, up, r)

-- while numbers are left, cookies that are given are new, and each is given once
pub record AreGiven (next : ℕ) (ws : List Written) : Type 0 where
  pub once : (c : ℕ) → cookied c ws ≤ 1
  pub from : (c : ℕ) → 0 < cookied c ws → next ≤ c
  pub below : (c : ℕ) → 0 < cookied c ws → c < next_after next ws

first_given : (next : ℕ) (es : List PhysEntry) → next < 2 ^ 64 → next_after next (numbered next es) < 2 ^ 64 - 1
    → next < 2 ^ 64 - 1
first_given next es h left = let r = next_rises next (numbered next es) h in omega (arith, r, left)

pub given : (next : ℕ) (es : List PhysEntry) → next < 2 ^ 64 → next_after next (numbered next es) < 2 ^ 64 - 1
    → AreGiven next (numbered next es)
given next [] h left = record {
  once = λ c. omega arith;
  from = λ c t. absurd (omega (arith, t));
  below = λ c t. absurd (omega (arith, t));
}
given next (e ∷ es) h left =
    let fits : after next < 2 ^ 64 = omega arith in
    let r = given (after next) es fits left in
    let first = first_given (after next) es fits left in
    let is = after_next next (omega (arith, h, first)) in
    let last = next_rises (after next) (numbered (after next) es) fits in
    record {
      once = λ c. by c (next == c) refl (r.once c) (r.from c) is;
      from = λ c t. least c (next == c) refl t (r.from c) is;
      below = λ c t. most c (next == c) refl t (r.below c) is last;
    }
  where
    by : (c : ℕ) (b : Bool) → (next == c) ≡ b → cookied c (numbered (after next) es) ≤ 1
        → (0 < cookied c (numbered (after next) es) → after next ≤ c) → after next ≡ next + 1
        → one b + cookied c (numbered (after next) es) ≤ 1
    by c true t few from is =
        let same = eqb-true next c t in
        none (nat_lt 0 (cookied c (numbered (after next) es))) refl same
      where
        none : (d : Bool) → nat_lt 0 (cookied c (numbered (after next) es)) ≡ d → next ≡ c
            → one true + cookied c (numbered (after next) es) ≤ 1
        none true f same =
            let le = from (ltb-true 0 (cookied c (numbered (after next) es)) f) in absurd (omega (arith, le, is, same))
        none false f same = grind (arith, f)
    by c false t few from is = omega (arith, few)

    least : (c : ℕ) (b : Bool) → (next == c) ≡ b → 0 < one b + cookied c (numbered (after next) es)
        → (0 < cookied c (numbered (after next) es) → after next ≤ c) → after next ≡ next + 1 → next ≤ c
    least c true t some from is = let same = eqb-true next c t in omega (arith, same)
    least c false t some from is = let le = from (omega (arith, some)) in omega (arith, le, is)

    most : (c : ℕ) (b : Bool) → (next == c) ≡ b → 0 < one b + cookied c (numbered (after next) es)
        → (0 < cookied c (numbered (after next) es) → c < next_after (after next) (numbered (after next) es))
        → after next ≡ next + 1 → after next ≤ next_after (after next) (numbered (after next) es)
        → c < next_after (after next) (numbered (after next) es)
    most c true t some below is last = let same = eqb-true next c t in omega (arith, same, is, last)
    most c false t some below is last = below (omega (arith, some))

-- what is written ---------------------------------------------------------------------------------------------------

-- some of these entries are made of the leaf
abbrev pub made_of : Leaf → List PhysEntry → Bool
made_of leaf es = list_any (λ (e : PhysEntry). list_any (same_leaf leaf) e.ancestry) es

-- their cookies are there too, name what they are made of, and nothing else changes
pub record AreInstalled (n : ℕ) (ws : List Written) (es : List PhysEntry) (c d : CountsOf) : Type 0 where
  pub rises : Rises d
  pub places : (q : Place) → has q d ≡ (has q c || ((q.0 == n) && nat_lt 0 (cookied q.1 ws)))
  pub named : (leaf : Leaf) → is_named d leaf ≡ true → (is_named c leaf ≡ true) ⊎ (made_of leaf es ≡ true)
  pub more : (leaf : Leaf) → is_named c leaf ≡ true → is_named d leaf ≡ true
  pub totals : (leaf : Leaf) → d.totals leaf ≡ c.totals leaf
  pub forgotten : (leaf : Leaf) → d.forgotten leaf ≡ c.forgotten leaf

abbrev new_cookie : List Leaf → Cookie
new_cookie ancestry = record { ancestry = ancestry; numbers = record { packets = 0; bytes = 0 } }

no_more : (a : Bool) → (a || (a && false)) ≡ a
no_more true = refl
no_more false = refl

none_there : (o : Option Cookie) → is_some o ≡ false → o ≡ None
none_there None e = refl
none_there (Some k) e = absurd (true≢false e)

module _ (place : Place) (ancestry : List Leaf) (c : CountsOf) (r : Rises c) (none : cookie_at place c ≡ None) where
  abbrev with_new : CountsOf
  with_new = record {
    live = insert_entry place_cmp c.live place (new_cookie ancestry);
    totals = c.totals;
    forgotten = c.forgotten;
  }

  new_has : (q : Place) → has q with_new ≡ (at place q || has q c)
  new_has q = ap is_some (at-slot place_total q place (Some (new_cookie ancestry)) c.live r) ∙ by (at place q)
    where
      by : (b : Bool) → is_some (cond b (Some (new_cookie ancestry)) (cookie_at q c)) ≡ (b || has q c)
      by true = refl
      by false = refl

  new_rises : Rises with_new
  new_rises = rise-slot place_total place (Some (new_cookie ancestry)) c.live r

  new_named : (leaf : Leaf) → is_named with_new leaf ≡ true
      → (is_named c leaf ≡ true) ⊎ (list_any (same_leaf leaf) ancestry ≡ true)
  new_named leaf t = by (list_any (same_leaf leaf) ancestry) refl
    where
      by : (b : Bool) → list_any (same_leaf leaf) ancestry ≡ b
          → (is_named c leaf ≡ true) ⊎ (list_any (same_leaf leaf) ancestry ≡ true)
      by true e = inr e
      by false e =
          let same = named-before (new_cookie ancestry) leaf (values_of c.live) (values_of with_new.live)
          (gains-installed place c.live (new_cookie ancestry) r none) e in
          inl (sym same ∙ t)

  new_more : (leaf : Leaf) → is_named c leaf ≡ true → is_named with_new leaf ≡ true
  new_more leaf t =
      named-gained (new_cookie ancestry) leaf (values_of c.live) (values_of with_new.live)
      (gains-installed place c.live (new_cookie ancestry) r none) t

pub all_installed : (n next : ℕ) (es : List PhysEntry) (c : CountsOf) → next < 2 ^ 64
    → next_after next (numbered next es) < 2 ^ 64 - 1 → Rises c
    → ((k : ℕ) → next ≤ k → has (n, k) c ≡ false)
    → AreInstalled n (numbered next es) es c (counts_after n (numbered next es) c)
all_installed n next [] c h left r none = record {
  rises = r;
  places = λ q. by (has q c) (q.0 == n);
  named = λ leaf t. inl t;
  more = λ leaf t. t;
  totals = λ leaf. refl;
  forgotten = λ leaf. refl;
}
  where
    by : (a b : Bool) → a ≡ (a || (b && nat_lt 0 0))
    by true b = refl
    by false true = refl
    by false false = refl
all_installed n next (e ∷ es) c h left r none =
    let fits : after next < 2 ^ 64 = omega arith in
    let first = first_given (after next) es fits left in
    let is = after_next next (omega (arith, h, first)) in
    let here : cookie_at (n, next) c ≡ None = none_there (cookie_at (n, next) c) (none next (omega arith)) in
    let d : CountsOf = with_new (n, next) e.ancestry c r here in
    let same : d ≡ installed (n, next) e.ancestry c = installed-new (n, next) e.ancestry c here in
    let rest = all_installed n (after next) es d fits left (new_rises (n, next) e.ancestry c r here)
    (λ k le. new_has (n, next) e.ancestry c r here (n, k)
    ∙ (ap₂ (λ (a b : Bool). a || b) (later k (at (n, next) (n, k)) refl is le) (none k (omega (arith, le, is))))) in
    subst (λ (x : CountsOf).
    AreInstalled n (numbered next (e ∷ es)) (e ∷ es) c (fold (counts_with n) x (numbered (after next) es)))
    same
    (record {
      rises = rest.rises;
      places = λ q.
          rest.places q
          ∙ (ap (λ (b : Bool). b || ((q.0 == n) && nat_lt 0 (cookied q.1 (numbered (after next) es))))
          (new_has (n, next) e.ancestry c r here q)
          ∙ (ap (λ (b : Bool). (b || has q c) || ((q.0 == n) && nat_lt 0 (cookied q.1 (numbered (after next) es))))
          (turned q (at (n, next) q) refl)
          ∙ regroup (q.0 == n) (next == q.1) (has q c) (cookied q.1 (numbered (after next) es))));
      named = λ leaf t. ⊎_elim
          (λ u. ⊎_elim (λ v. inl v) (λ v. inr (ap (λ (b : Bool). b || made_of leaf es) v))
          (new_named (n, next) e.ancestry c r here leaf u))
          (λ u. inr (or_there (list_any (same_leaf leaf) e.ancestry) (made_of leaf es) u)) (rest.named leaf t);
      more = λ leaf t. rest.more leaf (new_more (n, next) e.ancestry c r here leaf t);
      totals = rest.totals;
      forgotten = rest.forgotten;
    })
  where
    or_there : (a b : Bool) → b ≡ true → (a || b) ≡ true
    or_there true b f = refl
    or_there false b f = f

    later : (k : ℕ) (b : Bool) → at (n, next) (n, k) ≡ b → after next ≡ next + 1 → after next ≤ k → b ≡ false
    later k true t is le =
        let both = sym (at_both (n, next) (n, k)) ∙ t in
        let same = eqb-true next k (second (n == n) (next == k) both) in
        absurd (omega (arith, is, le, same))
      where
        second : (a b : Bool) → (a && b) ≡ true → b ≡ true
        second true b f = f
        second false b f = absurd (true≢false (sym f))
    later k false t is le = refl

    flip : (a b : ℕ) → (a == b) ≡ (b == a)
    flip a b = by (a == b) refl
      where
        by : (t : Bool) → (a == b) ≡ t → t ≡ (b == a)
        by true e = sym (eq-eqb b a (sym (eqb-true a b e)))
        by false e = sym (ne_eqb b a (λ f. true≢false (sym (eq-eqb a b (sym f)) ∙ e)))

    turned : (q : Place) (b : Bool) → at (n, next) q ≡ b → b ≡ ((q.0 == n) && (next == q.1))
    turned q b t = sym t ∙ (at_both (n, next) q ∙ ap (λ (x : Bool). x && (next == q.1)) (flip n q.0))

    regroup : (own same old : Bool) (more : ℕ)
        → (((own && same) || old) || (own && nat_lt 0 more)) ≡ (old || (own && nat_lt 0 (one same + more)))
    regroup true true true more = refl
    regroup true true false more = sym (lt-ltb 0 (1 + more) (omega arith))
    regroup true false true more = refl
    regroup true false false more = ap (nat_lt 0) (let z : more ≡ 0 + more = omega arith in z)
    regroup false same true more = refl
    regroup false same false more = refl
