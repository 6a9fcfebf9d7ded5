-- What a switch may use is the entry of the best rule.
use Rattle.std.proofs.Common.{◌≡◌, ℕ, ◌<◌, ◌≤◌, ◌^◌, ◌⊎◌, inl, inr, Bool, true, false, ◌||◌, Option, Some, None, List}
use Rattle.std.proofs.Common.{[], ◌∷◌, refl, ap, ◌∙◌, eqb-true, map, arith}
use Rattle.std.specs.Prelude.{◌==◌, not, if◌then◌else◌, filter}
use Rattle.std.specs.List.{AllByRecursion, list_any}
use Rattle.std.specs.Ordering.{is_lt}
use Rattle.of10_match.specs.Fields.{HeaderOf, MatchOf}
use Rattle.of10_match.specs.Matching.{holds, is_one_header}
use Rattle.switch_meaning.specs.BestLaw.{BestIsUsed, IsBest, IsBestEntry, IsGated, first, later}
use Rattle.cv_io.specs.Leaves.{ancestry_cmp}
use Rattle.switch_meaning.specs.Keys.{displaces, flow_of, one_per_key, same_key}
use Rattle.switch_meaning.specs.MayUse.{IsTop, IsUsable, MayUse, priority_of, rank_of}
use Rattle.of10_match.specs.Same.{same_match}
use Rattle.switch_meaning.specs.declared.entry.FlowEntry.{FlowEntry}
use Rattle.switch_meaning.specs.declared.entry.PhysEntry.{PhysEntry}
use Rattle.of10_match.proofs.Same.{match_decides}
use Rattle.switch_meaning.proofs.Equal.{ancestry_cmp-self}
use Rattle.switch_meaning.proofs.Items.{all-filter, all-in-map, fails, split_and}
use Rattle.switch_meaning.proofs.Members.{IsIn, from-place, here, in-all, there}

-- the best item passes the test
pub best-passes : {A : Type 0} {passes : A → Bool} {by : A → ℕ} {xs : List A} {x : A} → IsBest passes by xs x
    → passes x ≡ true
best-passes (first p a) = p
best-passes (later lt b) = best-passes b

best-kept : {A : Type 0} (passes keeps : A → Bool) (by : A → ℕ) (b : Bool) (x y : A) (xs : List A)
    → (passes y ≡ true → by y < by x) → IsBest passes by xs x → IsBest passes by (if b then y ∷ xs else xs) x
best-kept passes keeps by true x y xs lt b = later lt b
best-kept passes keeps by false x y xs lt b = b

first-kept : {A : Type 0} (passes : A → Bool) (by : A → ℕ) (b : Bool) (x : A) (xs : List A) → b ≡ true → passes x ≡ true
    → AllByRecursion (λ (y : A). passes y ≡ true → by y < by x) xs → IsBest passes by (if b then x ∷ xs else xs) x
first-kept passes by true x xs e p a = first p a
first-kept passes by false x xs e p a = cc

-- a filter that keeps the best item
pub best-filter : {A : Type 0} (passes keeps : A → Bool) (by : A → ℕ) {xs : List A} {x : A} → keeps x ≡ true
    → IsBest passes by xs x → IsBest passes by (filter keeps xs) x
best-filter passes keeps by k (first {x = x} {xs = xs} p a) =
    first-kept passes by (keeps x) x (filter keeps xs) k p (all-filter _ keeps xs a)
best-filter passes keeps by k (later {x = x} {y = y} {xs = xs} lt b) =
    best-kept passes keeps by (keeps y) x y (filter keeps xs) lt (best-filter passes keeps by k b)

-- items that are seen through a function
best-map : {A B : Type 0} (passes : B → Bool) (by : B → ℕ) (f : A → B) {xs : List A} {x : A}
    → IsBest (λ (z : A). passes (f z)) (λ (z : A). by (f z)) xs x → IsBest passes by (map f xs) (f x)
best-map passes by f (first {x = x} {xs = xs} p a) =
    first p (all-in-map (λ y. passes y ≡ true → by y < by (f x)) f xs a)
best-map passes by f (later lt b) = later lt (best-map passes by f b)

-- what holds of each item holds of the best
pub best-at : {A : Type 0} (P : A → Type 0) {passes : A → Bool} {by : A → ℕ} {xs : List A} {x : A}
    → IsBest passes by xs x → AllByRecursion P xs → P x
best-at P (first p a) all = all.0
best-at P (later lt b) all = best-at P b all.1

pub or_false : (a b : Bool) → a ≡ false → b ≡ false → (a || b) ≡ false
or_false a b e f = rw (e, f) refl

module _ (h : HeaderOf) where
  -- nothing displaces an entry that it is below of
  lower-displaces : (d b : PhysEntry) → holds b.m h ≡ true → (holds d.m h ≡ true → d.priority < b.priority)
      → displaces d b ≡ false
  lower-displaces d b p low =
      fails (displaces d b) (λ e.
      let s = split_and (same_key d b) (is_lt (ancestry_cmp d.ancestry b.ancestry)) e in
      let k = split_and (same_match d.m b.m) (d.priority == b.priority) s.0 in
      let same : d.m ≡ b.m = (match_decides d.m b.m).0 k.0 in
      let level : d.priority ≡ b.priority = eqb-true d.priority b.priority k.1 in
      let lt : d.priority < b.priority = low (ap (λ (z : MatchOf). holds z h) same ∙ p) in
      omega arith)

  self-displaces : (b : PhysEntry) → displaces b b ≡ false
  self-displaces b =
      fails (displaces b b) (λ e.
      let s = split_and (same_key b b) (is_lt (ancestry_cmp b.ancestry b.ancestry)) e in
      let never : is_lt (ancestry_cmp b.ancestry b.ancestry) ≡ false = ap is_lt (ancestry_cmp-self b.ancestry) in cc)

  lower-all : (b : PhysEntry) (es : List PhysEntry) → holds b.m h ≡ true
      → AllByRecursion (λ (d : PhysEntry). holds d.m h ≡ true → d.priority < b.priority) es
      → list_any (λ (d : PhysEntry). displaces d b) es ≡ false
  lower-all b [] p a = refl
  lower-all b (d ∷ ds) p a = or_false (displaces d b) (list_any (λ (d : PhysEntry). displaces d b) ds)
      (lower-displaces d b p a.0) (lower-all b ds p a.1)

  -- no entry displaces the best
  best-stays : {es : List PhysEntry} {b : PhysEntry} → IsBestEntry h es b
      → list_any (λ (d : PhysEntry). displaces d b) es ≡ false
  best-stays (first {x = b} {xs = es} p a) =
      or_false (displaces b b) (list_any (λ (d : PhysEntry). displaces d b) es) (self-displaces b) (lower-all b es p a)
  best-stays (later {x = b} {y = d} {xs = es} lt best) =
      or_false (displaces d b) (list_any (λ (d : PhysEntry). displaces d b) es)
      (lower-displaces d b (best-passes best) lt) (best-stays best)

  -- so it is the best of the table
  best-in-table : (es : List PhysEntry) (b : PhysEntry) → IsBestEntry h es b
      → IsBest (λ (e : FlowEntry). holds e.m h) priority_of (map flow_of (one_per_key es)) (flow_of b)
  best-in-table es b best =
      best-map (λ (e : FlowEntry). holds e.m h) priority_of flow_of
      (best-filter (λ (d : PhysEntry). holds d.m h)
      (λ (e : PhysEntry). not (list_any (λ (d : PhysEntry). displaces d e) es)) (λ (d : PhysEntry). d.priority)
      (ap not (best-stays best)) best)

  abbrev IsBestFlow : List FlowEntry → FlowEntry → Type 0
  IsBestFlow table b = IsBest (λ (e : FlowEntry). holds e.m h) priority_of table b

  best-is-in : {table : List FlowEntry} {b : FlowEntry} → IsBestFlow table b → IsIn b table
  best-is-in (first p a) = here
  best-is-in (later lt b) = there (best-is-in b)

  -- any other entry is lower
  in-best : {e : FlowEntry} {table : List FlowEntry} {b : FlowEntry} → IsIn e table → IsBestFlow table b
      → holds e.m h ≡ true → (e ≡ b) ⊎ (e.priority < b.priority)
  in-best here (first p a) q = inl refl
  in-best here (later lt b) q = inr (lt q)
  in-best (there i) (first {x = x} p a) q =
      inr (in-all (λ (d : FlowEntry). holds d.m h ≡ true → d.priority < x.priority) i a q)
  in-best (there i) (later lt b) q = in-best i b q

  -- what is known of each entry of the table, where the best has this priority
  pub record Gated (n : ℕ) (e : FlowEntry) : Type 0 where
    pub priority : e.priority < 2 ^ 16
    pub exact : is_one_header e.m ≡ true → holds e.m h ≡ true → n ≤ e.priority

  gated-map : (es : List PhysEntry) (b : PhysEntry) → IsBestEntry h es b → (xs : List PhysEntry)
      → AllByRecursion (IsGated h es) xs → AllByRecursion (Gated b.priority) (map flow_of xs)
  gated-map es b best [] a = tt
  gated-map es b best (x ∷ xs) a = (
    record {
      priority = a.0.priority;
      exact = λ t p. best-at (λ (d : PhysEntry). holds d.m h ≡ true
          → d.priority ≤ x.priority) best (a.0.exact t p) (best-passes best);
    },
    gated-map es b best xs a.1,
  )

  by_rank : (b e : FlowEntry) → holds e.m h ≡ true → Gated b.priority e → e.priority < b.priority → (x y : Bool)
      → is_one_header e.m ≡ x → (if y then 65536 else b.priority) ≤ (if x then 65536 else e.priority) → ⊥
  by_rank b e p g lt true y t le = let n : b.priority ≤ e.priority = g.exact t p in omega arith
  by_rank b e p g lt false true t le = let n : e.priority < 2 ^ 16 = g.priority in omega arith
  by_rank b e p g lt false false t le = omega arith

  lower-used : {table : List FlowEntry} {b e : FlowEntry} → IsBestFlow table b → Gated b.priority e → IsUsable table h e
      → e.priority < b.priority → (IsTop rank_of table h e ⊎ IsTop priority_of table h e) → ⊥
  lower-used {b = b} {e = e} best g u lt (inl top) =
      by_rank b e u.holds_it g lt (is_one_header e.m) (is_one_header b.m) refl
      (best-at (λ (d : FlowEntry). holds d.m h ≡ true → rank_of d ≤ rank_of e) best top (best-passes best))
  lower-used {b = b} {e = e} best g u lt (inr top) =
      let le : b.priority ≤ e.priority = best-at (λ (d : FlowEntry). holds d.m h ≡ true
      → d.priority ≤ e.priority) best top (best-passes best) in omega arith

  same-used : {table : List FlowEntry} {b e : FlowEntry} → IsBestFlow table b → Gated b.priority e → IsUsable table h e
      → (e ≡ b) ⊎ (e.priority < b.priority) → Some e ≡ Some b
  same-used best g u (inl is) = ap Some is
  same-used best g u (inr lt) = absurd (lower-used best g u lt u.highest)

  best-used : {table : List FlowEntry} {b : FlowEntry} → IsBestFlow table b → AllByRecursion (Gated b.priority) table
      → (used : Option FlowEntry) → MayUse table h used → used ≡ Some b
  best-used best g None none = let p = best-passes best in let q =
      best-at (λ (d : FlowEntry). holds d.m h ≡ false) best none in cc
  best-used {table = table} {b = b} best g (Some e) u = let i = from-place e table u.stands in
      same-used best (in-all (Gated b.priority) i g) u (in-best i best u.holds_it)

-- the law
pub best-is-used : BestIsUsed
best-is-used es h b best gated used may =
    best-used h (best-in-table h es b best)
    (gated-map h es b best (one_per_key es)
    (all-filter (IsGated h es) (λ (e : PhysEntry). not (list_any (λ (d : PhysEntry). displaces d e) es)) es gated))
    used may
