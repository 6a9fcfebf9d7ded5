-- What holds of all entries that stand holds of those that are installed, and the other way round.
use Rattle.std.proofs.Common.{◌≡◌, ◌<◌, ◌⊎◌, inl, inr, Bool, true, false, List, [], ◌∷◌, map, refl, Contains}
use Rattle.std.specs.Prelude.{if◌then◌else◌}
use Rattle.std.specs.List.{AllByRecursion}
use Rattle.std.specs.Ordering.{is_le}
use Rattle.std.proofs.lemmas.List.Elements.{All-contains, All-contains_itself, All-from_recursion, recursion_from_All}
use Rattle.of10_match.specs.Fields.{HeaderOf}
use Rattle.of10_match.specs.Matching.{holds}
use Rattle.switch_meaning.specs.BestLaw.{IsBestEntry, first, later}
use Rattle.switch_meaning.specs.Batches.{by_key, key_cmp, put_by_key}
use Rattle.switch_meaning.specs.Keys.{flow_of}
use Rattle.switch_meaning.specs.declared.entry.PhysEntry.{PhysEntry}

module _ (P : PhysEntry → Type 0) where
  into-put : (e : PhysEntry) (ds : List PhysEntry) → P e → AllByRecursion P ds → AllByRecursion P (put_by_key e ds)
  into-put e [] p a = (p, tt)
  into-put e (d ∷ ds) p a = by (is_le (key_cmp e d)) (into-put e ds p a.1)
    where
      by : (b : Bool) → AllByRecursion P (put_by_key e ds)
          → AllByRecursion P (if b then e ∷ d ∷ ds else d ∷ put_by_key e ds)
      by true rest = (p, a)
      by false rest = (a.0, rest)

  out-of-put : (e : PhysEntry) (ds : List PhysEntry) → AllByRecursion P (put_by_key e ds) → P e × AllByRecursion P ds
  out-of-put e [] a = a
  out-of-put e (d ∷ ds) a = by (is_le (key_cmp e d)) a (out-of-put e ds)
    where
      by : (b : Bool) → AllByRecursion P (if b then e ∷ d ∷ ds else d ∷ put_by_key e ds)
          → (AllByRecursion P (put_by_key e ds) → P e × AllByRecursion P ds) → P e × AllByRecursion P (d ∷ ds)
      by true q f = q
      by false q f = let r = f q.1 in (r.0, (q.0, r.1))

  -- of entries in order, and of the same ones in any order
  pub all-sorted : (es : List PhysEntry) → AllByRecursion P es → AllByRecursion P (by_key es)
  all-sorted [] a = tt
  all-sorted (e ∷ es) a = into-put e (by_key es) a.0 (all-sorted es a.1)

  pub of-sorted : (es : List PhysEntry) → AllByRecursion P (by_key es) → AllByRecursion P es
  of-sorted [] a = tt
  of-sorted (e ∷ es) a = let r = out-of-put e (by_key es) a in (r.0, of-sorted es r.1)

pub all-into : {A B : Type 0} (f : A → B) (P : B → Type 0) (xs : List A) → AllByRecursion (λ x. P (f x)) xs
    → AllByRecursion P (map f xs)
all-into f P [] a = tt
all-into f P (x ∷ xs) a = (a.0, all-into f P xs a.1)

pub all-out : {A B : Type 0} (f : A → B) (P : B → Type 0) (xs : List A) → AllByRecursion P (map f xs)
    → AllByRecursion (λ x. P (f x)) xs
all-out f P [] a = tt
all-out f P (x ∷ xs) a = (a.0, all-out f P xs a.1)

-- what holds of all holds of one of them
pub at-one : {A : Type 0} (P : A → Type 0) (xs : List A) (x : A) → Contains xs x → AllByRecursion P xs → P x
at-one P xs x there a = All-contains P xs x (All-from_recursion P xs a) there

-- each entry is among those of the table
pub among : (es : List PhysEntry) → AllByRecursion (λ e. Contains (map flow_of es) (flow_of e)) es
among es =
    all-out flow_of (Contains (map flow_of es)) es
    (recursion_from_All (Contains (map flow_of es)) (map flow_of es) (All-contains_itself (map flow_of es)))

-- an entry that holds the header is the best, or below it
abbrev pub BestOrBelow : HeaderOf → PhysEntry → PhysEntry → Type 0
BestOrBelow h b d = holds d.m h ≡ true → (d ≡ b) ⊎ (d.priority < b.priority)

all-below : (h : HeaderOf) (b : PhysEntry) (xs : List PhysEntry)
    → AllByRecursion (λ (d : PhysEntry). holds d.m h ≡ true → d.priority < b.priority) xs
    → AllByRecursion (BestOrBelow h b) xs
all-below h b [] a = tt
all-below h b (x ∷ xs) a = (λ p. inr (a.0 p), all-below h b xs a.1)

pub best-or-below : (h : HeaderOf) {es : List PhysEntry} {b : PhysEntry} → IsBestEntry h es b
    → AllByRecursion (BestOrBelow h b) es
best-or-below h (first {x = b} {xs = es} p a) = (λ _. inl refl, all-below h b es a)
best-or-below h (later {x = b} {y = d} {xs = es} lt best) = (λ p. inr (lt p), best-or-below h best)
