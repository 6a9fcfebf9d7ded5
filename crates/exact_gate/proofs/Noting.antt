-- Keys that are noted.
use Rattle.std.proofs.Common.{◌≡◌, ◌∙◌, ℕ, ◌+◌, ◌<◌, Bool, true, false, ◌||◌, List, [], ◌∷◌, ◌++◌, get_or, length, refl}
use Rattle.std.proofs.Common.{sym, ap, subst, take}
use Rattle.std.specs.Prelude.{if◌then◌else◌}
use Rattle.std.specs.List.{All, list_any}
use Rattle.std.proofs.lemmas.List.Elements.{All-push, All-weaker}
use Rattle.std.proofs.lemmas.List.Folds.{list_any-append}
use Rattle.indexmap.specs.IndexSet.{insert_key}
use Rattle.match_index.proofs.Lists.{take_pushed}
use Rattle.switch_meaning.specs.declared.entry.PhysEntry.{PhysEntry}
use Rattle.exact_gate.specs.Finding.{tops}
use Rattle.exact_gate.specs.InsideChanges.{IsNoted, noted}
use Rattle.exact_gate.specs.Standing.{key_of, one_key, stands_in}
use Rattle.exact_gate.specs.declared.key.Key.{Key}
use Rattle.exact_gate.proofs.Standing.{bool-same, key-self, key_decides, or-false}

noted-push : (keys : List Key) (x k : Key) → noted (keys ++ x ∷ []) k ≡ (noted keys k || one_key k x)
noted-push keys x k = list_any-append (one_key k) keys (x ∷ []) ∙ ap (λ b. noted keys k || b) (or-false (one_key k x))

-- what is noted already adds nothing
noted_already : (keys : List Key) (x k : Key) → noted keys x ≡ true → noted keys k ≡ (noted keys k || one_key k x)
noted_already keys x k n = bool-same (noted keys k) (noted keys k || one_key k x) (λ t. ap (λ b. b || one_key k x) t)
    (λ t. by (noted keys k) refl t)
  where
    by : (b : Bool) → noted keys k ≡ b → (b || one_key k x) ≡ true → noted keys k ≡ true
    by true s t = s
    by false s t = ap (noted keys) ((key_decides k x).0 t) ∙ n

-- one key more
pub noted-inserted : (keys : List Key) (x k : Key)
    → noted (insert_key one_key keys x) k ≡ (noted keys k || one_key k x)
noted-inserted keys x k = by (list_any (one_key x) keys) refl
  where
    by : (b : Bool) → list_any (one_key x) keys ≡ b
        → noted (if b then keys else keys ++ x ∷ []) k ≡ (noted keys k || one_key k x)
    by true t = noted_already keys x k t
    by false t = noted-push keys x k

-- one more of those that are to be noted
pub noted-more : (old now new more : List Key) (i : ℕ) (x : Key) → i < length more → x ≡ get_or more i x
    → ((k : Key) → noted now k ≡ (noted old k || noted (take i more) k))
    → ((k : Key) → noted new k ≡ (noted now k || one_key k x))
    → (k : Key) → noted new k ≡ (noted old k || noted (take (i + 1) more) k)
noted-more old now new more i x lt is f g k =
    g k ∙ (ap (λ b. b || one_key k x) (f k) ∙ (or_assoc (noted old k) (noted (take i more) k) (one_key k x)
    ∙ ap (λ b. noted old k || b)
    (sym (ap (λ ks. noted ks k) (take_pushed more i x lt is) ∙ noted-push (take i more) x k))))
  where
    or_assoc : (a b c : Bool) → ((a || b) || c) ≡ (a || (b || c))
    or_assoc true b c = refl
    or_assoc false b c = refl

or-left : (a b : Bool) → a ≡ true → (a || b) ≡ true
or-left true b e = refl
or-left false b e = cc

or-right : (a b : Bool) → b ≡ true → (a || b) ≡ true
or-right true b e = refl
or-right false b e = e

-- the key of an entry is noted, and then those that it passes over
pub entry-noted : (pool : List PhysEntry) (old mid new more : List Key) (d : PhysEntry) (key : Key) → key ≡ key_of d
    → ((k : Key) → noted mid k ≡ (noted old k || one_key k key))
    → ((k : Key) → noted new k ≡ (noted mid k || noted more k))
    → ((e : PhysEntry) → stands_in pool e ≡ true → tops key.m key.priority e.m e.priority ≡ true
    → list_any (one_key (key_of e)) more ≡ true) → IsNoted pool new d
entry-noted pool old mid new more d key is f g r = record {
  own = g (key_of d) ∙ or-left (noted mid (key_of d)) (noted more (key_of d))
      (f (key_of d) ∙ or-right (noted old (key_of d)) (one_key (key_of d) key)
      (ap (one_key (key_of d)) is ∙ key-self (key_of d)));
  under = λ e s t. g (key_of e) ∙ or-right (noted mid (key_of e)) (noted more (key_of e))
      (r e s (ap (λ (k : Key). tops k.m k.priority e.m e.priority) is ∙ t));
}

-- more keys note no less
pub noted-on : (pool : List PhysEntry) (keys more : List Key)
    → ((k : Key) → noted keys k ≡ true → noted more k ≡ true) → (d : PhysEntry) → IsNoted pool keys d
    → IsNoted pool more d
noted-on pool keys more f d n = record { own = f (key_of d) n.own; under = λ e s t. f (key_of e) (n.under e s t) }

pub all-noted-on : (pool : List PhysEntry) (keys more : List Key) (ds : List PhysEntry)
    → ((k : Key) → noted keys k ≡ true → noted more k ≡ true) → All (IsNoted pool keys) ds
    → All (IsNoted pool more) ds
all-noted-on pool keys more ds f a = All-weaker (IsNoted pool keys) (IsNoted pool more) (noted-on pool keys more f) ds a

-- one more entry
pub all-noted : (pool : List PhysEntry) (keys more : List Key) (ds : List PhysEntry) (i : ℕ) (d : PhysEntry)
    → i < length ds → d ≡ get_or ds i d → ((k : Key) → noted keys k ≡ true → noted more k ≡ true)
    → All (IsNoted pool keys) (take i ds) → IsNoted pool more d → All (IsNoted pool more) (take (i + 1) ds)
all-noted pool keys more ds i d lt is f a n =
    let P : List PhysEntry → Type 0 = All (IsNoted pool more) in
    subst P (sym (take_pushed ds i d lt is))
    (All-push (IsNoted pool more) (take i ds) d (all-noted-on pool keys more (take i ds) f a) n)
