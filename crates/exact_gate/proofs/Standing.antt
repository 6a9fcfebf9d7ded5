-- What stands in lists of entries.
use Rattle.std.proofs.Common.{◌≡◌, Bool, true, false, ◌&&◌, ◌||◌, List, [], ◌∷◌, ◌++◌, refl, sym, ap, ap₂, subst, ◌∙◌}
use Rattle.std.proofs.Common.{Decides}
use Rattle.std.specs.Prelude.{filter, not, if◌then◌else◌}
use Rattle.std.specs.Cmp.{IsEquivalence}
use Rattle.std.specs.List.{list_any}
use Rattle.std.proofs.lemmas.Bool.Decides.{Decides-and, Decides-eqb, Decides-like}
use Rattle.std.proofs.lemmas.List.Folds.{list_any-append}
use Rattle.of10_match.specs.Same.{same_match}
use Rattle.of10_match.proofs.Same.{match_decides}
use Rattle.switch_meaning.specs.Keys.{displaces, passes_over, passing}
use Rattle.switch_meaning.specs.Same.{same_entry}
use Rattle.switch_meaning.specs.declared.entry.PhysEntry.{PhysEntry}
use Rattle.switch_meaning.proofs.Alike.{entry_decides}
use Rattle.switch_meaning.proofs.Items.{join_and, split_and}
use Rattle.switch_meaning.proofs.Members.{IsIn, any-passes, filter-in, in-filter, passes-any}
use Rattle.exact_gate.specs.GateLaw.{SameIsInstalled}
use Rattle.exact_gate.specs.Standing.{HaveSame, inserted, key_of, one_key, removed, standing, stands_in, without}
use Rattle.exact_gate.specs.declared.key.Key.{Key}

-- two tests that pass together are one
pub bool-same : (a b : Bool) → (a ≡ true → b ≡ true) → (b ≡ true → a ≡ true) → a ≡ b
bool-same true b f g = sym (f refl)
bool-same false true f g = g refl
bool-same false false f g = refl

-- the test of equality of keys decides it
pub key_decides : (k l : Key) → Decides (one_key k l) (k ≡ l)
key_decides k l =
    Decides-like (one_key k l)
    (λ (t : (k.m ≡ l.m) × (k.priority ≡ l.priority)). λ i. record { m = t.0 i; priority = t.1 i })
    (λ e. (ap (λ (z : Key). z.m) e, ap (λ (z : Key). z.priority) e))
    (Decides-and (same_match k.m l.m) _ (match_decides k.m l.m) (Decides-eqb k.priority l.priority))

pub key-self : (k : Key) → one_key k k ≡ true
key-self k = (key_decides k k).1 refl

pub key-flip : (k l : Key) → one_key k l ≡ one_key l k
key-flip k l = bool-same (one_key k l) (one_key l k) (λ t. (key_decides l k).1 (sym ((key_decides k l).0 t)))
    (λ t. (key_decides k l).1 (sym ((key_decides l k).0 t)))

pub same-self : (e : PhysEntry) → same_entry e e ≡ true
same-self e = (entry_decides e e).1 refl

pub same-flip : (d e : PhysEntry) → same_entry d e ≡ same_entry e d
same-flip d e = bool-same (same_entry d e) (same_entry e d) (λ t. (entry_decides e d).1 (sym ((entry_decides d e).0 t)))
    (λ t. (entry_decides d e).1 (sym ((entry_decides e d).0 t)))

same-congr : (d e f : PhysEntry) → same_entry d e ≡ true → same_entry d f ≡ same_entry e f
same-congr d e f t = ap (λ (z : PhysEntry). same_entry z f) ((entry_decides d e).0 t)

pub same_laws : IsEquivalence same_entry
same_laws = record { refl = same-self; symm = same-flip; congr = same-congr }

-- what stands in a list is in it
pub stands-in : (xs : List PhysEntry) (e : PhysEntry) → stands_in xs e ≡ true → IsIn e xs
stands-in xs e s = let p = any-passes (same_entry e) xs s in
    subst (λ (z : PhysEntry). IsIn z xs) (sym ((entry_decides e p.item).0 p.passes)) p.stands

pub in-stands : (xs : List PhysEntry) (e : PhysEntry) → IsIn e xs → stands_in xs e ≡ true
in-stands xs e i = passes-any (same_entry e) i (same-self e)

-- of a list what passes a test
pub stands-filter : (p : PhysEntry → Bool) (xs : List PhysEntry) (e : PhysEntry)
    → stands_in (filter p xs) e ≡ (stands_in xs e && p e)
stands-filter p xs e =
    bool-same (stands_in (filter p xs) e) (stands_in xs e && p e)
    (λ t. let r = filter-in p e xs (stands-in (filter p xs) e t) in
    join_and (stands_in xs e) (p e) (in-stands xs e r.0) r.1)
    (λ t. let s = split_and (stands_in xs e) (p e) t in
    in-stands (filter p xs) e (in-filter p (stands-in xs e s.0) s.1))

pub stands-without : (xs ys : List PhysEntry) (e : PhysEntry)
    → stands_in (without xs ys) e ≡ (stands_in xs e && not (stands_in ys e))
stands-without xs ys e = stands-filter (λ (d : PhysEntry). not (stands_in ys d)) xs e

pub stands-removed : (xs : List PhysEntry) (x e : PhysEntry)
    → stands_in (removed xs x) e ≡ (stands_in xs e && not (same_entry e x))
stands-removed xs x e = stands-filter (λ (d : PhysEntry). not (same_entry x d)) xs e
    ∙ ap (λ b. stands_in xs e && not b) (same-flip x e)

pub stands-append : (xs ys : List PhysEntry) (e : PhysEntry)
    → stands_in (xs ++ ys) e ≡ (stands_in xs e || stands_in ys e)
stands-append xs ys e = list_any-append (same_entry e) xs ys

pub or-false : (b : Bool) → (b || false) ≡ b
or-false true = refl
or-false false = refl

pub stands-push : (xs : List PhysEntry) (x e : PhysEntry)
    → stands_in (xs ++ x ∷ []) e ≡ (stands_in xs e || same_entry e x)
stands-push xs x e = stands-append xs (x ∷ []) e ∙ ap (λ b. stands_in xs e || b) (or-false (same_entry e x))

-- what is there already adds nothing
pub there-already : (xs : List PhysEntry) (x e : PhysEntry) → stands_in xs x ≡ true
    → stands_in xs e ≡ (stands_in xs e || same_entry e x)
there-already xs x e there =
    bool-same (stands_in xs e) (stands_in xs e || same_entry e x) (λ t. ap (λ b. b || same_entry e x) t)
    (λ t. by (stands_in xs e) refl t)
  where
    by : (b : Bool) → stands_in xs e ≡ b → (b || same_entry e x) ≡ true → stands_in xs e ≡ true
    by true s t = s
    by false s t = ap (stands_in xs) ((entry_decides e x).0 t) ∙ there

-- what is not there takes nothing away
pub absent-already : (xs : List PhysEntry) (x e : PhysEntry) → stands_in xs x ≡ false
    → stands_in xs e ≡ (stands_in xs e && not (same_entry e x))
absent-already xs x e absent =
    bool-same (stands_in xs e) (stands_in xs e && not (same_entry e x))
    (λ t. join_and (stands_in xs e) (not (same_entry e x)) t (by (same_entry e x) refl t))
    (λ t. (split_and (stands_in xs e) (not (same_entry e x)) t).0)
  where
    by : (b : Bool) → same_entry e x ≡ b → stands_in xs e ≡ true → not b ≡ true
    by true s t = sym absent ∙ (ap (stands_in xs) (sym ((entry_decides e x).0 s)) ∙ t)
    by false s t = refl

pub stands-inserted : (xs : List PhysEntry) (x e : PhysEntry)
    → stands_in (inserted xs x) e ≡ (stands_in xs e || same_entry e x)
stands-inserted xs x e = by (stands_in xs x) refl
  where
    by : (b : Bool) → stands_in xs x ≡ b
        → stands_in (if b then xs else xs ++ x ∷ []) e ≡ (stands_in xs e || same_entry e x)
    by true t = there-already xs x e t
    by false t = stands-push xs x e

-- of lists that have the same entries the same pass tests
any-in : (t : PhysEntry → Bool) (xs ys : List PhysEntry) → HaveSame xs ys → list_any t xs ≡ true
    → list_any t ys ≡ true
any-in t xs ys h a = let p = any-passes t xs a in
    passes-any t (stands-in ys p.item (sym (h p.item) ∙ in-stands xs p.item p.stands)) p.passes

pub any-same : (t : PhysEntry → Bool) (xs ys : List PhysEntry) → HaveSame xs ys → list_any t xs ≡ list_any t ys
any-same t xs ys h = bool-same (list_any t xs) (list_any t ys) (any-in t xs ys h) (any-in t ys xs (λ e. sym (h e)))

-- nothing of the list is ahead of the entry, by a test
abbrev pub is_first : (PhysEntry → PhysEntry → Bool) → List PhysEntry → PhysEntry → Bool
is_first ahead xs e = not (list_any (λ (d : PhysEntry). ahead d e) xs)

first-same : (ahead : PhysEntry → PhysEntry → Bool) (xs ys : List PhysEntry) → HaveSame xs ys
    → HaveSame (filter (is_first ahead xs) xs) (filter (is_first ahead ys) ys)
first-same ahead xs ys h e =
    stands-filter (is_first ahead xs) xs e
    ∙ (ap₂ (λ a b. a && not b) (h e) (any-same (λ (d : PhysEntry). ahead d e) xs ys h)
    ∙ sym (stands-filter (is_first ahead ys) ys e))

pub passing-same : (xs ys : List PhysEntry) → HaveSame xs ys → HaveSame (passing xs) (passing ys)
passing-same xs ys h = first-same passes_over xs ys h

pub stands-passing : (xs : List PhysEntry) (e : PhysEntry)
    → stands_in (passing xs) e ≡ (stands_in xs e && not (list_any (λ (d : PhysEntry). passes_over d e) xs))
stands-passing xs e = stands-filter (is_first passes_over xs) xs e

pub stands-standing : (xs : List PhysEntry) (k : Key) (e : PhysEntry)
    → stands_in (standing xs k) e ≡ (stands_in (passing xs) e && one_key k (key_of e))
stands-standing xs k e = stands-filter (λ (d : PhysEntry). one_key k (key_of d)) (passing xs) e

-- the law
pub same-is-installed : SameIsInstalled
same-is-installed xs ys h = record {
  passing = passing-same xs ys h;
  installed = first-same displaces (passing xs) (passing ys) (passing-same xs ys h);
}
