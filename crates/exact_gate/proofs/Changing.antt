-- What a change touches, and what it leaves.
use Rattle.std.proofs.Common.{◌≡◌, Bool, true, false, ◌&&◌, ◌||◌, List, [], ◌∷◌, ◌++◌, refl, sym, ap, ap₂, ◌∙◌, map}
use Rattle.std.specs.Prelude.{flat_map, not}
use Rattle.std.specs.List.{All, list_any}
use Rattle.std.proofs.lemmas.List.Elements.{recursion_from_All}
use Rattle.of10_match.proofs.Twelve.{and_under}
use Rattle.switch_meaning.specs.Keys.{passes_over, passing}
use Rattle.switch_meaning.specs.declared.entry.PhysEntry.{PhysEntry}
use Rattle.switch_meaning.proofs.Items.{fails}
use Rattle.switch_meaning.proofs.Members.{any-passes, in-all, passes-any}
use Rattle.exact_gate.specs.Gates.{IsChanged, IsDifference}
use Rattle.exact_gate.specs.InsideChanges.{IsNoted, IsTouched, come_of, left_of, noted, touched_of}
use Rattle.exact_gate.specs.Standing.{HaveSame, key_of, one_key, standing, stands_in, without}
use Rattle.exact_gate.specs.declared.delta.Touched.{Touched}
use Rattle.exact_gate.specs.declared.key.Key.{Key}
use Rattle.exact_gate.proofs.Standing.{bool-same, in-stands, key-flip, stands-append, stands-in, stands-passing}
use Rattle.exact_gate.proofs.Standing.{stands-standing, stands-without}

-- nothing of these, so as it was
unchanged : (s g c : Bool) → g ≡ false → c ≡ false → ((s && not g) || c) ≡ s
unchanged true true c e f = cc
unchanged true false true e f = cc
unchanged true false false e f = refl
unchanged false g c e f = f

stays : (s g c : Bool) → s ≡ true → g ≡ false → ((s && not g) || c) ≡ true
stays true true c e f = cc
stays true false c e f = refl
stays false g c e f = cc

was_there : (s g c : Bool) → ((s && not g) || c) ≡ true → c ≡ false → s ≡ true
was_there true g c e f = refl
was_there false g c e f = sym f ∙ e

module _ (old new gone come : List PhysEntry) (keys : List Key) (changed : IsChanged old gone come new)
    (g : All (IsNoted old keys) gone) (c : All (IsNoted old keys) come) where
  is-noted : (ds : List PhysEntry) (d : PhysEntry) → All (IsNoted old keys) ds → stands_in ds d ≡ true
      → IsNoted old keys d
  is-noted ds d a t = in-all (IsNoted old keys) (stands-in ds d t) (recursion_from_All (IsNoted old keys) ds a)

  module _ (e : PhysEntry) (n : noted keys (key_of e) ≡ false) where
    not-among : (ds : List PhysEntry) → All (IsNoted old keys) ds → stands_in ds e ≡ false
    not-among ds a = fails (stands_in ds e) (λ t. let o = (is-noted ds e a t).own in cc)

    kept : stands_in new e ≡ stands_in old e
    kept = changed e ∙ unchanged (stands_in old e) (stands_in gone e) (stands_in come e) (not-among gone g)
        (not-among come c)

    -- what passes it over is none of these
    none-over : (ds : List PhysEntry) (d : PhysEntry) → All (IsNoted old keys) ds → stands_in old e ≡ true
        → passes_over d e ≡ true → stands_in ds d ≡ false
    none-over ds d a s p = fails (stands_in ds d) (λ t. let o = (is-noted ds d a t).under e s p in cc)

    over-same : stands_in old e ≡ true
        → list_any (λ (d : PhysEntry). passes_over d e) old ≡ list_any (λ (d : PhysEntry). passes_over d e) new
    over-same s =
        let over = λ (d : PhysEntry). passes_over d e in
        bool-same (list_any over old) (list_any over new)
        (λ t. let p = any-passes over old t in
        passes-any over (stands-in new p.item (changed p.item
        ∙ stays (stands_in old p.item) (stands_in gone p.item) (stands_in come p.item) (in-stands old p.item p.stands)
        (none-over gone p.item g s p.passes))) p.passes)
        (λ t. let p = any-passes over new t in
        passes-any over
        (stands-in old p.item (was_there (stands_in old p.item) (stands_in gone p.item) (stands_in come p.item)
        (sym (changed p.item) ∙ in-stands new p.item p.stands) (none-over come p.item c s p.passes))) p.passes)

    -- what has no key that is noted passes as before
    pub unnoted : stands_in (passing old) e ≡ stands_in (passing new) e
    unnoted =
        let over = λ (d : PhysEntry). passes_over d e in
        stands-passing old e
        ∙ (and_under (stands_in old e) (not (list_any over old)) (not (list_any over new)) (λ s. ap not (over-same s))
        ∙ (ap (λ b. b && not (list_any over new)) (sym kept) ∙ sym (stands-passing new e)))

-- the entries of a key that pass among the first and not among the second
abbrev pub between : List PhysEntry → List PhysEntry → Key → List PhysEntry
between p q k = without (standing p k) (standing q k)

one_more : (p q k n : Bool) → (((p && k) && not (q && k)) || (n && (p && not q))) ≡ ((k || n) && (p && not q))
one_more true true true true = refl
one_more true true true false = refl
one_more true true false true = refl
one_more true true false false = refl
one_more true false true n = refl
one_more true false false n = refl
one_more false q true true = refl
one_more false q true false = refl
one_more false q false true = refl
one_more false q false false = refl

-- what passes among the first and not among the second, of the keys
pub all-between : (p q : List PhysEntry) (keys : List Key) (e : PhysEntry)
    → stands_in (flat_map (between p q) keys) e
    ≡ (noted keys (key_of e) && (stands_in (passing p) e && not (stands_in (passing q) e)))
all-between p q [] e = refl
all-between p q (k ∷ ks) e =
    stands-append (between p q k) (flat_map (between p q) ks) e
    ∙ (ap₂ (λ a b. a || b)
    (stands-without (standing p k) (standing q k) e
    ∙ ap₂ (λ a b. a && not b) (stands-standing p k e) (stands-standing q k e))
    (all-between p q ks e)
    ∙ (one_more (stands_in (passing p) e) (stands_in (passing q) e) (one_key k (key_of e)) (noted ks (key_of e))
    ∙ ap (λ b. (b || noted ks (key_of e)) && (stands_in (passing p) e && not (stands_in (passing q) e)))
    (key-flip k (key_of e))))

-- of equal tests the one doesn't pass without the other
none_apart : (p q : Bool) → p ≡ q → (p && not q) ≡ false
none_apart true true e = refl
none_apart true false e = cc
none_apart false q e = refl

only_noted : (n p q : Bool) → (n ≡ false → p ≡ q) → (n && (p && not q)) ≡ (p && not q)
only_noted true p q h = refl
only_noted false p q h = sym (none_apart p q (h refl))

pub left-is : (old new : List PhysEntry) (keys : List Key)
    → flat_map (left_of new) (map (touched_of old) keys) ≡ flat_map (between old new) keys
left-is old new [] = refl
left-is old new (k ∷ ks) = ap (λ xs. between old new k ++ xs) (left-is old new ks)

pub come-is : (old new : List PhysEntry) (keys : List Key)
    → flat_map (come_of new) (map (touched_of old) keys) ≡ flat_map (between new old) keys
come-is old new [] = refl
come-is old new (k ∷ ks) = ap (λ xs. between new old k ++ xs) (come-is old new ks)

module _ (old new gone come : List PhysEntry) (touched : List Touched) (changed : IsChanged old gone come new)
    (t : IsTouched old gone come touched) where
  -- what left
  pub left-exact : IsDifference (passing old) (passing new) (flat_map (left_of new) touched)
  left-exact e =
      ap (λ ts. stands_in (flat_map (left_of new) ts) e) t.is
      ∙ (ap (λ xs. stands_in xs e) (left-is old new t.keys)
      ∙ (all-between old new t.keys e
      ∙ only_noted (noted t.keys (key_of e)) (stands_in (passing old) e) (stands_in (passing new) e)
      (unnoted old new gone come t.keys changed t.going t.coming e)))

  -- what came
  pub come-exact : IsDifference (passing new) (passing old) (flat_map (come_of new) touched)
  come-exact e =
      ap (λ ts. stands_in (flat_map (come_of new) ts) e) t.is
      ∙ (ap (λ xs. stands_in xs e) (come-is old new t.keys)
      ∙ (all-between new old t.keys e
      ∙ only_noted (noted t.keys (key_of e)) (stands_in (passing new) e) (stands_in (passing old) e)
      (λ n. sym (unnoted old new gone come t.keys changed t.going t.coming e n))))

-- a difference of lists is one of others that have the same entries
pub difference-same : (xs ys us vs ds : List PhysEntry) → HaveSame xs us → HaveSame ys vs → IsDifference xs ys ds
    → IsDifference us vs ds
difference-same xs ys us vs ds f h d e = d e ∙ ap₂ (λ a b. a && not b) (f e) (h e)
